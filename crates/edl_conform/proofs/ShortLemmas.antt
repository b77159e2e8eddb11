-- A transition that is carried has an overlap of at most 999 frames.
use Rattle.std.proofs.Common.{◌≡◌, refl, sym, subst, ℤ, pos, ◌+ℤ◌, ◌-ℤ◌, ◌*ℤ◌, ◌≤ℤ◌, ◌&&◌, ◌||◌, Bool, true, false, not, [], ◌∷◌, Option, Some, None, IfSome, arith}
use Rattle.std.specs.Prelude.{int_lt}
use Rattle.std.proofs.lemmas.Int.{ints}
use Rattle.coord.specs.Looks.{Overlap}
use Rattle.coord.specs.Images.{kind_of}
use Rattle.coord.specs.Sights.{overlap_of}
use Rattle.edl_list.specs.declared.list.Channel.{Channel}
use Rattle.edl_list.specs.declared.list.Channel.TheVariants.{V}
use Rattle.edl_frames.specs.Jobs as D
use Rattle.edl_frames.specs.Jobs.{ticks_of}
use Rattle.edl_frames.specs.Seats as T
use Rattle.edl_frames.specs.ChildEvents as E
use Rattle.edl_frames.specs.ChildReasons as C
use Rattle.edl_frames.specs.declared.reasons.Why.TheVariants as W
use Rattle.edl_conform.specs.declared.list_settings.Job.{Job}
use Rattle.edl_conform.specs.declared.child_context.Lap.{Lap}
use Rattle.edl_conform.specs.declared.draft_events.Draft.{Draft}
use Rattle.edl_conform.specs.declared.overlaps.Overlap.{Overlap as OverlapRow}
use Rattle.edl_conform.specs.Shots.{stated_overlap}
use Rattle.edl_conform.specs.declared.child_context.ChildContext.{ChildContext}
use Rattle.edl_conform.specs.Stated.{stated_job, stated_seat}
use Rattle.edl_conform.specs.Seated.{IsCarried, IsPast, IsShort, IsShortSeat}

third : (a b d p : Bool)
    → C.first_that ((a, W.OffFrame) ∷ (b, W.Kind) ∷ (d, W.Overlap) ∷ (p, W.RecordDay) ∷ []) ≡ None
    → d ≡ false
third true b d p h = absurd (cc h)
third false true d p h = absurd (cc h)
third false false true p h = absurd (cc h)
third false false false p h = refl

last : (a b c : Bool) → (a || (b || c)) ≡ false → c ≡ false
last true b c h = absurd (cc h)
last false true c h = absurd (cc h)
last false false c h = h

not_less : (a b : ℤ) → int_lt a b ≡ false → b ≤ℤ a
not_less a b h = grind (arith, ints)

lap_short : (j : D.Job) (c : Channel) (s : T.Seat) (o : Overlap) → overlap_of s.item ≡ Some o
    → C.reason_of j c s ≡ None → (o.before +ℤ o.after) ≤ℤ (pos 999 *ℤ ticks_of j)
lap_short j c s o e h =
    let P : Option Overlap → Type 0 =
    λ w. C.first_that (elim w [ None ↦ C.item_tests j c s | Some u ↦ C.transition_tests j c s u ])
    ≡ None in
    let f = subst P e h in
    let bad = third (not (D.is_on_frame j s.start && C.is_lap_on_frame j s o))
    (T.is_there (T.lap_at s.start o) && C.is_other_kind (kind_of o.kind)) (C.is_bad_lap j s o)
    (C.is_past_record j (E.event_of j c s)) f in
    not_less (pos 999 *ℤ ticks_of j) (o.before +ℤ o.after)
    (last (int_lt (s.start -ℤ o.before) s.past.low)
    (int_lt (C.end_behind s.start s.next) (s.start +ℤ o.after))
    (int_lt (pos 999 *ℤ ticks_of j) (o.before +ℤ o.after)) bad)

-- so it is with a child that is carried
pub carried_short : (job : Job) (seat : ChildContext) → IsCarried job seat → IsPast job.ticks seat.past
    → IsShortSeat job.ticks seat
carried_short job seat h past = record {
  past = past.short;
  own = λ o e. subst (λ z. (o.before +ℤ o.after) ≤ℤ (pos 999 *ℤ z)) (sym job.ticks_are)
      (lap_short (stated_job job) V (stated_seat seat) o e (h V));
}

abbrev HasShort : ℤ → Option Draft → Type 0
HasShort ticks o = IfSome o (λ d. IfSome d.lap (IsShort ticks))

lap_in : (ticks n : ℤ) (lap : Option Lap) → IfSome lap (λ l. (l.end -ℤ l.begin) ≡ n)
    → n ≤ℤ (pos 999 *ℤ ticks) → IfSome lap (IsShort ticks)
lap_in ticks n None h k = h
lap_in ticks n (Some l) h k = subst (λ z. z ≤ℤ (pos 999 *ℤ ticks)) (sym h) k

-- an event that begins with an overlap that isn't too long
pub draft_short : (ticks : ℤ) (o : Option Draft) (lap : Option Lap) → IfSome o (λ d. d.lap ≡ lap)
    → IfSome lap (IsShort ticks) → HasShort ticks o
draft_short ticks None lap e h = e
draft_short ticks (Some d) lap e h = subst (λ l. IfSome l (IsShort ticks)) (sym e) h

-- so it is with the event to black of a transition at the end
pub tail_short : (ticks : ℤ) (seat : ChildContext) (u : OverlapRow) (o : Option Draft) (lap : Option Lap)
    → Some (stated_overlap u) ≡ overlap_of seat.item.now
    → IfSome lap (λ l. (l.end -ℤ l.begin) ≡ (u.before +ℤ u.after))
    → IfSome o (λ d. d.lap ≡ lap) → IsShortSeat ticks seat → HasShort ticks o
tail_short ticks seat u o lap e long same h =
    draft_short ticks o lap same
    (lap_in ticks (u.before +ℤ u.after) lap long (h.own (stated_overlap u) (sym e)))

-- what stands behind a transition that is carried
pub after_short : (ticks : ℤ) (seat : ChildContext) (u : OverlapRow) (lap : Option Lap)
    → Some (stated_overlap u) ≡ overlap_of seat.item.now
    → IfSome lap (λ l. (l.end -ℤ l.begin) ≡ (u.before +ℤ u.after)) → IsShortSeat ticks seat
    → IfSome lap (IsShort ticks)
after_short ticks seat u lap e long h =
    lap_in ticks (u.before +ℤ u.after) lap long (h.own (stated_overlap u) (sym e))
