-- Items that show what an item below them shows.
use Rattle.std.proofs.Common.{◌≡◌, refl, sym, ap, ap₂, subst, ◌∙◌, ℕ, zero, suc, ◌+◌, ◌<◌, ◌≤◌, ◌^◌, ℤ, pos, ◌+ℤ◌, ◌-ℤ◌, ◌≤ℤ◌, ◌<ℤ◌, ◌⊎◌, inl, inr, Bool, true, false, List, [], ◌∷◌, Option, Some, None, ◌&&◌, length, take, slice_get, arith}
use Rattle.std.specs.Prelude.{int_lt}
use Rattle.std.specs.List.{Contains}
use Rattle.std.specs.Str.{bytes_eq}
use Rattle.std.proofs.lemmas.Bool.{cases_lt}
use Rattle.std.proofs.lemmas.Int.{ints}
use Rattle.tick_time.proofs.Wholes.{count-product}
use Rattle.limits.specs.Limits.{most_ticks}
use Rattle.otio_model.specs.declared.compositions.ItemOf.{ItemOf}
use Rattle.otio_model.specs.declared.compositions.ItemOf.TheVariants.{Clip, Gap, Transition, Stack, Track}
use Rattle.otio_model.specs.declared.compositions.Listed.{Listed}
use Rattle.otio_model.specs.declared.compositions.TrackOf.{TrackOf}
use Rattle.otio_model.specs.declared.compositions.StackOf.{StackOf}
use Rattle.otio_model.specs.declared.seeks.Seat.{Seat}
use Rattle.otio_model.specs.Counts.{count, count_of}
use Rattle.otio_model.specs.Kept.{reach_in, reach_of}
use Rattle.otio_model.specs.Lengths.{added, length_of, lengths, or_zero, start_of, trimmed_start}
use Rattle.otio_model.specs.Clips.{is_lit}
use Rattle.otio_model.specs.Lights.{HasNoLit, IsLastLit, may_show, shows_at, shows_of}
use Rattle.otio_model.specs.Overlaps.{offset_of, overlaps}
use Rattle.otio_model.specs.Seats.{HasNoOverlap, IsSeat, overlap_holds}
use Rattle.otio_model.specs.Trees.{items_of}
use Rattle.otio_model.proofs.KeptLemmas.{taken_all}
use Rattle.limits.proofs.IntegerTests.{int_lt-false}
use Rattle.otio_model.proofs.OverLemmas.{offset_near}
use Rattle.coord.specs.Looks.{Blank, is_blank, stack_shows, track_shows}
use Rattle.coord.specs.Programs.{kind_of}
use Rattle.coord.specs.Sights.{View, exact, looks, sight}
use Rattle.coord.specs.Soundness.{AreFaultless, IsFaultlessItem}
use Rattle.coord.specs.Speeds.{media_at, speed_of}
use Rattle.coord.proofs.ChildStarts.{start_next}
use Rattle.coord.proofs.LookSteps.{missed_before, missed_behind}
use Rattle.show_prog.specs.Walk.{shown}
use Rattle.show_prog.specs.declared.item_at.Held.{Held}
use Rattle.show_prog.proofs.ReachedItems.{none_mixed}
use Rattle.show_prog.proofs.SeatLemmas.{seated}
use Rattle.show_prog.proofs.ShowLemmas.{blank_is, inside_stack, inside_track, nothing_shown, stack_down, stack_here, track_item}
use Rattle.show_prog.proofs.SoundnessFacts.{here, stack_facts, track_facts}
use Rattle.show_prog.proofs.DarkItems.{lit_shows, stack_to, stack_unlit}
use Rattle.pull_list.specs.Parts.{IsAlone, IsBelow, IsPart, IsPlain, IsShowing, list_shows}
use Rattle.pull_list.specs.Runs.{IsLesser}
use Rattle.pull_list.specs.declared.parts.Part.{Part}
use Rattle.pull_list.specs.declared.parts.Showing.{Showing}
use Rattle.pull_list.proofs.Collecting.{clip_below}

-- ---- where no overlap is near

none_taken : (i : ℕ) → added (take i []) ≡ 0
none_taken zero = refl
none_taken (suc i) = refl

take_rises : (ns : List (Option ℕ)) (i j : ℕ) → i ≤ j → added (take i ns) ≤ added (take j ns)
take_rises [] i j h = omega (arith, none_taken i, none_taken j)
take_rises (n ∷ ns) zero j h = omega arith
take_rises (n ∷ ns) (suc i) zero h = absurd (omega (arith, h))
take_rises (None ∷ ns) (suc i) (suc j) h = take_rises ns i j (omega (arith, h))
take_rises ((Some n) ∷ ns) (suc i) (suc j) h =
    let k = take_rises ns i j (omega (arith, h)) in omega (arith, k)

starts_rise : (l : Listed) (i j : ℕ) → i ≤ j → start_of l i ≤ start_of l j
starts_rise l i j h = take_rises (lengths l) i j h

reach_within : (xs : List (ItemOf Listed)) (i : ℕ) (x : ItemOf Listed) → slice_get xs i ≡ Some x
    → reach_of x ≤ reach_in xs
reach_within [] zero x e = absurd (cc e)
reach_within [] (suc i) x e = absurd (cc e)
reach_within (y ∷ xs) zero x e =
    let same : y ≡ x = cc e in let r = ap reach_of same in omega (arith, r)
reach_within (y ∷ xs) (suc i) x e = omega (arith, reach_within xs i x e)

-- an overlap that has ended, and one that hasn't begun
ended : (x : ItemOf Listed) (w : ℤ) → pos (reach_of x) ≤ℤ w → overlaps x w ≡ false
ended (Clip c) w h = refl
ended (Gap g) w h = refl
ended (Transition t) w h =
    let n = offset_near t.out_offset in
    missed_behind (pos 0 -ℤ offset_of t.in_offset) (offset_of t.out_offset) w
    (omega (arith, ints, h, n))
ended (Stack s) w h = refl
ended (Track t) w h = refl

to_come : (x : ItemOf Listed) (w : ℤ) → w <ℤ (pos 0 -ℤ pos (reach_of x)) → overlaps x w ≡ false
to_come (Clip c) w h = refl
to_come (Gap g) w h = refl
to_come (Transition t) w h =
    let n = offset_near t.in_offset in
    missed_before (pos 0 -ℤ offset_of t.in_offset) (offset_of t.out_offset) w
    (omega (arith, ints, h, n))
to_come (Stack s) w h = refl
to_come (Track t) w h = refl

-- no overlap of the item, where there is one, holds an instant
abbrev HoldsNone : Listed → ℤ → ℕ → Option (ItemOf Listed) → Type 0
HoldsNone l w i None = false ≡ false
HoldsNone l w i (Some x) = overlaps x (w -ℤ pos (start_of l i)) ≡ false

holds_none : (l : Listed) (w : ℤ) (i : ℕ) (o : Option (ItemOf Listed))
    → slice_get (items_of l) i ≡ o → HoldsNone l w i o → overlap_holds l w i ≡ false
holds_none l w i None e h =
    ap (λ p. elim p [ None ↦ false | Some x ↦ overlaps x (w -ℤ pos (start_of l i)) ]) e
holds_none l w i (Some x) e h =
    ap (λ p. elim p [ None ↦ false | Some y ↦ overlaps y (w -ℤ pos (start_of l i)) ]) e ∙ h

-- inside of a child, further from both of its ends than any overlap reaches, none holds
pub no_overlap_near : (l : Listed) (index : ℕ) (w : ℤ)
    → pos (start_of l index + reach_in (items_of l)) ≤ℤ w
    → (w +ℤ pos (reach_in (items_of l))) <ℤ pos (start_of l (index + 1)) → HasNoOverlap l w
no_overlap_near l index w low high i =
    holds_none l w i (slice_get (items_of l) i) refl (by (slice_get (items_of l) i) refl)
  where
    side : (x : ItemOf Listed) → slice_get (items_of l) i ≡ Some x → (index < i) ⊎ (i ≤ index)
        → overlaps x (w -ℤ pos (start_of l i)) ≡ false
    side x e (inl lt) =
        let r = reach_within (items_of l) i x e in
        let s = starts_rise l (index + 1) i (omega (arith, lt)) in
        to_come x (w -ℤ pos (start_of l i)) (omega (arith, ints, r, s, high))
    side x e (inr le) =
        let r = reach_within (items_of l) i x e in let s = starts_rise l i index le in
        ended x (w -ℤ pos (start_of l i)) (omega (arith, ints, r, s, low))

    by : (o : Option (ItemOf Listed)) → slice_get (items_of l) i ≡ o → HoldsNone l w i o
    by None e = refl
    by (Some x) e = side x e (cases_lt index i)

-- ---- the child that alone is shown

shown_alone : (l : Listed) (s : Seat) (x : ItemOf Listed) (v : View) (u : ℤ) → AreFaultless l
    → count l < 2 ^ 32 → IsSeat l u s → slice_get (items_of l) s.index ≡ Some x
    → pos (start_of l s.index + reach_in (items_of l)) ≤ℤ u
    → (u +ℤ pos (reach_in (items_of l))) <ℤ pos (start_of l (s.index + 1))
    → track_shows (looks v (items_of l)) u ≡ (sight x).shows v (u -ℤ s.start)
shown_alone l s x v u sound few seat e low high =
    let held : Held = record { index = s.index; ticks = u -ℤ s.start } in
    let h = seated l u s held sound few seat refl refl in
    track_item v l u h.inside
    (none_mixed v l u sound few (omega (arith, ints, low)) (no_overlap_near l s.index u low high))
    ∙ h.shows v ∙ ap (λ o. shown v o (u -ℤ s.start)) e

pub alone_in_row : (l : Listed) (at : ℤ) (s : Seat) (x : ItemOf Listed) (w : Showing) (reach : ℕ)
    → AreFaultless l → count l < 2 ^ 32 → IsSeat l at s → slice_get (items_of l) s.index ≡ Some x
    → w.item.now ≡ x → w.ticks ≡ at -ℤ s.start → reach ≡ reach_in (items_of l)
    → pos reach ≤ℤ w.ticks
    → w.len ≡ (pos (or_zero (length_of x)) -ℤ w.ticks) -ℤ pos reach → pos 0 <ℤ w.len
    → IsAlone false l at w
alone_in_row l at s x w reach sound few seat e is t r low len some = record {
  index = s.index;
  there = e ∙ ap (λ y. Some y) (sym is);
  same = by;
  low = omega (arith, ints, low);
  high = let h = (here l s.index x e sound few).ticks in omega (arith, ints, h, len, some);
  some = some;
}
  where
    by : (v : View) (d : ℤ) → pos 0 ≤ℤ d → d <ℤ w.len
        → track_shows (looks v (items_of l)) (at +ℤ d) ≡ (sight w.item.now).shows v (w.ticks +ℤ d)
    by v d from to =
        let n = start_next l s.index x e in let a = seat.starts in let b = seat.not_before in
        let c : IsSeat l (at +ℤ d) s = record {
          within = seat.within;
          starts = a;
          not_before = omega (arith, ints, b, from);
          not_behind = omega (arith, ints, n, a, t, len, to);
        } in
        let f : (at +ℤ d) -ℤ s.start ≡ w.ticks +ℤ d = omega (arith, ints, t) in
        shown_alone l s x v (at +ℤ d) sound few c e (omega (arith, ints, a, t, r, low, from))
        (omega (arith, ints, a, n, t, r, len, to))
        ∙ ap₂ (λ (y : ItemOf Listed) (z : ℤ). (sight y).shows v z) (sym is) f

-- ---- the child of a stack that alone is shown

-- what may show nothing so far from its start, may show nothing further from it
later_unlit : (x : ItemOf Listed) (at u : ℤ) → at ≤ℤ u → may_show x at ≡ false
    → may_show x u ≡ false
later_unlit x at u h e = by (is_lit x) e
  where
    by : (b : Bool) → (b && int_lt at (pos (or_zero (length_of x)))) ≡ false
        → (b && int_lt u (pos (or_zero (length_of x)))) ≡ false
    by false f = refl
    by true f =
        let past = int_lt-false at (pos (or_zero (length_of x))) f in grind (arith, ints, past, h)

later_none : (xs : List (ItemOf Listed)) (at u : ℤ) (i : ℕ) → at ≤ℤ u → shows_at xs at i ≡ false
    → shows_at xs u i ≡ false
later_none xs at u i h e = by (slice_get xs i) e
  where
    by : (o : Option (ItemOf Listed)) → shows_of o at ≡ false → shows_of o u ≡ false
    by None f = refl
    by (Some x) f = later_unlit x at u h f

shown_in_pile : (l : Listed) (i : ℕ) (x : ItemOf Listed) (v : View) (at u : ℤ)
    → slice_get (items_of l) i ≡ Some x → i < length (items_of l) → pos 0 ≤ℤ at → at ≤ℤ u
    → u <ℤ pos (or_zero (length_of x))
    → ((j : ℕ) → i < j → j < length (items_of l) → shows_at (items_of l) at j ≡ false)
    → HasNoLit (items_of l) i at → stack_shows (looks v (items_of l)) u ≡ (sight x).shows v u
shown_in_pile l i x v at u e lt low from to above below =
    let xs : List (ItemOf Listed) = items_of l in
    let all : stack_shows (looks v xs) u ≡ stack_shows (looks v (take (length xs) xs)) u =
    ap (λ (ys : List (ItemOf Listed)). stack_shows (looks v ys) u)
    (sym (taken_all xs (length xs) (omega arith))) in
    let top = stack_to v xs (length xs) (i + 1) u (stack_shows (looks v xs) u) all
    (omega (arith, lt))
    (λ j a b. later_none xs at u j from (above j (omega (arith, a)) b)) in
    let none : stack_shows (looks v (take i xs)) u ≡ Blank =
    stack_unlit v xs i u (stack_shows (looks v (take i xs)) u) refl
    (λ j a. later_none xs at u j from (below j a)) in
    by (is_blank ((sight x).shows v u)) refl top none
  where
    by : (b : Bool) → is_blank ((sight x).shows v u) ≡ b
        → stack_shows (looks v (items_of l)) u ≡ stack_shows (looks v (take (i + 1) (items_of l))) u
        → stack_shows (looks v (take i (items_of l))) u ≡ Blank
        → stack_shows (looks v (items_of l)) u ≡ (sight x).shows v u
    by true f top none =
        stack_down v (items_of l) (i + 1) i x u (stack_shows (looks v (items_of l)) u) e
        (omega arith) top (nothing_shown v x u f)
        ∙ none ∙ sym (blank_is ((sight x).shows v u) f)
    by false f top none =
        stack_here v (items_of l) (i + 1) i x u (stack_shows (looks v (items_of l)) u) e
        (omega arith) top (omega (arith, ints, low, from)) to f

pub alone_in_pile : (l : Listed) (at : ℤ) (end i : ℕ) (x : ItemOf Listed) (w : Showing)
    → AreFaultless l → count l < 2 ^ 32 → end ≡ length (items_of l) → pos 0 ≤ℤ at
    → IsLastLit (items_of l) end at i → HasNoLit (items_of l) i at
    → slice_get (items_of l) i ≡ Some x → w.item.now ≡ x → w.ticks ≡ at
    → w.len ≡ pos (or_zero (length_of x)) -ℤ at → IsAlone true l at w
alone_in_pile l at end i x w sound few is_end low last none e is t len = record {
  index = i;
  there = e ∙ ap (λ y. Some y) (sym is);
  same = λ v d from to.
      shown_in_pile l i x v at (at +ℤ d) e (omega (arith, last.before, is_end)) low
      (omega (arith, ints, from)) (omega (arith, ints, len, to))
      (λ j a b. last.none_between j a (omega (arith, b, is_end))) none
      ∙ ap₂ (λ (y : ItemOf Listed) (z : ℤ). (sight y).shows v (z +ℤ d)) (sym is) (sym t);
  low = omega (arith, ints, t, low);
  high = let h = (here l i x e sound few).ticks in omega (arith, ints, h, t, lit);
  some = omega (arith, ints, len, lit);
}
  where
    lit : at <ℤ pos (or_zero (length_of x))
    lit = lit_shows (items_of l) end i x at last e

-- ---- further and further down

-- at its own speed an item goes one tick of its media on in each of its own
plain_ticks : (start speed u d : ℤ) → speed ≡ pos 1000000
    → media_at start speed (u +ℤ d) ≡ media_at start speed u +ℤ d
plain_ticks start speed u d e =
    let a = ap (λ s. media_at start s (u +ℤ d)) e in let b = ap (λ s. media_at start s u) e in
    let p = count-product (u +ℤ d) (pos 1000000) (omega (arith, ints)) in
    let q = count-product u (pos 1000000) (omega (arith, ints)) in omega (arith, ints, a, b, p, q)

pub showing_begins : (x : ItemOf Listed) (kind : List ℕ) (at : ℤ) (s : Showing)
    → count_of x < 2 ^ 32 → IsFaultlessItem x → pos 0 ≤ℤ at → at ≤ℤ pos most_ticks
    → s.item.now ≡ x → s.ticks ≡ at → s.len ≡ pos (2 ^ 100) → IsShowing x kind at s
showing_begins x kind at s few sound low high is t len = record {
  same = λ d from to. ap₂ (λ (y : ItemOf Listed) (z : ℤ). (sight y).shows (exact kind) (z +ℤ d))
      (sym is) (sym t);
  low = omega (arith, ints, t, low);
  high = omega (arith, ints, t, high);
  some = omega (arith, ints, len);
  most = omega (arith, ints, len);
  is_below = subst (IsBelow x) (sym is) (record { few = few; sound = sound; clips = λ c h. h });
}

pub showing_goes : (x : ItemOf Listed) (kind : List ℕ) (at u : ℤ) (s child new : Showing)
    (piled : Bool) (l : Listed) → IsShowing x kind at s → IsPlain s.item.now kind piled l
    → u ≡ media_at (trimmed_start s.item.now) (speed_of s.item.now) s.ticks → IsAlone piled l u child
    → new.item.now ≡ child.item.now → new.ticks ≡ child.ticks → IsLesser s.len child.len new.len
    → IsShowing x kind at new
showing_goes x kind at u s child new piled l a p e b is t least = record {
  same = by;
  low = let h = b.low in omega (arith, ints, t, h);
  high = let h = b.high in omega (arith, ints, t, h);
  some = let h = a.some in let k = b.some in by_least (λ z. pos 0 <ℤ z) h k least;
  most = let h = a.most in omega (arith, ints, h, ends.0);
  is_below = subst (IsBelow x) (sym is) further_down;
}
  where
    by_least : (P : ℤ → Type 0) → P s.len → P child.len → IsLesser s.len child.len new.len
        → P new.len
    by_least P h k (inl q) = subst P (sym q.0) h
    by_least P h k (inr q) = subst P (sym q.0) k

    ends_by : IsLesser s.len child.len new.len → (new.len ≤ℤ s.len) × (new.len ≤ℤ child.len)
    ends_by (inl q) = (omega (arith, ints, q.0), omega (arith, ints, q.0, q.1))
    ends_by (inr q) = (omega (arith, ints, q.0, q.1), omega (arith, ints, q.0))

    ends : (new.len ≤ℤ s.len) × (new.len ≤ℤ child.len)
    ends = ends_by least

    few : count l < 2 ^ 32
    few = let f = a.is_below.few in let c = p.counted in omega (arith, f, c)

    further_down : IsBelow x child.item.now
    further_down =
        let h = here l b.index child.item.now b.there p.sound few in record {
          few = h.few;
          sound = h.sound;
          clips = λ c k. a.is_below.clips c (subst (λ cs. Contains cs c) (sym p.clips)
              (clip_below l b.index child.item.now b.there c k));
        }

    by : (d : ℤ) → pos 0 ≤ℤ d → d <ℤ new.len
        → (sight x).shows (exact kind) (at +ℤ d)
        ≡ (sight new.item.now).shows (exact kind) (new.ticks +ℤ d)
    by d from to =
        let y : ItemOf Listed = s.item.now in let h = ends.0 in let k = ends.1 in
        a.same d from (omega (arith, ints, to, h)) ∙ p.shows (s.ticks +ℤ d)
        ∙ ap (list_shows piled l (exact kind))
        (plain_ticks (trimmed_start y) (speed_of y) s.ticks d p.speed
        ∙ ap (λ z. z +ℤ d) (sym e))
        ∙ b.same (exact kind) d from (omega (arith, ints, to, k))
        ∙ ap₂ (λ (z : ItemOf Listed) (m : ℤ). (sight z).shows (exact kind) (m +ℤ d)) (sym is) (sym t)

-- for one tick
pub showing_tick : (x : ItemOf Listed) (kind : List ℕ) (at : ℤ) (s new : Showing)
    → IsShowing x kind at s → new.item.now ≡ s.item.now → new.ticks ≡ s.ticks → new.len ≡ pos 1
    → IsShowing x kind at new
showing_tick x kind at s new a is t len = record {
  same = λ d from to. let k = a.some in a.same d from (omega (arith, ints, len, to, k))
      ∙ ap₂ (λ (z : ItemOf Listed) (m : ℤ). (sight z).shows (exact kind) (m +ℤ d)) (sym is) (sym t);
  low = let h = a.low in omega (arith, ints, t, h);
  high = let h = a.high in omega (arith, ints, t, h);
  some = omega (arith, ints, len);
  most = omega (arith, ints, len);
  is_below = subst (IsBelow x) (sym is) a.is_below;
}

-- ---- parts

pub part_begins : (x : ItemOf Listed) (at : ℤ) (s : Showing) (p : Part)
    → IsShowing x (kind_of x) at s → pos 0 ≤ℤ at → at ≤ℤ pos most_ticks → p.item.now ≡ s.item.now
    → p.ahead ≡ s.ticks -ℤ at → p.past ≡ at +ℤ s.len → IsPart x at p
part_begins x at s p a low high is ahead past = record {
  same = by;
  low = let h = a.low in omega (arith, ints, ahead, h, high);
  high = let h = a.high in omega (arith, ints, ahead, h, low);
  is_below = subst (IsBelow x) (sym is) a.is_below;
}
  where
    by : (u : ℤ) → at ≤ℤ u → u <ℤ p.past
        → (sight x).shows (exact (kind_of x)) u
        ≡ (sight p.item.now).shows (exact (kind_of x)) (u +ℤ p.ahead)
    by u from to =
        let e : u ≡ at +ℤ (u -ℤ at) = omega (arith, ints) in
        let f : s.ticks +ℤ (u -ℤ at) ≡ u +ℤ p.ahead = omega (arith, ints, ahead) in
        ap ((sight x).shows (exact (kind_of x))) e
        ∙ a.same (u -ℤ at) (omega (arith, ints, from)) (omega (arith, ints, to, past))
        ∙ ap₂ (λ (z : ItemOf Listed) (m : ℤ). (sight z).shows (exact (kind_of x)) m) (sym is) f

pub part_later : (x : ItemOf Listed) (from to : ℤ) (p : Part) → IsPart x from p → from ≤ℤ to
    → IsPart x to p
part_later x from to p a h = record {
  same = λ u low high. a.same u (omega (arith, ints, h, low)) high;
  low = a.low;
  high = a.high;
  is_below = a.is_below;
}

-- a part that holds no instant
pub no_part : (x : ItemOf Listed) (from : ℤ) (p : Part) → count_of x < 2 ^ 32 → IsFaultlessItem x
    → pos 0 ≤ℤ from → p.item.now ≡ x → p.ahead ≡ pos 0 → p.past ≡ pos 0 → IsPart x from p
no_part x from p few sound low is ahead past = record {
  same = λ u h k. absurd (omega (arith, ints, low, past, h, k));
  low = omega (arith, ints, ahead);
  high = omega (arith, ints, ahead);
  is_below = subst (IsBelow x) (sym is) (record { few = few; sound = sound; clips = λ c h. h });
}

-- ---- tracks

plain_of : (t : TrackOf Listed) (kind : List ℕ) → IsFaultlessItem (Track t) → t.enabled ≡ true
    → bytes_eq t.kind kind ≡ true → speed_of {C = Listed} (Track t) ≡ pos 1000000
    → IsPlain (Track t) kind false t.children
plain_of t kind sound on same speed = let f = track_facts t sound in record {
  shows = λ u. inside_track t kind
      (media_at (trimmed_start {C = Listed} (Track t)) (speed_of {C = Listed} (Track t)) u) on same;
  speed = speed;
  sound = f.sound;
  fits = f.fits;
  counted = f.few;
  clips = refl;
}

pub plain_track : (x : ItemOf Listed) (t : TrackOf Listed) (kind : List ℕ) → x ≡ Track t
    → IsFaultlessItem x → t.enabled ≡ true → bytes_eq t.kind kind ≡ true
    → speed_of x ≡ pos 1000000 → IsPlain x kind false t.children
plain_track x t kind is sound on same speed =
    subst (λ (y : ItemOf Listed). IsPlain y kind false t.children) (sym is)
    (plain_of t kind (subst IsFaultlessItem is sound) on same
    (sym (ap (λ (y : ItemOf Listed). speed_of y) is) ∙ speed))

pile_of : (t : StackOf Listed) (kind : List ℕ) → IsFaultlessItem (Stack t) → t.enabled ≡ true
    → speed_of {C = Listed} (Stack t) ≡ pos 1000000 → IsPlain (Stack t) kind true t.children
pile_of t kind sound on speed = let f = stack_facts t sound in record {
  shows = λ u. inside_stack t kind
      (media_at (trimmed_start {C = Listed} (Stack t)) (speed_of {C = Listed} (Stack t)) u) on;
  speed = speed;
  sound = f.sound;
  fits = tt;
  counted = f.few;
  clips = refl;
}

pub plain_stack : (x : ItemOf Listed) (t : StackOf Listed) (kind : List ℕ) → x ≡ Stack t
    → IsFaultlessItem x → t.enabled ≡ true → speed_of x ≡ pos 1000000
    → IsPlain x kind true t.children
plain_stack x t kind is sound on speed =
    subst (λ (y : ItemOf Listed). IsPlain y kind true t.children) (sym is)
    (pile_of t kind (subst IsFaultlessItem is sound) on
    (sym (ap (λ (y : ItemOf Listed). speed_of y) is) ∙ speed))
