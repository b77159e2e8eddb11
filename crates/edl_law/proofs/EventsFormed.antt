-- The events of a track that is carried are well formed one by one, in order and apart.
use Rattle.std.proofs.Common.{◌≡◌, refl, sym, ap, ap₂, subst, ◌∙◌, ℕ, ◌+◌, ◌-◌, ◌*◌, ◌≤◌, ℤ, pos, ◌+ℤ◌, ◌-ℤ◌, ◌*ℤ◌, ◌≤ℤ◌, ◌<ℤ◌, ◌&&◌, ◌||◌, Bool, true, false, cond, List, [], ◌∷◌, ◌++◌, Option, Some, None, arith}
use Rattle.std.specs.Prelude.{int_lt, nat_le, unsigned_abs, option_and_then, take, drop, codes}
use Rattle.std.specs.Int.{int_div_euclid}
use Rattle.std.specs.List.{list_any, cons_option}
use Rattle.std.specs.Str.{bytes_eq}
use Rattle.std.proofs.lemmas.Int.{ints, by_lt_z}
use Rattle.tick_time.specs.declared.rates.Rate.{Rate}
use Rattle.tick_time.proofs.Wholes.{count-product}
use Rattle.otio_model.specs.declared.compositions.Clip.{Clip as ClipRow}
use Rattle.otio_model.specs.declared.compositions.ItemOf.{ItemOf}
use Rattle.otio_model.specs.declared.compositions.Listed.{Listed}
use Rattle.edl_list.specs.declared.list.Channel.{Channel}
use Rattle.edl_list.specs.declared.list.Side.{Side}
use Rattle.edl_list.specs.declared.list.Cross.{Cross}
use Rattle.edl_list.specs.declared.list.Cross.TheVariants.{Cut, Dissolve, Wipe}
use Rattle.edl_list.specs.declared.list.Event.{Event}
use Rattle.edl_list.specs.Formed.{AreFrames}
use Rattle.coord.specs.Looks.{Overlap}
use Rattle.coord.specs.Images.{Kind, Dissolve as IsDissolve, Wipe as IsWipe, Other, kind_of, wipe_code, wipe_or_other, three_digits, is_digit}
use Rattle.media_rows.specs.Rows.{MediaRows}
use Rattle.edl_frames.specs.ChildReasons.{event_side, is_other_kind, Part, parts_of, event_part, lap_part, is_past_day, is_outside_row}
use Rattle.edl_frames.specs.Jobs.{Job, frames_in, record_at}
use Rattle.edl_frames.specs.Seats.{Lap, ItemAt, Past, Seat, lap_at, length_in, begin_or, past_by, next_lap, lap_behind, begin_of, end_of, clip_in, clip_before, is_there}
use Rattle.edl_frames.specs.Sides.{side_of, black_side, side_out, crossing, cross_in, clip_row}
use Rattle.edl_frames.specs.ChildEvents.{event_by, black_event, clip_event, item_event}
use Rattle.edl_law.proofs.CalmItems.{AreCalm}
use Rattle.edl_law.proofs.ListedRates.{any_last, any_first}
use Rattle.edl_law.proofs.LookSteps.{times_le, times-minus}
use Rattle.edl_law.proofs.FrameQuotients.{sum-times}
use Rattle.edl_law.proofs.ItemLooks.{Watch, ticks, ticks_some}
use Rattle.edl_law.proofs.Stretches.{Bit, piece, cross, front_of, Fits, front_late}
use Rattle.edl_law.proofs.SideLooks.{job}
use Rattle.edl_law.proofs.ReasonFacts.{AreBitsOf, AreFree, ItemFree, item_free, ClipFree, cross_free, not_or}
use Rattle.edl_law.proofs.FittedItems.{not_lt, frames_le, lap_begins}
use Rattle.edl_law.proofs.FrameMatches.{front_is, recorded, lap_frames, events_by, events_from}
use Rattle.tick_time.proofs.BoolLemmas.{both}

-- what is known of a side in so many frames of the record, of one that is shown or of one that
-- goes out
abbrev pub CrossHolds : (Bool → Side → ℤ → Type 0) → ℤ → ℤ → Cross → Type 0
CrossHolds Q begin end Cut = Unit {0}
CrossHolds Q begin end (Dissolve n from) = AreFrames n begin end × Q false from (pos n)
CrossHolds Q begin end (Wipe code n from) = (code ≤ 999) × AreFrames n begin end × Q false from
    (pos n)

-- an event from a record frame on, of whose sides something is known
pub record EventHolds (Q : Bool → Side → ℤ → Type 0) (z : ℤ) (e : Event) : Type 0 where
  pub begins : z ≤ℤ e.rec_in
  pub some : e.rec_in <ℤ e.rec_out
  pub to : Q true e.to (e.rec_out -ℤ e.rec_in)
  pub cross : CrossHolds Q e.rec_in e.rec_out e.cross

abbrev pub EventsHold : (Bool → Side → ℤ → Type 0) → ℤ → List Event → Type 0
EventsHold Q z [] = Unit {0}
EventsHold Q z (e ∷ es) = EventHolds Q z e × EventsHold Q e.rec_out es

pub earlier : (Q : Bool → Side → ℤ → Type 0) (y z : ℤ) (es : List Event) → y ≤ℤ z
    → EventsHold Q z es → EventsHold Q y es
earlier Q y z [] h g = tt
earlier Q y z (e ∷ es) h g = let b = g.0.begins in (
  record { begins = omega (arith, ints, b, h); some = g.0.some; to = g.0.to; cross = g.0.cross },
  g.1,
)

-- the tests of one part of a clip
pub record PartFree (j : Job) (s : Seat) (r : ClipRow) (p : Part) : Type 0 where
  pub day : is_past_day j r s.start p ≡ false
  pub row : is_outside_row j r s.start (clip_row j.media r) p ≡ false

-- what is known of black and of each part of a clip that is carried
pub record SidesHold (Q : Bool → Side → ℤ → Type 0) (j : Job) : Type 0 where
  pub black : (n : ℤ) → pos 0 ≤ℤ n → n ≤ℤ pos 999 → Q true (black_side n) n
  pub black_out : (n : ℤ) → Q false (black_side (pos 0)) n
  pub clip : (s : Seat) (r : ClipRow) (p : Part) → ClipFree j s r → PartFree j s r p
      → pos 0 ≤ℤ p.counted → p.counted ≡ p.frames → Q true (side_of j r s.start p.at p.counted)
      p.frames
  pub clip_out : (s : Seat) (r : ClipRow) (p : Part) → ClipFree j s r → PartFree j s r p
      → pos 0 ≤ℤ p.counted → Q false (side_of j r s.start p.at p.counted) p.frames

-- what goes out over the next overlap
abbrev pub Goes : (Bool → Side → ℤ → Type 0) → Job → Option ItemAt → ℤ → List (ItemOf Listed)
    → Type 0
Goes Q j before u l = (lap : Lap) → next_lap u l ≡ Some lap → Q false (side_out j before lap.begin)
    (frames_in j (lap.end -ℤ lap.begin))

-- ---- parts

pub event_free : (j : Job) (s : Seat) (r : ClipRow) → ClipFree j s r
    → int_lt (begin_of s) (end_of s) ≡ true
    → PartFree j s r
    (event_side j s)
event_free j s r f t = record {
  day = first_part (is_past_day j r s.start) f.day;
  row =
      first_part (is_outside_row j r s.start (clip_row j.media r)) f.row;
}
  where
    by : (p : Part → Bool) (b : Bool) → b ≡ true
        → list_any p
        (cond b
        (event_side j s ∷ []) [] ++ lap_part j (lap_behind s)) ≡ false
        → p
        (event_side j s) ≡ false
    by p true e g =
        (any_first p
        (event_side j s) (lap_part j (lap_behind s)) g).0
    by p false e g = absurd (cc e)

    first_part : (p : Part → Bool) → list_any p (parts_of j s) ≡ false
        → p
        (event_side j s) ≡ false
    first_part p g = by p (int_lt (begin_of s) (end_of s)) t g

out_free : (j : Job) (s : Seat) (r : ClipRow) (lap : Lap) → ClipFree j s r → lap_behind s ≡ Some lap
    → PartFree j s r
    (record { at = lap.begin; frames = frames_in j (lap.end -ℤ lap.begin); counted = pos 0 })
out_free j s r lap f e = record {
  day = last_part (is_past_day j r s.start) f.day;
  row =
      last_part (is_outside_row j r s.start (clip_row j.media r)) f.row;
}
  where
    last_part : (p : Part → Bool) → list_any p (parts_of j s) ≡ false
        → p
        (record { at = lap.begin; frames = frames_in j (lap.end -ℤ lap.begin); counted = pos 0 }) ≡
        false
    last_part p g =
        (any_last p (event_part j s)
        (record { at = lap.begin; frames = frames_in j (lap.end -ℤ lap.begin); counted = pos 0 })
        (ap (λ o. list_any p (event_part j s ++ lap_part j o)) (sym e) ∙ g)).1

-- an item goes out over the overlap behind it
pub item_goes : (Q : Bool → Side → ℤ → Type 0) (j : Job) (c : Channel) (s : Seat) → SidesHold Q j
    → ItemFree j c s → Goes Q j (Some (record { item = s.item; start = s.start }))
    (s.start +ℤ length_in s.item) s.next
item_goes Q j c s sides free lap e = by (clip_in s.item) refl
  where
    or_true : (q : Bool) → (q || true) ≡ true
    or_true true = refl
    or_true false = refl

    by : (o : Option ClipRow) → clip_in s.item ≡ o
        → Q false
        (elim (clip_in s.item) [
          | None ↦ black_side (pos 0)
          | Some r ↦ side_of j r s.start lap.begin
              (pos 0)
        ]) (frames_in j (lap.end -ℤ lap.begin))
    by None is =
        subst
        (λ o.
        Q false
        (elim o [ None ↦ black_side (pos 0) | Some r ↦ side_of j r s.start lap.begin (pos 0) ])
        (frames_in j (lap.end -ℤ lap.begin))) (sym is)
        (sides.black_out (frames_in j (lap.end -ℤ lap.begin)))
    by (Some r) is =
        let f = free.clip r is (ap (λ o. int_lt (begin_of s) (end_of s) || is_there o) e
        ∙ or_true (int_lt (begin_of s) (end_of s))) in
        subst
        (λ o.
        Q false
        (elim o [ None ↦ black_side (pos 0) | Some r ↦ side_of j r s.start lap.begin (pos 0) ])
        (frames_in j (lap.end -ℤ lap.begin))) (sym is)
        (sides.clip_out s r
        (record {
          at = lap.begin;
          frames = frames_in j (lap.end -ℤ lap.begin);
          counted =
              pos 0;
        }) f (out_free j s r lap f e) (omega (arith, ints)))

-- ---- the codes of wipes

digit_low : (a : ℕ) → is_digit a ≡ true → a - 48 ≤ 9
digit_low a e = let p = both (nat_le 48 a) (nat_le a 57) e in let h : a ≤ 57 = grind (arith, p.1) in
    omega (arith, h)

three_low : (text : List ℕ) (code : ℕ) → three_digits text ≡ Some code → code ≤ 999
three_low [] code e = absurd (cc e)
three_low (a ∷ []) code e = absurd (cc e)
three_low (a ∷ b ∷ []) code e = absurd (cc e)
three_low (a ∷ b ∷ c ∷ []) code e = by (is_digit a && (is_digit b && is_digit c)) refl e
  where
    by : (t : Bool) → (is_digit a && (is_digit b && is_digit c)) ≡ t
        → cond t (Some ((100 * (a - 48)) + ((10 * (b - 48)) + (c - 48)))) None ≡ Some code
        → code ≤ 999
    by false f g = absurd (cc g)
    by true f g =
        let p = both (is_digit a) (is_digit b && is_digit c) f in let q = both (is_digit b)
        (is_digit c) p.1 in
        let x = digit_low a p.0 in let y = digit_low b q.0 in let z = digit_low c q.1 in
        let same : (100 * (a - 48)) + ((10 * (b - 48)) + (c - 48)) ≡ code = cc g in
        omega (arith, x, y, z, same)
three_low (a ∷ b ∷ c ∷ d ∷ text) code e = absurd (cc e)

code_low : (text : List ℕ) (code : ℕ) → kind_of text ≡ IsWipe code → code ≤ 999
code_low text code e = by (bytes_eq text (codes "SMPTE_Dissolve")) e
  where
    wiped : (t : Bool) (o : Option ℕ) → three_digits (drop 11 text) ≡ o
        → wipe_or_other (cond t o None) text ≡ IsWipe code → code ≤ 999
    wiped false o f g = absurd (cc g)
    wiped true None f g = absurd (cc g)
    wiped true (Some n) f g = let same : n ≡ code = cc g in let l = three_low (drop 11 text) n f in
        omega (arith, same, l)

    by : (t : Bool) → cond t IsDissolve (wipe_or_other (wipe_code text) text) ≡ IsWipe code
        → code ≤ 999
    by true f = absurd (cc f)
    by false f = wiped (bytes_eq (take 11 text) (codes "SMPTE_Wipe_")) (three_digits (drop 11 text))
        refl f

-- how an event begins, by its kind
pub crossing_holds : (Q : Bool → Side → ℤ → Type 0) (text : List ℕ) (n : ℕ) (from : Side)
    (begin end : ℤ) → is_other_kind (kind_of text) ≡ false → AreFrames n begin end
    → Q false from (pos n) → CrossHolds Q begin end (crossing (kind_of text) n from)
crossing_holds Q text n from begin end other frames holds = by (kind_of text) refl other
  where
    by : (k : Kind) → kind_of text ≡ k → is_other_kind k ≡ false → CrossHolds Q begin end
        (crossing k n from)
    by IsDissolve e o = (frames, holds)
    by (IsWipe code) e o = (code_low text code e, frames, holds)
    by (Other type) e o = absurd (cc o)

-- ---- one event

frames_lt : (rate : Rate) (a b : ℤ) → (a *ℤ pos (ticks rate)) <ℤ (b *ℤ pos (ticks rate)) → a <ℤ b
frames_lt rate a b h = by_lt_z a b (λ k. k)
    (λ k. let t = times_le b a (ticks rate) k in absurd (omega (arith, ints, t, h)))

passed : (a b : ℤ) → int_lt a b ≡ true → a <ℤ b
passed a b e = grind (arith, ints)

-- the frames between two frames of the track
between : (rate : Rate) (first : ℤ) (media : MediaRows) (drop wide : Bool) (u v a b : ℤ)
    → u ≡ a *ℤ pos (ticks rate) → v ≡ b *ℤ pos (ticks rate)
    → frames_in (job rate first media drop wide)
    (v -ℤ u) ≡ b -ℤ a
between rate first media drop wide u v a b e f =
    let t = times-minus b a (ticks rate) in
    let g : v -ℤ u ≡ (b -ℤ a) *ℤ pos (ticks rate) = omega (arith, ints, e, f, t) in
    ap (λ z. int_div_euclid z (pos (ticks rate))) g
    ∙ (let p = ticks_some rate in count-product (b -ℤ a) (pos (ticks rate))
    (omega (arith, ints, p)))

-- an event of a clip
pub clip_holds : (Q : Bool → Side → ℤ → Type 0) (rate : Rate) (first : ℤ) (media : MediaRows)
    (drop wide : Bool) (c : Channel) (s : Seat) (r : ClipRow) (begin front : ℤ) (es : List Event)
    → SidesHold Q (job rate first media drop wide) → ItemFree (job rate first media drop wide) c s
    → clip_in s.item ≡ Some r → begin_of s ≡ begin *ℤ pos (ticks rate) → end_of s ≡ front *ℤ pos
    (ticks rate) → begin ≤ℤ front
    → (begin <ℤ front → CrossHolds Q (first +ℤ begin) (first +ℤ front)
    (cross_in (job rate first media drop wide) s.past s.past.lap))
    → EventsHold Q (first +ℤ front) es
    → EventsHold Q (first +ℤ begin) (cons_option (clip_event (job rate first media drop wide) c s r)
    es)
clip_holds Q rate first media drop wide c s r begin front es sides free is begins ends low crosses
    rest =
    by (int_lt (begin_of s) (end_of s)) refl
  where
    p : Part
    p = record {
      at = begin_of s;
      frames = frames_in (job rate first media drop wide)
          (end_of s -ℤ begin_of s);
      counted = frames_in (job rate first media drop wide)
          (end_of s -ℤ begin_of s);
    }

    by : (t : Bool) → int_lt (begin_of s) (end_of s) ≡ t
        → EventsHold Q (first +ℤ begin)
        (cons_option
        (cond t
        (Some (event_by (job rate first media drop wide) c s.past s.past.lap
        (side_of (job rate first media drop wide) r s.start (begin_of s) p.frames) (begin_of s)
        (end_of s))) None) es)
    by true t =
        let f = free.clip r is (ap (λ z. z || is_there (lap_behind s)) t) in
        let i = recorded rate first media drop wide (begin_of s) begin begins in
        let o = recorded rate first media drop wide (end_of s) front ends in
        let l = passed (begin_of s) (end_of s) t in
        let less = frames_lt rate begin front (omega (arith, ints, l, begins, ends)) in
        let n = between rate first media drop wide (begin_of s) (end_of s) begin front begins ends
        in (
          record {
            begins = omega (arith, ints, i);
            some = omega (arith, ints, i, o, less);
            to =
                subst
                (λ z. Q true (side_of (job rate first media drop wide) r s.start (begin_of s)
                p.frames)
                z) (let e : p.frames ≡ record_at (job rate first media drop wide) (end_of s)
                -ℤ record_at
                (job rate first media drop wide) (begin_of s) = omega (arith, ints, i, o, n) in e)
                (sides.clip s r p f (event_free (job rate first media drop wide) s r f t)
                (omega (arith, ints, n, less)) refl);
            cross = subst (λ z. CrossHolds Q z (record_at (job rate first media drop wide)
                (end_of s))
                (cross_in (job rate first media drop wide) s.past s.past.lap)) (sym i)
                (subst (λ z. CrossHolds Q (first +ℤ begin) z
                (cross_in (job rate first media drop wide) s.past s.past.lap)) (sym o)
                (crosses less));
          },
          subst (λ z. EventsHold Q z es) (sym o) rest,
        )
    by false t = earlier Q (first +ℤ begin) (first +ℤ front) es (omega (arith, ints, low)) rest

-- how a pair begins
pair_holds : (Q : Bool → Side → ℤ → Type 0) (rate : Rate) (first : ℤ) (media : MediaRows)
    (drop wide : Bool) (past : Past) (o : Overlap) (u at front : ℤ) (b a : ℕ)
    (l : List (ItemOf Listed))
    → u ≡ at *ℤ pos (ticks rate) → o.before ≡ pos b *ℤ pos (ticks rate) → o.after ≡ pos a *ℤ pos
    (ticks rate)
    → (is_there (lap_at u o) && is_other_kind (kind_of o.kind)) ≡ false
    → int_lt (pos 999 *ℤ pos (ticks rate)) (o.before +ℤ o.after) ≡ false
    → Goes Q (job rate first media drop wide) past.item u l → next_lap u l ≡ lap_at u o
    → (at +ℤ pos a) ≤ℤ front
    → CrossHolds Q (first +ℤ (at -ℤ pos b)) (first +ℤ front)
    (cross_in (job rate first media drop wide) (record past { lap = lap_at u o }) (lap_at u o))
pair_holds Q rate first media drop wide past o u at front b a l e before after other few goes next
    late =
    by (int_lt (pos 0) (o.before +ℤ o.after)) refl
  where
    past_of : Option Lap → Past
    past_of z = record { item = past.item; lap = z; low = past.low }

    lap : Lap
    lap = record { type = o.kind; begin = u -ℤ o.before; end = u +ℤ o.after }

    by : (t : Bool) → int_lt (pos 0) (o.before +ℤ o.after) ≡ t
        → CrossHolds Q (first +ℤ (at -ℤ pos b)) (first +ℤ front)
        (cross_in (job rate first media drop wide) (past_of (cond t (Some lap) None))
        (cond t (Some lap) None))
    by true g =
        let next_is : next_lap u l ≡ Some lap = next ∙ ap (λ z. cond z (Some lap) None) g in
        let other_kind : is_other_kind (kind_of o.kind) ≡ false =
        ap (λ z. is_there (cond z (Some lap) None) && is_other_kind (kind_of o.kind)) (sym g)
        ∙ other in
        let n = lap_frames rate first media drop wide u o b a before after in
        let s = sum-times (pos b) (pos a) (ticks rate) in
        let x = passed (pos 0) (o.before +ℤ o.after) g in
        let y = not_lt (pos 999 *ℤ pos (ticks rate)) (o.before +ℤ o.after) few in
        let some = frames_lt rate (pos 0) (pos b +ℤ pos a)
        (omega (arith, ints, x, before, after, s)) in
        let most = frames_le rate (pos b +ℤ pos a) (pos 999)
        (omega (arith, ints, y, before, after, s)) in
        let q = times-minus at (pos b) (ticks rate) in let r = sum-times at (pos a) (ticks rate) in
        let count = between rate first media drop wide (u -ℤ o.before) (u +ℤ o.after) (at -ℤ pos b)
        (at +ℤ pos a) (omega (arith, ints, e, before, q)) (omega (arith, ints, e, after, r)) in
        crossing_holds Q o.kind
        (unsigned_abs (frames_in (job rate first media drop wide) (lap.end -ℤ lap.begin)))
        (side_out (job rate first media drop wide) past.item lap.begin) (first +ℤ (at -ℤ pos b))
        (first +ℤ front) other_kind
        (record {
          some = omega (arith, ints, n, some);
          few = omega (arith, ints, n, most);
          inside =
              omega (arith, ints, n, late);
        })
        (subst (λ z. Q false (side_out (job rate first media drop wide) past.item lap.begin) z)
        (let d : frames_in (job rate first media drop wide) (lap.end -ℤ lap.begin) ≡ pos
        (unsigned_abs (frames_in (job rate first media drop wide) (lap.end -ℤ lap.begin))) =
        omega (arith, ints, count) in d) (goes lap next_is))
    by false g = tt

-- an event to black
pub black_holds : (Q : Bool → Side → ℤ → Type 0) (rate : Rate) (first : ℤ) (media : MediaRows)
    (drop wide : Bool) (c : Channel) (past : Past) (o : Overlap) (u at front : ℤ) (b a : ℕ)
    (l : List (ItemOf Listed)) (es : List Event) → SidesHold Q (job rate first media drop wide)
    → u ≡ at *ℤ pos (ticks rate) → o.before ≡ pos b *ℤ pos (ticks rate)
    → o.after ≡ pos a *ℤ pos (ticks rate)
    → (is_there (lap_at u o) && is_other_kind (kind_of o.kind)) ≡ false
    → int_lt (pos 999 *ℤ pos (ticks rate)) (o.before +ℤ o.after) ≡ false
    → Goes Q (job rate first media drop wide) past.item u l → next_lap u l ≡ lap_at u o
    → (at +ℤ pos a) ≤ℤ front → EventsHold Q (first +ℤ front) es
    → EventsHold Q (first +ℤ (at -ℤ pos b))
    (cons_option (black_event (job rate first media drop wide) c (record past { lap = lap_at u o })
    (lap_at u o)) es)
black_holds Q rate first media drop wide c past o u at front b a l es sides e before after other few
    goes
    next late rest = by (int_lt (pos 0) (o.before +ℤ o.after)) refl
    (pair_holds Q rate first media drop wide past o u at (at +ℤ pos a) b a l e before after other
    few
    goes next (omega (arith, ints)))
  where
    past_of : Option Lap → Past
    past_of z = record { item = past.item; lap = z; low = past.low }

    lap : Lap
    lap = record { type = o.kind; begin = u -ℤ o.before; end = u +ℤ o.after }

    none : EventsHold Q (first +ℤ (at -ℤ pos b)) es
    none = earlier Q (first +ℤ (at -ℤ pos b)) (first +ℤ front) es (omega (arith, ints, late)) rest

    there : int_lt (pos 0) (o.before +ℤ o.after) ≡ true → CrossHolds Q (first +ℤ (at -ℤ pos b))
        (first +ℤ (at +ℤ pos a)) (cross_in (job rate first media drop wide) (past_of (Some lap))
        (Some lap)) → (t : Bool)
        → EventsHold Q (first +ℤ (at -ℤ pos b))
        (cons_option
        (cond t
        (Some (event_by (job rate first media drop wide) c (past_of (Some lap)) (Some lap)
        (black_side (frames_in (job rate first media drop wide) (lap.end -ℤ lap.begin))) lap.begin
        lap.end)) None) es)
    there g crosses true =
        let q = times-minus at (pos b) (ticks rate) in let r = sum-times at (pos a) (ticks rate) in
        let begins : lap.begin ≡ (at -ℤ pos b) *ℤ pos (ticks rate) =
        omega (arith, ints, e, before, q) in
        let ends : lap.end ≡ (at +ℤ pos a) *ℤ pos (ticks rate) = omega (arith, ints, e, after, r) in
        let i = recorded rate first media drop wide lap.begin (at -ℤ pos b) begins in
        let x = recorded rate first media drop wide lap.end (at +ℤ pos a) ends in
        let s = sum-times (pos b) (pos a) (ticks rate) in
        let l = passed (pos 0) (o.before +ℤ o.after) g in
        let some = frames_lt rate (pos 0) (pos b +ℤ pos a)
        (omega (arith, ints, l, before, after, s)) in
        let y = not_lt (pos 999 *ℤ pos (ticks rate)) (o.before +ℤ o.after) few in
        let most = frames_le rate (pos b +ℤ pos a) (pos 999)
        (omega (arith, ints, y, before, after, s)) in
        let n = between rate first media drop wide lap.begin lap.end (at -ℤ pos b) (at +ℤ pos a)
        begins
        ends in (
          record {
            begins = omega (arith, ints, i);
            some = omega (arith, ints, i, x, some);
            to =
                subst
                (λ z.
                Q true (black_side (frames_in (job rate first media drop wide)
                (lap.end -ℤ lap.begin)))
                z)
                (let d : frames_in (job rate first media drop wide) (lap.end -ℤ lap.begin)
                ≡ record_at
                (job rate first media drop wide) lap.end
                -ℤ record_at (job rate first media drop wide)
                lap.begin = omega (arith, ints, i, x, n) in d)
                (sides.black (frames_in (job rate first media drop wide) (lap.end -ℤ lap.begin))
                (omega (arith, ints, n)) (omega (arith, ints, n, most)));
            cross = subst (λ z. CrossHolds Q z (record_at (job rate first media drop wide) lap.end)
                (cross_in (job rate first media drop wide) (past_of (Some lap)) (Some lap))) (sym i)
                (subst (λ z. CrossHolds Q (first +ℤ (at -ℤ pos b)) z
                (cross_in (job rate first media drop wide) (past_of (Some lap)) (Some lap)))
                (sym x) crosses);
          },
          earlier Q (record_at (job rate first media drop wide) lap.end) (first +ℤ front) es
              (omega (arith, ints, x, late)) rest,
        )
    there g crosses false = none

    by : (t : Bool) → int_lt (pos 0) (o.before +ℤ o.after) ≡ t
        → CrossHolds Q (first +ℤ (at -ℤ pos b)) (first +ℤ (at +ℤ pos a))
        (cross_in (job rate first media drop wide) (past_of (cond t (Some lap) None))
        (cond t (Some lap) None))
        → EventsHold Q (first +ℤ (at -ℤ pos b))
        (cons_option (black_event (job rate first media drop wide) c
        (past_of (cond t (Some lap) None)) (cond t (Some lap) None)) es)
    by true g crosses = there g crosses (is_there (clip_before past.item))
    by false g crosses = none

-- an item that begins at its start
plain_holds : (Q : Bool → Side → ℤ → Type 0) (rate : Rate) (first : ℤ) (media : MediaRows)
    (drop wide : Bool) (c : Channel) (s : Seat) (at front : ℤ) (es : List Event)
    → SidesHold Q (job rate first media drop wide) → ItemFree (job rate first media drop wide) c s
    → s.past.lap ≡ None → s.start ≡ at *ℤ pos (ticks rate) → end_of s ≡ front *ℤ pos (ticks rate)
    → at ≤ℤ front → EventsHold Q (first +ℤ front) es
    → EventsHold Q (first +ℤ at)
    (cons_option (item_event (job rate first media drop wide) c s (clip_in s.item)) es)
plain_holds Q rate first media drop wide c s at front es sides free none start ends low rest =
    by (clip_in s.item) refl
  where
    by : (o : Option ClipRow) → clip_in s.item ≡ o → EventsHold Q (first +ℤ at)
        (cons_option (item_event (job rate first media drop wide) c s o) es)
    by None e =
        subst (λ o. EventsHold Q (first +ℤ at)
        (cons_option (black_event (job rate first media drop wide) c s.past o) es)) (sym none)
        (earlier Q (first +ℤ at) (first +ℤ front) es (omega (arith, ints, low)) rest)
    by (Some r) e = clip_holds Q rate first media drop wide c s r at front es sides free e
        (ap (λ o. begin_or o s.start) none ∙ start) ends low
        (λ less. subst (λ o. CrossHolds Q (first +ℤ at) (first +ℤ front)
        (cross_in (job rate first media drop wide) s.past o)) (sym none) tt) rest

-- an item behind an overlap
paired_holds : (Q : Bool → Side → ℤ → Type 0) (rate : Rate) (first : ℤ) (media : MediaRows)
    (drop wide : Bool) (c : Channel) (past : Past) (o : Overlap) (s : Seat) (u at front : ℤ)
    (b a : ℕ)
    (l : List (ItemOf Listed)) (es : List Event)
    → SidesHold Q (job rate first media drop wide) → ItemFree (job rate first media drop wide) c s
    → s.start ≡ u → s.past ≡ record past { lap = lap_at u o }
    → u ≡ at *ℤ pos (ticks rate) → o.before ≡ pos b *ℤ pos (ticks rate) → o.after ≡ pos a *ℤ pos
    (ticks rate) → (is_there (lap_at u o) && is_other_kind (kind_of o.kind)) ≡ false
    → int_lt (pos 999 *ℤ pos (ticks rate)) (o.before +ℤ o.after) ≡ false
    → Goes Q (job rate first media drop wide) past.item u l → next_lap u l ≡ lap_at u o
    → end_of s ≡ front *ℤ pos (ticks rate) → (at +ℤ pos a) ≤ℤ front
    → EventsHold Q (first +ℤ front) es
    → EventsHold Q (first +ℤ (at -ℤ pos b))
    (cons_option (item_event (job rate first media drop wide) c s (clip_in s.item)) es)
paired_holds Q rate first media drop wide c past o s u at front b a l es sides free start past_is e
    before after other few goes next ends late rest = by (clip_in s.item) refl
  where
    begins : begin_of s ≡ (at -ℤ pos b) *ℤ pos (ticks rate)
    begins = ap₂ begin_or (ap (λ (p : Past). p.lap) past_is) start
        ∙ lap_begins rate o u at b a e before after

    by : (q : Option ClipRow) → clip_in s.item ≡ q → EventsHold Q (first +ℤ (at -ℤ pos b))
        (cons_option (item_event (job rate first media drop wide) c s q) es)
    by None is = subst (λ (p : Past). EventsHold Q (first +ℤ (at -ℤ pos b))
        (cons_option (black_event (job rate first media drop wide) c p p.lap) es)) (sym past_is)
        (black_holds Q rate first media drop wide c past o u at front b a l es sides e before after
        other
        few goes next late rest)
    by (Some r) is = clip_holds Q rate first media drop wide c s r (at -ℤ pos b) front es sides free
        is
        begins ends (omega (arith, ints, late))
        (λ less. subst (λ (p : Past). CrossHolds Q (first +ℤ (at -ℤ pos b)) (first +ℤ front)
        (cross_in (job rate first media drop wide) p p.lap)) (sym past_is)
        (pair_holds Q rate first media drop wide past o u at front b a l e before after other few
        goes
        next late)) rest

-- ---- the events of a track

pub events_hold : (Q : Bool → Side → ℤ → Type 0) (rate : Rate) (first : ℤ) (media : MediaRows)
    (drop wide : Bool) (kind : Watch) (c : Channel) → SidesHold Q (job rate first media drop wide)
    → (low at u : ℤ) (past : Past) (l : List (ItemOf Listed)) (bits : List Bit)
    → u ≡ at *ℤ pos (ticks rate) → past.lap ≡ None → AreBitsOf rate kind l bits → Fits low at bits
    → AreFree (job rate first media drop wide) c u past l → AreCalm l → low ≤ℤ at
    → Goes Q (job rate first media drop wide) past.item u l
    → EventsHold Q (first +ℤ front_of at bits) (events_from rate first media drop wide c u past l)
events_hold Q rate first media drop wide kind c sides low at u past [] [] e none are fit free calm
    late
    goes = tt
events_hold Q rate first media drop wide kind c sides low at u past [] (b ∷ bits) e none are fit
    free
    calm late goes = absurd are
events_hold Q rate first media drop wide kind c sides low at u past (x ∷ l) [] e none are fit free
    calm
    late goes = absurd are
events_hold Q rate first media drop wide kind c sides low at u past (x ∷ l) ((piece n g) ∷ bits) e
    none
    are fit free calm late goes =
    let j = job rate first media drop wide in
    let t = sum-times at n (ticks rate) in
    let s : Seat = record { item = x; start = u; past = past; next = l } in
    let is = are.0.0 in let long = are.0.1 in let n_low = are.0.2 in
    let item = item_free j c s free.0 is in
    let there : u +ℤ length_in x ≡ (at +ℤ n) *ℤ pos (ticks rate) = omega (arith, ints, e, long, t)
    in
    let es = events_from rate first media drop wide c (u +ℤ length_in x) (past_by None x u past) l
    in
    let rest = events_hold Q rate first media drop wide kind c sides at (at +ℤ n) (u +ℤ length_in x)
    (past_by None x u past) l bits there refl are.1 fit.1
    (subst (λ o. AreFree (job rate first media drop wide) c (u +ℤ length_in x) (past_by o x u past)
    l) is
    free.1) calm.1 (omega (arith, ints, n_low))
    (item_goes Q (job rate first media drop wide) c s sides item) in
    let later = front_late at (at +ℤ n) bits fit.1 (omega (arith, ints, n_low)) in
    subst (λ o. EventsHold Q (first +ℤ at)
    (events_by rate first media drop wide c u past x l o)) (sym is)
    (plain_holds Q rate first media drop wide c s at (front_of (at +ℤ n) bits) es sides item none e
    (front_is rate kind (at +ℤ n) (u +ℤ length_in x) l bits there are.1) later rest)
events_hold Q rate first media drop wide kind c sides low at u past (x ∷ []) ((cross type b a) ∷ [])
    e
    none are fit free calm late goes =
    let s : Seat = record { item = x; start = u; past = past; next = [] } in
    let o = are.0.0 in
    let f = cross_free (job rate first media drop wide) c s o free.0 are.0.1 in
    let g = not_or (int_lt (u -ℤ o.before) past.low)
    (int_lt u (u +ℤ o.after) || int_lt (pos 999 *ℤ pos (ticks rate)) (o.before +ℤ o.after))
    f.fits in
    let h = not_or (int_lt u (u +ℤ o.after))
    (int_lt (pos 999 *ℤ pos (ticks rate)) (o.before +ℤ o.after)) g.1 in
    subst (λ o. EventsHold Q (first +ℤ (at -ℤ pos b))
    (events_by rate first media drop wide c u past x [] o)) (sym are.0.1)
    (black_holds Q rate first media drop wide c past o u at (at +ℤ pos a) b a (x ∷ []) [] sides e
    are.0.4
    are.0.5 f.kind h.1 goes (ap (λ o. option_and_then (lap_at u) o) are.0.1)
    (omega (arith, ints)) tt)
events_hold Q rate first media drop wide kind c sides low at u past (x ∷ y ∷ l)
    ((cross type b a) ∷ []) e
    none are fit free calm late goes = absurd are.1
events_hold Q rate first media drop wide kind c sides low at u past (x ∷ [])
    ((cross type b a) ∷ (piece n g) ∷ bits) e none are fit free calm late goes = absurd are.1
events_hold Q rate first media drop wide kind c sides low at u past (x ∷ y ∷ l)
    ((cross type b a) ∷ (piece n g) ∷ bits) e none are fit free calm late goes =
    let s : Seat = record { item = x; start = u; past = past; next = y ∷ l } in
    let o = are.0.0 in
    let f = cross_free (job rate first media drop wide) c s o free.0 are.0.1 in
    let between_them : Past = past_by (Some o) x u past in
    let s2 : Seat = record { item = y; start = u; past = between_them; next = l } in
    let is = are.1.0.0 in let long = are.1.0.1 in let n_low = are.1.0.2 in
    let point = are.0.2 in
    let t = sum-times at n (ticks rate) in
    let here : u +ℤ length_in x ≡ u = omega (arith, ints, point) in
    let free2 = subst (λ z. AreFree (job rate first media drop wide) c z between_them (y ∷ l)) here
    (subst (λ o. AreFree (job rate first media drop wide) c (u +ℤ length_in x) (past_by o x u past)
    (y ∷ l)) are.0.1 free.1) in
    let item = item_free (job rate first media drop wide) c s2 free2.0 is in
    let there : u +ℤ length_in y ≡ (at +ℤ n) *ℤ pos (ticks rate) = omega (arith, ints, e, long, t)
    in
    let es = events_from rate first media drop wide c (u +ℤ length_in y)
    (past_by None y u between_them)
    l in
    let w = fit.1 in
    let rest = events_hold Q rate first media drop wide kind c sides (at +ℤ pos a) (at +ℤ n)
    (u +ℤ length_in y) (past_by None y u between_them) l bits there refl are.1.1 fit.2
    (subst (λ q. AreFree (job rate first media drop wide) c (u +ℤ length_in y)
    (past_by q y u between_them) l) is free2.1) calm.1.1 (omega (arith, ints, w))
    (item_goes Q (job rate first media drop wide) c s2 sides item) in
    let front = front_is rate kind (at +ℤ n) (u +ℤ length_in y) l bits there are.1.1 in
    let later = front_late (at +ℤ pos a) (at +ℤ n) bits fit.2 (omega (arith, ints, w)) in
    let g = not_or (int_lt (u -ℤ o.before) past.low)
    (int_lt (u +ℤ length_in y) (u +ℤ o.after) || int_lt (pos 999 *ℤ pos (ticks rate))
    (o.before +ℤ o.after)) f.fits in
    let h = not_or (int_lt (u +ℤ length_in y) (u +ℤ o.after))
    (int_lt (pos 999 *ℤ pos (ticks rate)) (o.before +ℤ o.after)) g.1 in
    subst (λ o. EventsHold Q (first +ℤ (at -ℤ pos b))
    (events_by rate first media drop wide c u past x (y ∷ l) o)) (sym are.0.1)
    (subst (λ z. EventsHold Q (first +ℤ (at -ℤ pos b))
    (events_from rate first media drop wide c z between_them (y ∷ l))) (sym here)
    (subst (λ o. EventsHold Q (first +ℤ (at -ℤ pos b))
    (events_by rate first media drop wide c u between_them y l o)) (sym is)
    (paired_holds Q rate first media drop wide c past o s2 u at (front_of (at +ℤ n) bits) b a
    (x ∷ y ∷ l)
    es sides item refl refl e are.0.4 are.0.5 f.kind h.1 goes
    (ap (λ o. option_and_then (lap_at u) o) are.0.1) front later rest)))
events_hold Q rate first media drop wide kind c sides low at u past (x ∷ l)
    ((cross type b a) ∷ (cross type' b' a') ∷ bits) e none are fit free calm late goes = absurd fit
