-- The children of a track that is carried, as bits that fit.
use Rattle.std.proofs.Common.{◌≡◌, refl, ap, subst, ◌∙◌, ℕ, ℤ, pos, negsuc, ◌+ℤ◌, ◌-ℤ◌, ◌*ℤ◌, ◌≤ℤ◌, ◌||◌, Bool, true, false, cond, List, [], ◌∷◌, Option, Some, None, arith}
use Rattle.std.specs.Prelude.{int_lt}
use Rattle.std.specs.Int.{int_rem_euclid}
use Rattle.std.proofs.lemmas.Int.{ints, by_lt_z}
use Rattle.tick_time.specs.declared.rates.Rate.{Rate}
use Rattle.tick_time.proofs.Wholes.{rem_zero, units_of}
use Rattle.otio_model.specs.declared.compositions.ItemOf.{ItemOf}
use Rattle.otio_model.specs.declared.compositions.ItemOf.TheVariants.{Clip, Gap, Transition, Stack, Track}
use Rattle.otio_model.specs.declared.compositions.Listed.{Listed}
use Rattle.edl_list.specs.declared.list.Channel.{Channel}
use Rattle.coord.specs.Looks.{Overlap}
use Rattle.coord.specs.Sights.{overlap_of}
use Rattle.media_rows.specs.Rows.{MediaRows}
use Rattle.edl_frames.specs.Seats.{Past, Seat, lap_at, length_in, end_or, past_by, begin_or}
use Rattle.edl_frames.specs.Jobs.{is_on_frame}
use Rattle.edl_law.proofs.CalmItems.{AreCalm}
use Rattle.edl_law.proofs.FrameQuotients.{same_is}
use Rattle.edl_law.proofs.LookSteps.{times_le, times_lt, times-minus}
use Rattle.edl_law.proofs.FrameQuotients.{sum-times}
use Rattle.edl_law.proofs.ItemLooks.{Watch, ticks, ticks_some}
use Rattle.edl_law.proofs.Stretches.{Bit, piece, cross, Fits}
use Rattle.edl_law.proofs.SideLooks.{job}
use Rattle.edl_law.proofs.ReasonFacts.{gives, IsBitOf, AreBitsOf, AreFree, ItemFree, item_free, CrossFree, cross_free, not_or}

-- a transition takes no time
point_is : (x : ItemOf Listed) (o : Overlap) → overlap_of x ≡ Some o → length_in x ≡ pos 0
point_is (Clip c) o e = absurd (cc e)
point_is (Gap g) o e = absurd (cc e)
point_is (Transition t) o e = refl
point_is (Stack s) o e = absurd (cc e)
point_is (Track t) o e = absurd (cc e)

pub data ChildOf (x : ItemOf Listed) : Type 0 where
  item : overlap_of x ≡ None → ChildOf x
  transition : (o : Overlap) → overlap_of x ≡ Some o → ChildOf x

pub child_in : (x : ItemOf Listed) → ChildOf x
child_in x = by (overlap_of x) refl
  where
    by : (o : Option Overlap) → overlap_of x ≡ o → ChildOf x
    by None e = item e
    by (Some o) e = transition o e

-- an instant on a frame is a whole number of frames
pub whole_frames : (rate : Rate) (first : ℤ) (media : MediaRows) (drop wide : Bool) (u : ℤ)
    → is_on_frame (job rate first media drop wide) u ≡ true → (q : ℤ) × (u ≡ q *ℤ pos (ticks rate))
whole_frames rate first media drop wide u e =
    let p = ticks_some rate in
    units_of u (ticks rate) (omega (arith, p))
    (rem_zero u (pos (ticks rate)) (omega (arith, ints, p))
    (same_is (int_rem_euclid u (pos (ticks rate))) (pos 0) e))

-- frames compare as their ticks do
pub frames_le : (rate : Rate) (a b : ℤ) → (a *ℤ pos (ticks rate)) ≤ℤ (b *ℤ pos (ticks rate))
    → a ≤ℤ b
frames_le rate a b h = by_lt_z b a
    (λ k. let t = times_lt b a (ticks rate) (ticks_some rate) k in
    absurd (omega (arith, ints, t, h))) (λ k. k)

frames_same : (rate : Rate) (a : ℤ) → pos 0 ≤ℤ (a *ℤ pos (ticks rate)) → pos 0 ≤ℤ a
frames_same rate a h = frames_le rate (pos 0) a (omega (arith, ints, h))

pub not_lt : (a b : ℤ) → int_lt a b ≡ false → b ≤ℤ a
not_lt a b e = grind (arith, ints)

nat_of : (z : ℤ) → pos 0 ≤ℤ z → (n : ℕ) × (z ≡ pos n)
nat_of (pos n) h = (n, refl)
nat_of (negsuc n) h = absurd (omega (arith, ints, h))

pub record Fitted (rate : Rate) (kind : Watch) (low at : ℤ) (l : List (ItemOf Listed)) : Type 0
  where
    pub bits : List Bit
    pub are : AreBitsOf rate kind l bits
    pub fit : Fits low at bits

length_low : (x : ItemOf Listed) → pos 0 ≤ℤ length_in x
length_low x = omega (arith, ints)

-- how many frames an item has
item_bit : (rate : Rate) (first : ℤ) (media : MediaRows) (drop wide : Bool) (kind : Watch)
    (c : Channel)
    (at : ℤ) (s : Seat) → s.start ≡ at *ℤ pos (ticks rate)
    → ItemFree (job rate first media drop wide) c
    s → overlap_of s.item ≡ None
    → (n : ℤ) × IsBitOf rate kind s.item (piece n (gives rate kind s.item))
item_bit rate first media drop wide kind c at s e free none =
    let q = whole_frames rate first media drop wide (s.start +ℤ length_in s.item) free.ends in
    let q_is = q.1 in
    let m = times-minus q.0 at (ticks rate) in
    let long : length_in s.item ≡ (q.0 -ℤ at) *ℤ pos (ticks rate) = omega (arith, ints, q_is, m, e)
    in
    let low = length_low s.item in
    (q.0 -ℤ at, (none, long, frames_same rate (q.0 -ℤ at) (omega (arith, ints, long, low)), refl))

-- how many frames an overlap has before its cut and behind it
record Offsets (rate : Rate) (o : Overlap) : Type 0 where
  b : ℕ
  a : ℕ
  before : o.before ≡ pos b *ℤ pos (ticks rate)
  after : o.after ≡ pos a *ℤ pos (ticks rate)

cross_bit : (rate : Rate) (first : ℤ) (media : MediaRows) (drop wide : Bool) (kind : Watch) (at : ℤ)
    (s : Seat) (o : Overlap) → s.start ≡ at *ℤ pos (ticks rate)
    → CrossFree (job rate first media drop wide) s o
    → pos 0 ≤ℤ o.before → pos 0 ≤ℤ o.after → Offsets rate o
cross_bit rate first media drop wide kind at s o e free before after =
    let p = whole_frames rate first media drop wide (s.start -ℤ o.before) free.begins in
    let q = whole_frames rate first media drop wide (s.start +ℤ o.after) free.ends in
    let p_is = p.1 in let q_is = q.1 in
    let m = times-minus at p.0 (ticks rate) in
    let n = times-minus q.0 at (ticks rate) in
    let b_is : o.before ≡ (at -ℤ p.0) *ℤ pos (ticks rate) = omega (arith, ints, p_is, m, e) in
    let a_is : o.after ≡ (q.0 -ℤ at) *ℤ pos (ticks rate) = omega (arith, ints, q_is, n, e) in
    let b = nat_of (at -ℤ p.0) (frames_same rate (at -ℤ p.0) (omega (arith, ints, b_is, before))) in
    let a = nat_of (q.0 -ℤ at) (frames_same rate (q.0 -ℤ at) (omega (arith, ints, a_is, after))) in
    record {
      b = b.0;
      a = a.0;
      before = b_is ∙ ap (λ z. z *ℤ pos (ticks rate)) b.1;
      after = a_is
          ∙ ap (λ z. z *ℤ pos (ticks rate)) a.1;
    }

-- where an overlap may begin at the earliest behind the next item
low_behind : (rate : Rate) (at : ℤ) (o : Overlap) (b a : ℕ) (u : ℤ) → u ≡ at *ℤ pos (ticks rate)
    → o.before ≡ pos b *ℤ pos (ticks rate) → o.after ≡ pos a *ℤ pos (ticks rate)
    → end_or (lap_at u o) u ≡ (at +ℤ pos a) *ℤ pos (ticks rate)
low_behind rate at o b a u e before after = by (int_lt (pos 0) (o.before +ℤ o.after)) refl
  where
    by : (t : Bool) → int_lt (pos 0) (o.before +ℤ o.after) ≡ t
        → end_or
        (cond t (Some (record { type = o.kind; begin = u -ℤ o.before; end = u +ℤ o.after })) None) u
        ≡ (at +ℤ pos a) *ℤ pos (ticks rate)
    by true g = let s = sum-times at (pos a) (ticks rate) in omega (arith, ints, s, e, after)
    by false g =
        let s = sum-times at (pos a) (ticks rate) in
        let l = not_lt (pos 0) (o.before +ℤ o.after) g in
        let x = times_le (pos 0) (pos b) (ticks rate) (omega (arith, ints)) in
        let y = times_le (pos 0) (pos a) (ticks rate) (omega (arith, ints)) in
        omega (arith, ints, s, e, before, after, l, x, y)

-- the children of a track that is carried are bits that fit
pub fitted : (rate : Rate) (first : ℤ) (media : MediaRows) (drop wide : Bool) (kind : Watch)
    (c : Channel) (low at u : ℤ) (past : Past) (l : List (ItemOf Listed))
    → u ≡ at *ℤ pos (ticks rate) → past.lap ≡ None → past.low ≡ low *ℤ pos (ticks rate)
    → AreFree (job rate first media drop wide) c u past l → AreCalm l → Fitted rate kind low at l
fitted rate first media drop wide kind c low at u past [] e none low_is free calm =
    record { bits = []; are = tt; fit = tt }
fitted rate first media drop wide kind c low at u past (x ∷ []) e none low_is free calm =
    elim (child_in x) [
      | item i ↦
          let b = item_bit rate first media drop wide kind c at
          (record { item = x; start = u; past = past; next = [] }) e
          (item_free (job rate first media drop wide) c
          (record { item = x; start = u; past = past; next = [] }) free.0 i) i in
          record { bits = piece b.0 (gives rate kind x) ∷ []; are = (b.1, tt); fit = (b.1.2, tt) }
      | transition o i ↦
          let q = calm.0 o i in
          let f = cross_free (job rate first media drop wide) c
          (record { item = x; start = u; past = past; next = [] }) o free.0 i in
          let b = cross_bit rate first media drop wide kind at
          (record { item = x; start = u; past = past; next = [] }) o e f q.0 q.1 in
          let g = not_or (int_lt (u -ℤ o.before) past.low)
          (int_lt u (u +ℤ o.after) || int_lt (pos 999 *ℤ pos (ticks rate)) (o.before +ℤ o.after))
          f.fits in
          let h = not_or (int_lt u (u +ℤ o.after))
          (int_lt (pos 999 *ℤ pos (ticks rate)) (o.before +ℤ o.after)) g.1 in
          let g_is = not_lt (u -ℤ o.before) past.low g.0 in let h_is =
          not_lt u (u +ℤ o.after) h.0 in
          let before = b.before in let after = b.after in
          let m = times-minus at (pos b.b) (ticks rate) in
          let last = frames_le rate (pos b.a) (pos 0) (omega (arith, ints, h_is, after)) in
          record {
            bits = cross o.kind b.b b.a ∷ [];
            are =
                ((o, i, point_is x o i, refl, b.before, b.after), tt);
            fit = (
              frames_le rate low (at -ℤ pos b.b) (omega (arith, ints, g_is, low_is, e, before, m)),
              omega (arith, ints, last),
            );
          }
    ]
fitted rate first media drop wide kind c low at u past (x ∷ y ∷ l) e none low_is free calm =
    elim (child_in x) [
      | item i ↦
          let b = item_bit rate first media drop wide kind c at
          (record { item = x; start = u; past = past; next = y ∷ l }) e
          (item_free (job rate first media drop wide) c
          (record { item = x; start = u; past = past; next = y ∷ l }) free.0 i) i in
          let long = b.1.1 in let s = sum-times at b.0 (ticks rate) in
          let more = fitted rate first media drop wide kind c at (at +ℤ b.0) (u +ℤ length_in x)
          (past_by None x u past) (y ∷ l) (omega (arith, ints, e, long, s)) refl
          (ap (λ o. end_or o u) none ∙ e)
          (subst (λ o. AreFree (job rate first media drop wide) c (u +ℤ length_in x)
          (past_by o x u past)
          (y ∷ l)) i free.1) calm.1 in
          record {
            bits = piece b.0 (gives rate kind x) ∷ more.bits;
            are = (b.1, more.are);
            fit =
                (b.1.2, more.fit);
          }
      | transition o i ↦
          let q = calm.0 o i in
          let f = cross_free (job rate first media drop wide) c
          (record { item = x; start = u; past = past; next = y ∷ l }) o free.0 i in
          let b = cross_bit rate first media drop wide kind at
          (record { item = x; start = u; past = past; next = y ∷ l }) o e f q.0 q.1 in
          let g = not_or (int_lt (u -ℤ o.before) past.low)
          (int_lt (u +ℤ length_in y) (u +ℤ o.after) || int_lt (pos 999 *ℤ pos (ticks rate))
          (o.before +ℤ o.after)) f.fits in
          let h = not_or (int_lt (u +ℤ length_in y) (u +ℤ o.after))
          (int_lt (pos 999 *ℤ pos (ticks rate)) (o.before +ℤ o.after)) g.1 in
          let g_is = not_lt (u -ℤ o.before) past.low g.0 in let h_is = not_lt (u +ℤ length_in y)
          (u +ℤ o.after) h.0 in
          let before = b.before in let after = b.after in
          let m = times-minus at (pos b.b) (ticks rate) in
          let none_long = point_is x o i in
          let here : u +ℤ length_in x ≡ u = omega (arith, ints, none_long) in
          let free_y = subst (λ z. AreFree (job rate first media drop wide) c z
          (past_by (Some o) x u past)
          (y ∷ l)) here
          (subst (λ o. AreFree (job rate first media drop wide) c (u +ℤ length_in x)
          (past_by o x u past)
          (y ∷ l)) i free.1) in
          let is_item = q.2 in
          let d = item_bit rate first media drop wide kind c at
          (record { item = y; start = u; past = past_by (Some o) x u past; next = l }) e
          (item_free (job rate first media drop wide) c
          (record { item = y; start = u; past = past_by (Some o) x u past; next = l }) free_y.0
          is_item) is_item in
          let long = d.1.1 in let s = sum-times at d.0 (ticks rate) in
          let more = fitted rate first media drop wide kind c (at +ℤ pos b.a) (at +ℤ d.0)
          (u +ℤ length_in y)
          (past_by None y u (past_by (Some o) x u past)) l (omega (arith, ints, e, long, s)) refl
          (low_behind rate at o b.b b.a u e before after)
          (subst (λ o'. AreFree (job rate first media drop wide) c (u +ℤ length_in y)
          (past_by o' y u (past_by (Some o) x u past)) l) is_item free_y.1) calm.1.1 in
          record {
            bits = cross o.kind b.b b.a ∷ piece d.0 (gives rate kind y) ∷ more.bits;
            are = ((o, i, point_is x o i, refl, b.before, b.after), (d.1, more.are));
            fit = (
              frames_le rate low (at -ℤ pos b.b) (omega (arith, ints, g_is, low_is, e, before, m)),
              frames_le rate (pos b.a) d.0 (omega (arith, ints, h_is, after, long)),
              more.fit,
            );
          }
    ]

-- where the overlap of a transition begins, also where it is empty
pub lap_begins : (rate : Rate) (o : Overlap) (u at : ℤ) (b a : ℕ) → u ≡ at *ℤ pos (ticks rate)
    → o.before ≡ pos b *ℤ pos (ticks rate) → o.after ≡ pos a *ℤ pos (ticks rate)
    → begin_or (lap_at u o) u ≡ (at -ℤ pos b) *ℤ pos (ticks rate)
lap_begins rate o u at b a e before after = by (int_lt (pos 0) (o.before +ℤ o.after)) refl
  where
    by : (t : Bool) → int_lt (pos 0) (o.before +ℤ o.after) ≡ t
        → begin_or
        (cond t (Some (record { type = o.kind; begin = u -ℤ o.before; end = u +ℤ o.after })) None) u
        ≡ (at -ℤ pos b) *ℤ pos (ticks rate)
    by true g =
        let s = times-minus at (pos b) (ticks rate) in omega (arith, ints, e, before, s)
    by false g =
        let p = not_lt (pos 0) (o.before +ℤ o.after) g in
        let s = times-minus at (pos b) (ticks rate) in
        let x = times_le (pos 0) (pos b) (ticks rate) (omega (arith, ints)) in
        let y = times_le (pos 0) (pos a) (ticks rate) (omega (arith, ints)) in
        omega (arith, ints, e, before, after, s, p, x, y)
