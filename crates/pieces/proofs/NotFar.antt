-- Cuts of items without a fault, up to a million seconds, are in range.
use Rattle.std.proofs.Common.{◌≡◌, refl, sym, subst, ap₂, ◌∙◌, ℕ, suc, ℤ, pos, negsuc}
use Rattle.std.proofs.Common.{◌+ℤ◌, ◌-ℤ◌, ◌*ℤ◌, ◌≤ℤ◌, ◌<ℤ◌, true, false, List, [], ◌∷◌}
use Rattle.std.proofs.Common.{None, arith, mul-le-mul_right, ◌⊎◌, inl, inr, ◌≤◌}
use Rattle.std.specs.Int.{int_div_euclid, int_rem_euclid}
use Rattle.std.proofs.lemmas.Int.{by_lt_z, ints}
use Rattle.std.proofs.lemmas.Bool.{both_ways}
use Rattle.limits.specs.Limits.{most_ticks}
use Rattle.tick_time.specs.Times.{IsInRange}
use Rattle.otio_model.specs.declared.compositions.ItemOf.{ItemOf}
use Rattle.otio_model.specs.declared.compositions.Listed.{Listed}
use Rattle.otio_model.specs.Lengths.{length_of, or_zero, trimmed_start}
use Rattle.coord.specs.Soundness.{fault_of}
use Rattle.coord.specs.Speeds.{media_at, speed_of}
use Rattle.edits.specs.Children.{Ranged, has_far, is_far, new_gap, plain_gap, ticks}
use Rattle.edits.specs.Cuts.{front, left_piece}
use Rattle.coord.proofs.ShortItems.{trimmed_near}
use Rattle.pieces.specs.Short.{IsRightStart}
use Rattle.pieces.proofs.Faultless.{faultless}
use Rattle.pieces.proofs.Grown.{ticks_are}
use Rattle.pieces.proofs.SameTimes.{range_yes}
use Rattle.pieces.proofs.Tests.{le_no, le_yes, lt_no, lt_yes}

abbrev most : ℤ
most = pos most_ticks

near_item : (x : ItemOf Listed) (s n : ℤ) → (pos 0 -ℤ most) ≤ℤ s → s ≤ℤ most → pos 0 ≤ℤ n
    → n ≤ℤ most → is_far (Ranged x s n) ≡ false
near_item x s n a b c d =
    let e = range_yes s a b in
    let f = range_yes n (omega (arith, ints)) d in
    rw (e, f) refl

-- ---- the media of a right piece

-- the floor and the rest of a number, by a million
record IsFloor (z q : ℤ) : Type 0 where
  rest : ℤ
  sum : ((q *ℤ pos 1000000) +ℤ rest) ≡ z
  low : pos 0 ≤ℤ rest
  high : rest <ℤ pos 1000000

floor : (z : ℤ) → IsFloor z (int_div_euclid z (pos 1000000))
floor (pos a) = record {
  rest = int_rem_euclid (pos a) (pos 1000000);
  sum = omega (arith, ints);
  low = omega (arith, ints);
  high = omega (arith, ints);
}
floor (negsuc a) = record {
  rest = int_rem_euclid (negsuc a) (pos 1000000);
  sum = omega (arith, ints);
  low = omega (arith, ints);
  high = omega (arith, ints);
}

-- a number between 0 and another, on either side
abbrev IsBetween : ℤ → ℤ → Type 0
IsBetween z w = ((pos 0 ≤ℤ z) × (z ≤ℤ w)) ⊎ ((w ≤ℤ z) × (z ≤ℤ pos 0))

-- less time goes less far
less_far : (t n : ℕ) (p : ℤ) → t ≤ n → IsBetween (pos t *ℤ p) (pos n *ℤ p)
less_far t n (pos k) h =
    let m = mul-le-mul_right k h in inl (omega (arith, ints), omega (arith, ints, m))
less_far t n (negsuc k) h =
    let m = mul-le-mul_right (suc k) h in inr (omega (arith, ints, m), omega (arith, ints))

-- what is between a start in range and an end in range is in range
inside : (s z w q : ℤ) → IsInRange s → IsFloor z q → IsBetween z w
    → (pos 0 -ℤ (most *ℤ pos 1000000)) ≤ℤ ((s *ℤ pos 1000000) +ℤ w)
    → ((s *ℤ pos 1000000) +ℤ w) ≤ℤ (most *ℤ pos 1000000) → IsInRange (s +ℤ q)
inside s z w q i f (inl b) l h =
    let a = f.sum in let c = f.low in let d = f.high in let e = i.low in let g = b.0 in
    let j = b.1 in
    record { low = omega (arith, ints, a, c, d, e, g); high = omega (arith, ints, a, c, h, j) }
inside s z w q i f (inr b) l h =
    let a = f.sum in let c = f.low in let d = f.high in let e = i.high in let g = b.0 in
    let j = b.1 in
    record { low = omega (arith, ints, a, d, l, g); high = omega (arith, ints, a, c, e, j) }

start_inside : (x : ItemOf Listed) → IsInRange (trimmed_start x)
start_inside x = record { low = (trimmed_near x).low; high = (trimmed_near x).high }

pub media_inside : (x : ItemOf Listed) (t : ℤ) → fault_of x ≡ None → pos 0 ≤ℤ t → t ≤ℤ ticks x
    → IsInRange (media_at (trimmed_start x) (speed_of x) t)
media_inside x (pos t) e a b =
    let s = faultless x e in
    let n = ticks_are x in
    inside (trimmed_start x) (pos t *ℤ speed_of x) (pos (or_zero (length_of x)) *ℤ speed_of x) _
    (start_inside x) (floor (pos t *ℤ speed_of x))
    (less_far t (or_zero (length_of x)) (speed_of x) (omega (arith, ints, n, b)))
    s.ends_low s.ends_high
media_inside x (negsuc t) e a b = absurd (omega (arith, ints, a))

pub right_start-is : (x : ItemOf Listed) (t m s p : ℤ) → fault_of x ≡ None → pos 0 ≤ℤ t
    → t ≤ℤ ticks x → m ≡ media_at s p t → s ≡ trimmed_start x → p ≡ speed_of x
    → IsRightStart x t m
right_start-is x t m s p e a b f g h =
    let is : m ≡ media_at (trimmed_start x) (speed_of x) t = f ∙ ap₂ (λ u v. media_at u v t) g h in
    record { is = is; near = subst IsInRange (sym is) (media_inside x t e a b) }

-- ---- pieces

pub left_near : (x : ItemOf Listed) (t : ℤ) → pos 0 ≤ℤ t → t ≤ℤ most
    → is_far (left_piece x t) ≡ false
left_near x t a b =
    let s = start_inside x in near_item x (trimmed_start x) t s.low s.high a b

-- ---- lists

pub front_near : (l : List (ItemOf Listed)) (t : ℤ) → pos 0 ≤ℤ t → t ≤ℤ most
    → has_far (front l t) ≡ false
front_near [] t a b = by_lt_z (pos 0) t
    (λ h. let e = lt_yes (pos 0) t h in
    let f = near_item plain_gap (pos 0) t (omega (arith, ints)) (omega (arith, ints)) a b in
    rw (e, f) refl)
    (λ h. let e = lt_no (pos 0) t h in rw e refl)
front_near (x ∷ l) t a b = by_lt_z (pos 0) t
    (λ h. let e = lt_yes (pos 0) t h in by_lt_z t (ticks x)
    (λ k. let f = le_no (ticks x) t k in let g = left_near x t a b in rw (e, f, g) refl)
    (λ k. let f = le_yes (ticks x) t k in
    rw (e, f) (front_near l (t -ℤ ticks x) (omega (arith, ints, k)) (omega (arith, ints, b)))))
    (λ h. let e = lt_no (pos 0) t h in rw e refl)

-- so no fault of range comes
pub cut_front : (l : List (ItemOf Listed)) (t : ℤ) → pos 0 ≤ℤ t → t ≤ℤ most
    → has_far (front l t) ≡ true → ⊥
cut_front l t a b = both_ways (has_far (front l t)) (front_near l t a b)

pub gap_within : (t : ℤ) → pos 0 ≤ℤ t → t ≤ℤ most → is_far (new_gap t) ≡ true → ⊥
gap_within t a b = both_ways (is_far (new_gap t))
    (near_item plain_gap (pos 0) t (omega (arith, ints)) (omega (arith, ints)) a b)

pub item_within : (x : ItemOf Listed) (s n : ℤ) → (pos 0 -ℤ most) ≤ℤ s → s ≤ℤ most → pos 0 ≤ℤ n
    → n ≤ℤ most → is_far (Ranged x s n) ≡ true → ⊥
item_within x s n a b c d = both_ways (is_far (Ranged x s n)) (near_item x s n a b c d)
