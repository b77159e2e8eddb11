-- Clamped moves are whole frames, and leave what they have to.
use Rattle.std.proofs.Common.{◌≡◌, refl, sym, ap, ◌∙◌, ℕ, ◌+◌, ◌*◌, ◌/◌, ◌%◌, ◌<◌, ℤ, pos, negsuc, ◌-ℤ◌, ◌*ℤ◌, ◌≤ℤ◌, ◌<ℤ◌, true, false, Option, Some, None, arith}
use Rattle.std.specs.Prelude.{int_lt, unsigned_abs, ◌==◌}
use Rattle.std.specs.Int.{int_div_euclid, int_min, int_max}
use Rattle.std.proofs.lemmas.Int.{ints, by_lt_z, clamps, unsigned_abs-mul}
use Rattle.std.proofs.Math.Nat.{mul-mod_left, div-mul-le_self, div-add-mod}
use Rattle.otio_model.specs.declared.compositions.ItemOf.{ItemOf}
use Rattle.otio_model.specs.declared.compositions.Listed.{Listed}
use Rattle.coord.specs.Speeds.{speed_of}
use Rattle.edits.specs.Cuts.{is_whole_at}
use Rattle.edits.specs.Edges.{whole_frames, whole_limit, lesser, at_least, at_most, clamped}
use Rattle.edits_law.proofs.Splice.{cases}

-- a whole number of frames of n ticks
abbrev pub Whole : ℕ → ℤ → Type 0
Whole n z = unsigned_abs z % n ≡ 0

pub none_whole : (n : ℕ) → Whole n (pos 0)
none_whole n = zero_mod n
  where
    zero_mod : (m : ℕ) → 0 % m ≡ 0
    zero_mod m = let e : 0 * m ≡ 0 = omega arith in ap (λ k. k % m) (sym e) ∙ mul-mod_left 0 m

pub times_whole : (n : ℕ) (k : ℤ) → Whole n (k *ℤ pos n)
times_whole n k = rw (unsigned_abs-mul k (pos n)) (mul-mod_left (unsigned_abs k) n)

pub down_whole : (n : ℕ) (z : ℤ) → Whole n (whole_frames (pos n) z)
down_whole n z = cases (int_lt z (pos 0)) (λ s. rw s (none_whole n)) (λ s. rw s (times_whole n (int_div_euclid z (pos n))))

other_sign : (z : ℤ) → unsigned_abs (pos 0 -ℤ z) ≡ unsigned_abs z
other_sign z = omega (arith, ints)

minus_whole : (n : ℕ) (z : ℤ) → Whole n z → Whole n (pos 0 -ℤ z)
minus_whole n z h = rw (other_sign z) h

min_whole : (n : ℕ) (a b : ℤ) → Whole n a → Whole n b → Whole n (int_min a b)
min_whole n a b h k = by_lt_z a b
    (λ s. let e : int_min a b ≡ a = omega (arith, ints, clamps) in rw e h)
    (λ s. let e : int_min a b ≡ b = omega (arith, ints, clamps) in rw e k)

max_whole : (n : ℕ) (a b : ℤ) → Whole n a → Whole n b → Whole n (int_max a b)
max_whole n a b h k = by_lt_z a b
    (λ s. let e : int_max a b ≡ b = omega (arith, ints, clamps) in rw e k)
    (λ s. let e : int_max a b ≡ a = omega (arith, ints, clamps) in rw e h)

-- a limit, where there is one, is a whole number of frames and isn't negative
pub record IsLimit (n : ℕ) (z : ℤ) : Type 0 where
  pub whole : Whole n z
  pub low : pos 0 ≤ℤ z

abbrev pub AreLimits : ℕ → Option ℤ → Type 0
AreLimits n None = Unit {0}
AreLimits n (Some z) = IsLimit n z

down_low : (n : ℕ) (z : ℤ) → 0 < n → pos 0 ≤ℤ whole_frames (pos n) z
down_low n z h = by_lt_z z (pos 0)
    (λ s. let e : int_lt z (pos 0) ≡ true = grind (arith, ints) in rw e (omega (arith, ints)))
    (λ s. let e : int_lt z (pos 0) ≡ false = grind (arith, ints) in rw e (low z s))
  where
    low : (y : ℤ) → pos 0 ≤ℤ y → pos 0 ≤ℤ (int_div_euclid y (pos n) *ℤ pos n)
    low (pos m) k = omega (arith, ints)
    low (negsuc m) k = absurd (omega (arith, ints))

pub down_high : (n : ℕ) (z : ℤ) → 0 < n → pos 0 ≤ℤ z → whole_frames (pos n) z ≤ℤ z
down_high n z h k = let e : int_lt z (pos 0) ≡ false = grind (arith, ints) in rw e (high z k)
  where
    high : (y : ℤ) → pos 0 ≤ℤ y → (int_div_euclid y (pos n) *ℤ pos n) ≤ℤ y
    high (pos m) s = let d = div-mul-le_self m n in omega (arith, ints, d)
    high (negsuc m) s = absurd (omega (arith, ints))

pub down_none : (n : ℕ) (z : ℤ) → z <ℤ pos 0 → whole_frames (pos n) z ≡ pos 0
down_none n z h = let e : int_lt z (pos 0) ≡ true = grind (arith, ints) in rw e refl

pub down_limit : (n : ℕ) (z : ℤ) → 0 < n → IsLimit n (whole_frames (pos n) z)
down_limit n z h = record { whole = down_whole n z; low = down_low n z h }

pub downs_limit : (n : ℕ) (o : Option ℤ) → 0 < n → AreLimits n (whole_limit (pos n) o)
downs_limit n None h = tt
downs_limit n (Some z) h = down_limit n z h

pub lesser_limit : (n : ℕ) (o p : Option ℤ) → AreLimits n o → AreLimits n p → AreLimits n (lesser o p)
lesser_limit n None p a b = b
lesser_limit n (Some x) None a b = a
lesser_limit n (Some x) (Some y) a b = let l = a.low in let m = b.low in record { whole = min_whole n x y a.whole b.whole; low = omega (arith, ints, clamps) }

-- what is held between limits is a whole number of frames
pub clamped_whole : (n : ℕ) (o p : Option ℤ) (z : ℤ) → AreLimits n o → AreLimits n p → Whole n z → Whole n (clamped o p z)
clamped_whole n o p z a b h = above p b (at_least o z) (below o a)
  where
    below : (q : Option ℤ) → AreLimits n q → Whole n (at_least q z)
    below None c = h
    below (Some x) c = max_whole n z (pos 0 -ℤ x) h (minus_whole n x c.whole)

    above : (q : Option ℤ) → AreLimits n q → (y : ℤ) → Whole n y → Whole n (at_most q y)
    above None c y k = k
    above (Some x) c y k = min_whole n y x k c.whole

-- and no further whole_frames than the lower limit
pub clamped_low : (n : ℕ) (a : ℤ) (p : Option ℤ) (z : ℤ) → IsLimit n a → AreLimits n p → (pos 0 -ℤ a) ≤ℤ clamped (Some a) p z
clamped_low n a None z h k = omega (arith, ints, clamps)
clamped_low n a (Some b) z h k = let l = h.low in let m = k.low in omega (arith, ints, clamps)

-- nor further up than the upper one
pub clamped_high : (o : Option ℤ) (b z : ℤ) → clamped o (Some b) z ≤ℤ b
clamped_high None b z = omega (arith, ints, clamps)
clamped_high (Some a) b z = omega (arith, ints, clamps)

-- the lesser of two limits is at most the first, and at most the second
pub lesser_first : (n : ℕ) (a : ℤ) (p : Option ℤ) → (c : ℤ) × (lesser (Some a) p ≡ Some c) × (c ≤ℤ a)
lesser_first n a None = (a, refl, omega (arith, ints))
lesser_first n a (Some b) = (int_min a b, refl, omega (arith, ints, clamps))

pub lesser_second : (n : ℕ) (o : Option ℤ) (b : ℤ) → (c : ℤ) × (lesser o (Some b) ≡ Some c) × (c ≤ℤ b)
lesser_second n None b = (b, refl, omega (arith, ints))
lesser_second n (Some a) b = (int_min a b, refl, omega (arith, ints, clamps))

-- ---- whole frames are whole ticks of the media

millions : (m u s : ℕ) → m % (1000000 * u) ≡ 0 → m * s % 1000000 ≡ 0
millions m u s e =
    let d : ℕ = m / (1000000 * u) in
    let f : m ≡ 1000000 * u * (m / (1000000 * u)) + m % (1000000 * u) = sym (div-add-mod m (1000000 * u)) in
    let g : m ≡ 1000000 * u * (m / (1000000 * u)) = omega (arith, e, f) in
    let i : m * s ≡ (u * (m / (1000000 * u)) * s) * 1000000 = ap (λ k. k * s) g ∙ shape u (m / (1000000 * u)) s in
    ap (λ k. k % 1000000) i ∙ mul-mod_left (u * (m / (1000000 * u)) * s) 1000000
  where
    shape : (a b c : ℕ) → 1000000 * a * b * c ≡ (a * b * c) * 1000000
    shape a b c = omega arith

zero_eq : (n : ℕ) → n ≡ 0 → (n == 0) ≡ true
zero_eq n e = rw e refl

pub whole_at : (x : ItemOf Listed) (u : ℕ) (h : ℤ) → Whole (1000000 * u) h → is_whole_at x h ≡ true
whole_at x u h w = zero_eq _ (ap (λ k. k % 1000000) (unsigned_abs-mul h (speed_of x)) ∙ millions (unsigned_abs h) u (unsigned_abs (speed_of x)) w)

-- one tick less than a length, in whole frames, is at most the length, and less where that isn't 0
pub down_one : (n : ℕ) (z : ℤ) → 0 < n → pos 0 ≤ℤ z → whole_frames (pos n) (z -ℤ pos 1) ≤ℤ z
down_one n z h k = by_lt_z (z -ℤ pos 1) (pos 0)
    (λ s. let e = down_none n (z -ℤ pos 1) s in omega (arith, ints, e))
    (λ s. let e = down_high n (z -ℤ pos 1) h s in omega (arith, ints, e))

pub down_less : (n : ℕ) (z : ℤ) → 0 < n → pos 0 <ℤ z → whole_frames (pos n) (z -ℤ pos 1) <ℤ z
down_less n z h k = let e = down_high n (z -ℤ pos 1) h (omega (arith, ints)) in omega (arith, ints, e)

-- a number held below a limit that is the lesser of two
pub low_first : (n : ℕ) (a : ℤ) (o p : Option ℤ) (z : ℤ) → IsLimit n a → AreLimits n o → AreLimits n p → (pos 0 -ℤ a) ≤ℤ clamped (lesser (Some a) o) p z
low_first n a None p z h k m = clamped_low n a p z h m
low_first n a (Some b) p z h k m =
    let l = lesser_limit n (Some a) (Some b) h k in
    let c = clamped_low n (int_min a b) p z l m in omega (arith, ints, clamps, c)

pub low_second : (n : ℕ) (o : Option ℤ) (b : ℤ) (p : Option ℤ) (z : ℤ) → AreLimits n o → IsLimit n b → AreLimits n p → (pos 0 -ℤ b) ≤ℤ clamped (lesser o (Some b)) p z
low_second n None b p z h k m = clamped_low n b p z k m
low_second n (Some a) b p z h k m =
    let l = lesser_limit n (Some a) (Some b) h k in
    let c = clamped_low n (int_min a b) p z l m in omega (arith, ints, clamps, c)

-- and one held above
pub high_first : (o : Option ℤ) (a : ℤ) (p : Option ℤ) (z : ℤ) → clamped o (lesser (Some a) p) z ≤ℤ a
high_first o a None z = clamped_high o a z
high_first o a (Some b) z = let c = clamped_high o (int_min a b) z in omega (arith, ints, clamps, c)

pub high_second : (o p : Option ℤ) (b z : ℤ) → clamped o (lesser p (Some b)) z ≤ℤ b
high_second o None b z = clamped_high o b z
high_second o (Some a) b z = let c = clamped_high o (int_min a b) z in omega (arith, ints, clamps, c)
