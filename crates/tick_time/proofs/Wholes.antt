-- Whole numbers of pieces.
use Rattle.std.proofs.Common.{◌≡◌, ℕ, ◌*◌, ◌/◌, ◌%◌, ◌+◌, ◌-◌, ◌<◌, ◌≤◌, ℤ, pos, negsuc, zero, suc, ◌≤ℤ◌, ◌*ℤ◌, ap, arith, add-one, unsigned_abs, refl, ◌∙◌}
use lib.IntN.{neg_ℤ}
use Rattle.std.specs.Int.{int_rem_euclid, int_div_euclid}
use Rattle.std.proofs.lemmas.Int.{ints, unsigned_abs-mul}
use Rattle.std.proofs.Math.Nat.{mul-mod_left, mul-le-mul_left, mul-div_left}
use Rattle.std.proofs.lemmas.Nat.{div-mul-add}
use mir.Syntax.{w128}
use mir.Val.{SFits, of_z}
use Rattle.tick_time.specs.Times.{IsWhole}
use Rattle.tick_time.specs.Rates.{frame, unit}

-- a whole number of pieces one below: its remainder is the last
rem_below : (a d : ℕ) → 1 ≤ d → d - 1 - a % d ≡ 0 → (a + 1) % d ≡ 0
rem_below a d one e =
    let next : a + 1 ≡ (a / d + 1) * d = omega arith in rw next (mul-mod_left (a / d + 1) d)

last_in : (d q r p : ℕ) → r < d → d * q + r + 1 ≡ d * p → d ≤ r + 1
last_in d q r p low e = grind (arith, mul-le-mul_left)

below_rem : (a d : ℕ) → 1 ≤ d → (a + 1) % d ≡ 0 → d - 1 - a % d ≡ 0
below_rem a d one e =
    let last = last_in d (a / d) (a % d) ((a + 1) / d) (omega arith) (omega arith) in omega arith

pub rem_zero : (ticks piece : ℤ) → pos 1 ≤ℤ piece → int_rem_euclid ticks piece ≡ pos 0 → IsWhole ticks (unsigned_abs piece)
rem_zero (pos a) (pos d) one e = ap unsigned_abs e
rem_zero (negsuc a) (pos d) one e =
    rw (← add-one a) (rem_below a d (omega (arith, ints)) (ap unsigned_abs e))
rem_zero (pos a) (negsuc d) one e = absurd (omega (arith, ints))
rem_zero (negsuc a) (negsuc d) one e = absurd (omega (arith, ints))

pub zero_rem : (ticks piece : ℤ) → pos 1 ≤ℤ piece → IsWhole ticks (unsigned_abs piece) → int_rem_euclid ticks piece ≡ pos 0
zero_rem (pos a) (pos d) one e = ap pos e
zero_rem (negsuc a) (pos d) one e =
    ap pos (below_rem a d (omega (arith, ints)) (rw add-one e))
zero_rem (pos a) (negsuc d) one e = absurd (omega (arith, ints))
zero_rem (negsuc a) (negsuc d) one e = absurd (omega (arith, ints))

-- any number of pieces is whole
pub whole-product : (n : ℤ) (piece : ℕ) → IsWhole (n *ℤ pos piece) piece
whole-product n piece = rw (unsigned_abs-mul n (pos piece)) (mul-mod_left (unsigned_abs n) piece)

frames_in : (m piece : ℕ) → m * (1000000 * piece) % piece ≡ 0
frames_in m piece =
    let e : m * (1000000 * piece) ≡ m * 1000000 * piece = omega arith in rw e (mul-mod_left (m * 1000000) piece)

pub whole-frames : (n num den : ℤ) → IsWhole (n *ℤ pos (frame num den)) (unit num den)
whole-frames n num den = rw (unsigned_abs-mul n (pos (frame num den))) (frames_in (unsigned_abs n) (unit num den))

-- every time is whole in single ticks
pub whole-one : (n num den : ℤ) → num ≡ pos 705600000000 → den ≡ pos 1 → IsWhole n (unit num den)
whole-one n num den e f = rw (e, f) (omega arith)

pub zero_from-bits : (z : ℤ) → SFits w128 z → of_z w128 z ≡ 0 → z ≡ pos 0
zero_from-bits (pos n) fits e = ap pos e
zero_from-bits (negsuc n) fits e = absurd (omega (arith, ints))

-- ticks that are a whole number of pieces, counted
pub units_of : (ticks : ℤ) (piece : ℕ) → 1 ≤ piece → IsWhole ticks piece → (units : ℤ) × (ticks ≡ units *ℤ pos piece)
units_of (pos t) piece some whole = (pos (t / piece), ap pos (omega arith))
units_of (negsuc t) (suc piece) some whole = minus_units (suc t / suc piece) t (suc piece) (omega arith) where
  minus_units : (q t piece : ℕ) → suc t ≡ q * piece → (units : ℤ) × (negsuc t ≡ units *ℤ pos piece)
  minus_units zero t piece e = absurd (omega arith)
  minus_units (suc q) t piece e = (negsuc q, ap (λ n. neg_ℤ (pos n)) e)
units_of (negsuc t) zero some whole = absurd (omega arith)

pub ruleset wholes = (whole-frames, whole-one)

below_quotient : (a b x : ℕ) → x + 1 ≡ suc a * suc b → x / suc b ≡ a
below_quotient a b x e = let f : x ≡ a * suc b + b = omega arith in rw f (div-mul-add a (suc b) b (omega arith))

neg_quotient : (p a b : ℕ) → p ≡ suc a * suc b → int_div_euclid (neg_ℤ (pos p)) (pos (suc b)) ≡ negsuc a
neg_quotient zero a b e = absurd (omega arith)
neg_quotient (suc x) a b e = ap negsuc (below_quotient a b x (add-one x ∙ e))

-- so many pieces, counted
pub count-product : (n : ℤ) (piece : ℤ) → pos 1 ≤ℤ piece → int_div_euclid (n *ℤ piece) piece ≡ n
count-product (pos a) (pos b) some = ap pos (mul-div_left a (omega (arith, ints)))
count-product (negsuc a) (pos (suc b)) some = neg_quotient (suc a * suc b) a b refl
count-product (negsuc a) (pos zero) some = absurd (omega (arith, ints))
count-product (pos a) (negsuc b) some = absurd (omega (arith, ints))
count-product (negsuc a) (negsuc b) some = absurd (omega (arith, ints))
