-- A value gives one rate, one number of millionths and one time.
use Rattle.std.proofs.Common.{◌≡◌, ℕ, zero, suc, ◌+◌, ◌*◌, ◌/◌, ◌%◌, ◌<◌, ◌≤◌, true, ℤ, pos, negsuc, ◌*ℤ◌, ◌≤ℤ◌, unsigned_abs, refl, sym, ◌∙◌, ap, subst, arith}
use lib.IntN.{neg_ℤ}
use Rattle.std.specs.Int.{IsGcd}
use Rattle.std.proofs.lemmas.Int.{ints}
use Rattle.std.proofs.lemmas.Nat.Gcd.{IsGcd-from_zero, IsGcd-from_mod}
use Rattle.std.proofs.Math.Nat.{le_of_mul-le-mul_right}
use Rattle.tick_time.specs.Numerals.{Fraction, IsSame}
use Rattle.tick_time.specs.Rates.{is_near, IsSpelledRate, IsRateOf, relative, spelled, GivesRate}
use Rattle.tick_time.proofs.Nears.{close, near_same, near_any_same, near_any_at}
use Rattle.tick_time.proofs.LowestTerms.{only_lowest, same_right, spelled_same}
use Rattle.tick_time.proofs.SpelledRates.{bounds}

gcd_in : (fuel a b : ℕ) → b < fuel → (g : ℕ) × IsGcd a b g
gcd_in zero a b lt = absurd (omega arith)
gcd_in (suc fuel) a zero lt = (a, IsGcd-from_zero a 0 refl)
gcd_in (suc fuel) a (suc b) lt = let r = gcd_in fuel (suc b) (a % suc b) (omega arith) in (r.0, IsGcd-from_mod a (suc b) r.0 r.1)

count_le : (t b n k : ℕ) → 1 ≤ b → is_near t b n ≡ true → is_near t b k ≡ true → n ≤ k
count_le t b n k some p q =
    let here = close t b n p in
    let there = close t b k q in
    let both : (100000 * n) * b ≤ (100000 * k + 2002) * b = omega (arith, here.below, there.above) in
    let le : 100000 * n ≤ 100000 * k + 2002 = le_of_mul-le-mul_right {k = b} both some in omega arith

spelled_once : (t b n d m e : ℕ) → 1 ≤ b → IsSpelledRate t b n d → IsSpelledRate t b m e → (n ≡ m) × (d ≡ e)
spelled_once t b n d m e some p q =
    let f = bounds t b n d p in
    let cross : n * e ≡ m * d = same_right (n * e) (m * d) b some (omega (arith, ap (λ x. x * e) p.equal, ap (λ x. x * d) q.equal)) in
    let size = n * (1000000 / d) in
    let here : IsSpelledRate (n * (1000000 / d)) 1000000 n d = record { equal = omega (arith, ap (λ x. n * x) f.places); lowest = p.lowest; profile = p.profile } in
    let there : IsSpelledRate (n * (1000000 / d)) 1000000 m e = record { equal = omega (arith, ap (λ x. m * x) f.places, ap (λ x. x * (1000000 / d)) cross); lowest = q.lowest; profile = q.profile } in
    let g = gcd_in 1000001 (n * (1000000 / d)) 1000000 (omega arith) in
    let one = only_lowest (n * (1000000 / d)) g.0 n d g.1 here in
    let other = only_lowest (n * (1000000 / d)) g.0 m e g.1 there in (one.0 ∙ sym other.0, one.1 ∙ sym other.1)

rate_once : (t b n d m e : ℕ) → 1 ≤ b → IsRateOf t b n d → IsRateOf t b m e → (n ≡ m) × (d ≡ e)
rate_once t b n d m e some (relative k p near num den) (relative l q also num2 den2) =
    let le = count_le t b k l some near also in
    let ge = count_le t b l k some also near in (omega arith, omega arith)
rate_once t b n d m e some (relative k p near num den) (spelled apart s) = let yes = near_any_at t b k p near in cc
rate_once t b n d m e some (spelled apart s) (relative l q near num den) = let yes = near_any_at t b l q near in cc
rate_once t b n d m e some (spelled apart s) (spelled also r) = spelled_once t b n d m e some s r

rate_same : (t b u e n d : ℕ) → 1 ≤ b → 1 ≤ e → t * e ≡ u * b → IsRateOf t b n d → IsRateOf u e n d
rate_same t b u e n d some other same (relative k p near num den) = relative k p (sym (near_same t b u e k some other same) ∙ near) num den
rate_same t b u e n d some other same (spelled apart s) = spelled (sym (near_any_same t b u e some other same) ∙ apart) (spelled_same t b u e n d some same s)

-- a number whose multiple is not negative is not
not_minus : (z : ℤ) (b t : ℕ) → 1 ≤ b → (z *ℤ pos b) ≡ pos t → (u : ℕ) × (z ≡ pos u) × (u * b ≡ t)
not_minus (pos u) b t some e = (u, refl, ap unsigned_abs e)
not_minus (negsuc u) (suc b) t some e = absurd (minus_in (suc u * suc b) t (omega arith) e) where
  minus_in : (x t : ℕ) → 1 ≤ x → neg_ℤ (pos x) ≡ pos t → ⊥
  minus_in zero t some e = omega arith
  minus_in (suc x) t some e = cc
not_minus (negsuc u) zero t some e = absurd (omega arith)

-- equal fractions give the same rate
pub gives_same : (v w : Fraction) (num den : ℤ) → IsSame v w → 1 ≤ v.bottom → 1 ≤ w.bottom → GivesRate w num den → GivesRate v num den
gives_same v w num den same some other g =
    let e : (v.top *ℤ pos w.bottom) ≡ pos (g.top * v.bottom) = same ∙ ap (λ z. z *ℤ pos v.bottom) g.size in
    let t = not_minus v.top w.bottom (g.top * v.bottom) other e in
    record { top = t.0; size = t.1; rate = rate_same g.top w.bottom t.0 v.bottom (unsigned_abs num) (unsigned_abs den) other some (sym t.2) g.rate }

pub gives_once : (v : Fraction) (num den again over : ℤ) → 1 ≤ v.bottom → GivesRate v num den → GivesRate v again over → (unsigned_abs num ≡ unsigned_abs again) × (unsigned_abs den ≡ unsigned_abs over)
gives_once v num den again over some g h =
    let top : g.top ≡ h.top = ap unsigned_abs (sym g.size ∙ h.size) in
    rate_once g.top v.bottom _ _ _ _ some g.rate (subst (λ t. IsRateOf t v.bottom (unsigned_abs again) (unsigned_abs over)) (sym top) h.rate)

pub same_positive : (a b : ℤ) → pos 1 ≤ℤ a → pos 1 ≤ℤ b → unsigned_abs a ≡ unsigned_abs b → a ≡ b
same_positive a b p q e = omega (arith, ints)
