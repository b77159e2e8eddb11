-- Euclid's steps reach the greatest common divisor, and weights are in lowest terms.
use Rattle.std.proofs.Common.{◌≡◌, refl, ap, ◌∙◌, ℕ, zero, suc, ◌+◌, ◌-◌, ◌*◌, ◌/◌, ◌%◌, ◌<◌, pos, arith}
use Rattle.std.specs.Int.{IsGcd}
use Rattle.std.proofs.lemmas.Nat.{mod_below, div-add-mod', mod-mul-add}
use Rattle.std.proofs.lemmas.Nat.Gcd.{IsGcd-from_zero, IsGcd-from_mod}
use Rattle.std.proofs.Math.Nat.{mul-div-mul_right}
use Rattle.coord.specs.Looks.{weight, divisor, divisor_in}

greatest_in : (steps a b : ℕ) → b < steps → IsGcd a b (divisor_in steps a b)
greatest_in zero a b h = absurd (omega (arith, h))
greatest_in (suc steps) a zero h = IsGcd-from_zero a 0 refl
greatest_in (suc steps) a (suc b) h =
    let l = mod_below a (suc b) (omega arith) in
    IsGcd-from_mod a (suc b) (divisor_in steps (suc b) (a % suc b))
    (greatest_in steps (suc b) (a % suc b) (omega (arith, l, h)))

pub divisor_greatest : (a b : ℕ) → IsGcd a b (divisor a b)
divisor_greatest a b = greatest_in (suc b) a b (omega arith)

step : (m x y : ℕ) → 0 < y → divisor_in (suc m) x y ≡ divisor_in m y (x % y)
step m x zero h = absurd (omega (arith, h))
step m x (suc y) h = refl

ends : (m x y : ℕ) → y ≡ 0 → divisor_in (suc m) x y ≡ x
ends m x zero e = refl
ends m x (suc y) e = absurd (omega (arith, e))

under : (f x y : ℕ) → 0 < f → x < y → x * f < y * f
under f x y p l =
    let e : x + 1 + (y - x - 1) ≡ y = omega (arith, l) in
    let g = ap (λ n. n * f) e in omega (arith, g, p)

rest : (f a b : ℕ) → 0 < f → 0 < b → (a * f) % (b * f) ≡ a % b * f
rest f a b p q =
    let e = ap (λ n. n * f) (div-add-mod' a b) in
    let g : a * f ≡ a / b * (b * f) + a % b * f = omega (arith, e) in
    rw g (mod-mul-add (a / b) (b * f) (a % b * f) (under f (a % b) b p (mod_below a b q)))

scaled : (f : ℕ) → 0 < f → (m n a b : ℕ) → b * f < m → b < n
    → divisor_in m (a * f) (b * f) ≡ divisor_in n a b * f
scaled f p zero n a b h k = absurd (omega (arith, h))
scaled f p (suc m) zero a b h k = absurd (omega (arith, k))
scaled f p (suc m) (suc n) a zero h k = ends m (a * f) (0 * f) (omega arith)
scaled f p (suc m) (suc n) a (suc b) h k =
    let l = mod_below a (suc b) (omega arith) in
    let low = under f (a % suc b) (suc b) p l in
    let some : 0 < suc b * f = omega (arith, p) in
    step m (a * f) (suc b * f) some
    ∙ ap (divisor_in m (suc b * f)) (rest f a (suc b) p (omega arith))
    ∙ scaled f p m n (suc b) (a % suc b) (omega (arith, low, h)) (omega (arith, l, k))

-- both numbers of a weight times another number
pub weight_scaled : (a b c : ℕ) → 0 < c → weight (a * c) (b * c) ≡ weight a b
weight_scaled a b c p =
    let e : divisor (a * c) (b * c) ≡ divisor a b * c =
    scaled c p (suc (b * c)) (suc b) a b (omega arith) (omega arith) in
    λ i. record { num = pos (quotient a e i); den = pos (quotient b e i) }
  where
    quotient : (n : ℕ) → divisor (a * c) (b * c) ≡ divisor a b * c
        → n * c / divisor (a * c) (b * c) ≡ n / divisor a b
    quotient n e = ap (λ d. n * c / d) e ∙ mul-div-mul_right n (divisor a b) p
