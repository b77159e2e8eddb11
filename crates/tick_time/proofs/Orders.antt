-- The order of two fractions, and what lies near a 1001 rate.
use Rattle.std.proofs.Common.{◌≡◌, ℕ, ◌+◌, ◌-◌, ◌*◌, ◌/◌, ◌%◌, ◌<◌, ◌≤◌, ◌↔◌, Bool, true, false, refl, ap, arith, IsTrue, nat_le}
use Rattle.std.proofs.lemmas.Bool.Decides.{nat_tests}
use Rattle.std.proofs.Math.Nat.{mul-le-mul_left, mul-le-mul_right}
use Rattle.tick_time.specs.Rates.{is_near}

less_in : (b d q r s t : ℕ) → r < b → q < s → (b * q + r) * d ≤ (d * s + t) * b
less_in b d q r s t small lt =
    let all : b * d * (q + 1) ≤ b * d * s = mul-le-mul_left (b * d) (omega arith) in
    let rest : r * d ≤ b * d = mul-le-mul_right d (omega arith) in
    omega arith

more_in : (b d q r s t : ℕ) → 1 ≤ b → t < d → s < q → (d * s + t) * b < (b * q + r) * d
more_in b d q r s t some small lt =
    let all : b * d * (s + 1) ≤ b * d * q = mul-le-mul_left (b * d) (omega arith) in
    let rest : (t + 1) * b ≤ d * b = mul-le-mul_right b (omega arith) in
    omega arith

parts : (a b : ℕ) → 1 ≤ b → a ≡ b * (a / b) + a % b
parts a b some = omega arith

pub less_quotient : (a b c d : ℕ) → 1 ≤ b → 1 ≤ d → a / b < c / d → a * d ≤ c * b
less_quotient a b c d left right lt =
    let f = less_in b d (a / b) (a % b) (c / d) (c % d) (omega arith) lt in
    omega (arith, f, ap (λ x. x * d) (parts a b left), ap (λ x. x * b) (parts c d right))

pub more_quotient : (a b c d : ℕ) → 1 ≤ b → 1 ≤ d → c / d < a / b → c * b < a * d
more_quotient a b c d left right lt =
    let f = more_in b d (a / b) (a % b) (c / d) (c % d) left (omega arith) lt in
    omega (arith, f, ap (λ x. x * d) (parts a b left), ap (λ x. x * b) (parts c d right))

-- where the quotients are equal, the rests decide
pub same_quotient : (a b c d : ℕ) → 1 ≤ b → 1 ≤ d → a / b ≡ c / d → (a * d + c % d * b ≡ c * b + a % b * d)
same_quotient a b c d left right e =
    let f : a * d ≡ (b * (a / b) + a % b) * d = ap (λ x. x * d) (parts a b left) in
    let g : c * b ≡ (d * (c / d) + c % d) * b = ap (λ x. x * b) (parts c d right) in
    let h : b * d * (a / b) ≡ b * d * (c / d) = ap (λ x. b * d * x) e in
    omega arith

lower_in : (m n b : ℕ) → m + 1001 ≡ 100000 * n → m * b + 1001 * b ≡ 100000 * (n * b)
lower_in m n b e = let f : (m + 1001) * b ≡ 100000 * n * b = ap (λ x. x * b) e in omega arith

near_in : (r : Bool) (top p b low : ℕ) → low + 1001 * b ≡ 100000 * p → low ≤ top * 100100 → (IsTrue r ↔ (top * 100100 ≤ 100000 * p + 1001 * b))
    → r ≡ nat_le (100 * ((1001 * top - 1000 * p) + (1000 * p - 1001 * top))) (1001 * b)
near_in true top p b low e below above = let h = above.0 refl in grind (arith, nat_tests)
near_in false top p b low e below above = let h : 100000 * p + 1001 * b < top * 100100 = not_le (top * 100100) (100000 * p + 1001 * b) above.1 in grind (arith, nat_tests) where
  not_le : (x y : ℕ) → (x ≤ y → IsTrue false) → y < x
  not_le x y no_le = grind arith

pub near_both : (r : Bool) (top b n : ℕ) → 1 ≤ n → (100000 * n - 1001) * b ≤ top * 100100 → (IsTrue r ↔ (top * 100100 ≤ (100000 * n + 1001) * b)) → r ≡ is_near top b n
near_both r top b n some below above =
    let p : 1000 * n * b ≡ 1000 * (n * b) = omega arith in
    let high : (100000 * n + 1001) * b ≡ 100000 * (n * b) + 1001 * b = omega arith in
    rw p (near_in r top (n * b) b ((100000 * n - 1001) * b) (lower_in (100000 * n - 1001) n b (omega arith)) below (rw high at above))

far_in : (top p b low : ℕ) → low + 1001 * b ≡ 100000 * p → top * 100100 < low → false ≡ nat_le (100 * ((1001 * top - 1000 * p) + (1000 * p - 1001 * top))) (1001 * b)
far_in top p b low e far = grind (arith, nat_tests)

not_at_most : (x y : ℕ) → (x ≤ y → ⊥) → y < x
not_at_most x y far = omega arith

pub far_below : (top b n : ℕ) → 1 ≤ n → ((100000 * n - 1001) * b ≤ top * 100100 → IsTrue false) → false ≡ is_near top b n
far_below top b n some far =
    let p : 1000 * n * b ≡ 1000 * (n * b) = omega arith in
    rw p (far_in top (n * b) b ((100000 * n - 1001) * b) (lower_in (100000 * n - 1001) n b (omega arith)) (not_at_most _ _ (λ h. cc (far h))))

below_of : (x y : ℕ) → (x ≡ y → ⊥) → (y < x → ⊥) → x < y
below_of x y ne no_more = omega arith

pub below_quotient : (a b c d : ℕ) → 1 ≤ b → 1 ≤ d → (a / b ≡ c / d → ⊥) → a * d ≤ c * b → a / b < c / d
below_quotient a b c d left right ne h = below_of _ _ ne (λ more. omega (arith, more_quotient a b c d left right more))

pub over_zero : (a b c d : ℕ) → 1 ≤ b → 1 ≤ d → a / b ≡ c / d → a % b ≡ 0 → a * d ≤ c * b
over_zero a b c d left right e none = let z : a % b * d ≡ 0 = rw none (omega arith) in omega (arith, same_quotient a b c d left right e)

pub under_zero : (a b c d : ℕ) → 1 ≤ b → 1 ≤ d → a / b ≡ c / d → (a % b ≡ 0 → ⊥) → c % d ≡ 0 → a * d ≤ c * b → ⊥
under_zero a b c d left right e some none h =
    let z : c % d * b ≡ 0 = rw none (omega arith) in
    let more : 1 * d ≤ a % b * d = mul-le-mul_right d (omega arith) in
    omega (arith, same_quotient a b c d left right e)
