-- Fractions in lowest terms.
use Rattle.std.proofs.Common.{◌≡◌, ℕ, ◌+◌, ◌-◌, ◌*◌, subst, arith}
use Rattle.std.proofs.lemmas.Nat.Gcd.{dvd_antisymm, dvd_of_mod-eq-zero}
use Rattle.std.proofs.Math.Nat.{dvd-sub, dvd-mul_left_of_dvd}
use Prim.Native.Nat.{◌∣◌}

-- what divides 1 is 1
pub divides_one : (k : ℕ) → k ∣ 1 → k ≡ 1
divides_one k h = dvd_antisymm h (dvd_of_mod-eq-zero 1 (omega arith))

-- two numbers with multiples that lie one apart have no common factor but 1
pub coprime : (a b x y k : ℕ) → x * a ≡ y * b + 1 → k ∣ a → k ∣ b → k ≡ 1
coprime a b x y k apart p q =
    let one : x * a - y * b ≡ 1 = omega (arith, apart) in
    let divides : k ∣ 1 = subst (λ n. k ∣ n) one (dvd-sub k (dvd-mul_left_of_dvd k p x) (dvd-mul_left_of_dvd k q y)) in
    divides_one k divides
