-- Euclid's steps.
use Rattle.std.proofs.Common.{◌+◌, ◌≡◌, ℕ, zero, suc, ◌<◌, ◌%◌, refl, arith}
use Rattle.std.proofs.lemmas.Nat.{mod_below}
use Rattle.coord.specs.Looks.{divisor, divisor_in}

-- that many steps are enough that are more than the second number
enough : (m n a b : ℕ) → b < m → b < n → divisor_in m a b ≡ divisor_in n a b
enough zero n a b h k = absurd (omega (arith, h))
enough (suc m) zero a b h k = absurd (omega (arith, k))
enough (suc m) (suc n) a zero h k = refl
enough (suc m) (suc n) a (suc b) h k = let l = mod_below a (suc b) (omega arith) in enough m n (suc b) (a % suc b) (omega (arith, l, h)) (omega (arith, l, k))

pub divisor_done : (a b : ℕ) → b ≡ 0 → a ≡ divisor a b
divisor_done a zero e = refl
divisor_done a (suc b) e = absurd (omega (arith, e))

pub divisor_next : (a b : ℕ) → (b ≡ 0 → ⊥) → divisor b (a % b) ≡ divisor a b
divisor_next a zero h = absurd (h refl)
divisor_next a (suc b) h = let l = mod_below a (suc b) (omega arith) in enough (suc (a % suc b)) (suc b) (suc b) (a % suc b) (omega (arith, l)) (omega (arith, l))

some : (n a b : ℕ) → b < n → 0 < a + b → 0 < divisor_in n a b
some zero a b h k = absurd (omega (arith, h))
some (suc n) a zero h k = omega (arith, k)
some (suc n) a (suc b) h k = let l = mod_below a (suc b) (omega arith) in some n (suc b) (a % suc b) (omega (arith, l, h)) (omega arith)

-- with a second number that isn't 0 it isn't 0
pub divisor_some : (a b : ℕ) → 0 < b → 0 < divisor a b
divisor_some a b h = some (suc b) a b (omega arith) (omega (arith, h))
