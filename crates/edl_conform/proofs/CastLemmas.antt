-- What is near 0 fits its type.
use Rattle.std.proofs.Common.{◌≡◌, sym, subst, ℕ, ◌≤◌, ℤ, ◌<ℤ◌, true, to_z, of_z, arith}
use Rattle.std.specs.Prelude.{int_lt}
use Rattle.std.specs.Int.{w128}
use Rattle.std.proofs.lemmas.Int.{ints}
use Rattle.edl_conform.specs.Ranges.{IsNear}

pub kept : (n : ℕ) (z : ℤ) → n ≤ 100000000000000000000000000000000000 → IsNear n z
    → to_z w128 (of_z w128 z) ≡ z
kept n z few near = let low = near.low in let high = near.high in
    omega (arith, ints, low, high, few)

pub is_int_lt : (a b : ℤ) → a <ℤ b → int_lt a b ≡ true
is_int_lt a b h = grind (arith, ints)

-- a number that is near 0 in its type
pub near_in : (n : ℕ) (z : ℤ) → n ≤ 100000000000000000000000000000000000 → IsNear n z
    → IsNear n (to_z w128 (of_z w128 z))
near_in n z few near = subst (IsNear n) (sym (kept n z few near)) near
