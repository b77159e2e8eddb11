-- Products of small numbers.
use Rattle.std.proofs.Common.{ℤ, pos, negsuc, ◌*ℤ◌, arith}
use Rattle.std.proofs.lemmas.Int.{ints}
use Rattle.std.proofs.lemmas.Nat.{mul-le}
use Rattle.edl_conform.specs.ConformedRanges.{IsLess, IsSmall}

pub product_less : (a b : ℤ) → IsSmall a → IsSmall b → IsLess (a *ℤ b)
product_less (pos a) (pos b) h k =
    let x = h.high in
    let y = k.high in
    let m = mul-le a b 1000000000 1000000000 (omega (arith, ints, x)) (omega (arith, ints, y)) in
    record { low = omega (arith, ints); high = omega (arith, ints, m) }
product_less (negsuc a) b h k = let x = h.low in absurd (omega (arith, ints, x))
product_less (pos a) (negsuc b) h k = let y = k.low in absurd (omega (arith, ints, y))
