-- The ends of an overlap fit 128 bits.
use Rattle.std.proofs.Common.{ℤ, pos, ◌+ℤ◌, ◌-ℤ◌, ◌≤ℤ◌, FitsSigned, arith}
use Rattle.std.specs.Int.{w128}
use Rattle.std.proofs.lemmas.Int.{ints}
use Rattle.limits.specs.Limits.{most_ticks}

pub begin_fits : (before at : ℤ) → (pos 0 -ℤ pos most_ticks) ≤ℤ before → before ≤ℤ pos most_ticks
    → pos 0 ≤ℤ at → at ≤ℤ pos 100000000000000000000000000000000000000
    → FitsSigned w128 (at -ℤ before)
begin_fits before at least most low high =
    omega (arith, ints, least, most, low, high)

pub end_fits : (after at : ℤ) → (pos 0 -ℤ pos most_ticks) ≤ℤ after → after ≤ℤ pos most_ticks
    → pos 0 ≤ℤ at → at ≤ℤ pos 100000000000000000000000000000000000000
    → FitsSigned w128 (at +ℤ after)
end_fits after at least most low high =
    omega (arith, ints, least, most, low, high)
