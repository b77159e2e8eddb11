-- A small power less so many places.
use Rattle.std.proofs.Common.{◌≡◌, ℕ, ◌<◌, ◌^◌, ℤ, pos, ◌≤ℤ◌, ◌-ℤ◌, Bool, true, false, FitsSigned, arith}
use Rattle.std.proofs.lemmas.Int.{ints}
use mir.Syntax.{w128}
use Rattle.tick_time.specs.Numerals.{signed}
use Rattle.tick_time.specs.Decimals.{scale}

-- an exponent less so many places
pub offset_is : (down : Bool) (power places : ℕ) (e z : ℤ) → e ≡ signed down power → z ≡ pos places
    → (e -ℤ z) ≡ scale down power places
offset_is false power places e z h k = omega (arith, ints, h, k)
offset_is true power places e z h k = omega (arith, ints, h, k)

module _ (e z : ℤ) (places : ℕ) (is : z ≡ pos places) (some : places < 2 ^ 64)
    (low : (pos 0 -ℤ pos 1000) ≤ℤ e) (high : e ≤ℤ pos 1000) where
  pub offset_fits : FitsSigned w128 (e -ℤ z)
  offset_fits = omega (arith, ints)

  pub offset_low : (pos 0 -ℤ pos 36893488147419103232) ≤ℤ (e -ℤ z)
  offset_low = omega (arith, ints)

  pub offset_high : (e -ℤ z) ≤ℤ pos 1000
  offset_high = omega (arith, ints)
