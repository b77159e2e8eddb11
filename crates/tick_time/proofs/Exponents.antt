-- An exponent and the zeros behind the digits.
use Rattle.std.proofs.Common.{◌≡◌, ℕ, ◌<◌, ◌^◌, ℤ, pos, ◌≤ℤ◌, ◌+ℤ◌, ◌-ℤ◌, FitsSigned, to_z, of_z, subst, sym, arith}
use Rattle.std.proofs.lemmas.Int.{ints, to_z-of_z, to_z_pos}
use mir.Syntax.{w128}

pub zeros_fit : (behind : ℕ) → behind < 2 ^ 66 → FitsSigned w128 (pos behind)
zeros_fit behind few = omega (arith, ints)

module _ (behind : ℕ) (offset : ℤ) (few : behind < 2 ^ 66)
    (low : (pos 0 -ℤ pos 36893488147419103232) ≤ℤ offset) (high : offset ≤ℤ pos 1000) where
  sum_fits : FitsSigned w128 (pos behind +ℤ offset)
  sum_fits = omega (arith, ints)

  sum_low : (pos 0 -ℤ pos 147573952589676412928) ≤ℤ (pos behind +ℤ offset)
  sum_low = omega (arith, ints)

  sum_high : (pos behind +ℤ offset) ≤ℤ pos 147573952589676412928
  sum_high = omega (arith, ints)

  same : to_z w128 behind ≡ pos behind
  same = to_z_pos w128 behind (omega arith)

  pub exp_fits : FitsSigned w128 offset
      → FitsSigned w128 (to_z w128 behind +ℤ to_z w128 (of_z w128 offset))
  exp_fits fits = let is = same in simp (is, to_z-of_z) sum_fits

  pub exp_is : FitsSigned w128 offset
      → to_z w128 (of_z w128 (to_z w128 behind +ℤ to_z w128 (of_z w128 offset)))
      ≡ (pos behind +ℤ offset)
  exp_is fits = let is = same in let sum = sum_fits in simp (is, to_z-of_z)

  pub exp_low : FitsSigned w128 offset → (pos 0 -ℤ pos 147573952589676412928)
      ≤ℤ to_z w128 (of_z w128 (to_z w128 behind +ℤ to_z w128 (of_z w128 offset)))
  exp_low fits =
      subst (λ z. (pos 0 -ℤ pos 147573952589676412928) ≤ℤ z) (sym (exp_is fits)) sum_low

  pub exp_high : FitsSigned w128 offset
      → to_z w128 (of_z w128 (to_z w128 behind +ℤ to_z w128 (of_z w128 offset)))
      ≤ℤ pos 147573952589676412928
  exp_high fits = subst (λ z. z ≤ℤ pos 147573952589676412928) (sym (exp_is fits)) sum_high
