-- What is known of times by tests.
use Rattle.std.specs.Prelude.{◌≡◌, ◌==◌, ℕ, ℤ, pos, ◌-ℤ◌, ◌≤ℤ◌, int_le, Bool, true, ◌&&◌}
use Rattle.std.proofs.Common.{arith}
use Rattle.std.proofs.lemmas.Int.{ints}
use Rattle.std.proofs.lemmas.Bool.{eqb-true}
use Rattle.limits.specs.Limits.{most_ticks}
pub use Rattle.tick_time.specs.FixedRates.{finest, rate_24}
use Rattle.tick_time.specs.Rates.{unit}
use Rattle.tick_time.specs.Times.{IsWhole}

-- at most a million seconds from 0
abbrev pub in_range : ℤ → Bool
in_range z = int_le (pos 0 -ℤ pos most_ticks) z && int_le z (pos most_ticks)

-- what these tests show
pub low_of : (z : ℤ) → in_range z ≡ true → (pos 0 -ℤ pos most_ticks) ≤ℤ z
low_of z e = grind (arith, ints)

pub high_of : (z : ℤ) → in_range z ≡ true → z ≤ℤ pos most_ticks
high_of z e = grind (arith, ints)

pub whole_of : (z : ℤ) → IsWhole z (unit (pos 705600000000) (pos 1))
whole_of z = omega arith

pub zero_of : (n : ℕ) → (n == 0) ≡ true → n ≡ 0
zero_of n e = eqb-true n 0 e

pub not_negative : (z : ℤ) → int_le (pos 0) z ≡ true → pos 0 ≤ℤ z
not_negative z e = grind (arith, ints)
