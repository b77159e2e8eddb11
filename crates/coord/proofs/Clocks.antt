-- 24 frames a second are a rate at which items are worked out, and what they show.
use Rattle.std.proofs.Common.{◌≡◌, refl, ℕ, pos, ◌≤ℤ◌, true, arith}
use Rattle.std.specs.Prelude.{nat_le}
use Rattle.std.proofs.lemmas.Int.{ints}
use Rattle.limits.specs.Limits.{most_ticks}
use Rattle.tick_time.specs.FixedRates.{rate_24}
use Rattle.tick_time.specs.Times.{IsWhole}
use Rattle.tick_time.specs.Rates.{unit}
use Rattle.coord.specs.Worked.{frames}
use Rattle.coord.specs.WorkedItems.{Clock, IsClock24, AreWorkedItems}

whole_24 : (n : ℕ) → IsWhole (pos (frames n)) (unit (pos 24) (pos 1))
whole_24 n = omega (arith, ints)

high_24 : (n : ℕ) → nat_le n 240 ≡ true → pos (frames n) ≤ℤ pos most_ticks
high_24 n few = grind (arith, ints)

forward_24 : (n : ℕ) → pos 0 ≤ℤ pos (frames n)
forward_24 n = omega (arith, ints)

pub clock : (c : Clock) × IsClock24 c
clock = (record { rate = rate_24; whole = whole_24; forward = forward_24; high = high_24 }, record { num = refl; den = refl })

pub worked : (c : Clock) → AreWorkedItems c
worked c = record {
  cut_before = refl;
  cut_begins = refl;
  cut_ends = refl;
  cut_behind = refl;
  gap_last = refl;
  sped_first = refl;
  sped_second = refl;
  sped_last = refl;
  sped_behind = refl;
  nested_before = refl;
  nested_third = refl;
  nested_fourth = refl;
  nested_fifth = refl;
  nested_sixth = refl;
  nested_last = refl;
  nested_behind = refl;
  nested_end = refl;
  empty_half = refl;
  still_before = refl;
  still_begins = refl;
  still_half = refl;
  still_behind = refl;
  joined_mixed = refl;
  conformed_mixed = refl;
}
