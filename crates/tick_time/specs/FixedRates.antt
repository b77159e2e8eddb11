-- The finest rate, and 24 frames a second, the rate of film.
use Rattle.std.specs.Prelude.{ℕ, pos, IsTrue, refl}
use Rattle.std.proofs.Common.{arith, rules}
use Rattle.std.proofs.lemmas.Int.{ints}
use Rattle.std.proofs.lemmas.Nat.Gcd.{dvd_antisymm, dvd_of_mod-eq-zero}
use Rattle.tick_time.specs.declared.rates.Rate.{Rate}
use Rattle.tick_time.specs.Rates.{IsLowest, is_rate}

pub given_finest : IsTrue (is_rate 705600000000 1)
unfolding is_rate
given_finest = search rules

pub given_24 : IsTrue (is_rate 24 1)
unfolding is_rate
given_24 = search rules

-- whole numbers are in lowest terms
pub lowest_whole : (n : ℕ) → IsLowest n 1
lowest_whole n = λ k _ h. dvd_antisymm h (dvd_of_mod-eq-zero 1 (omega arith))

-- the finest rate, whose unit is one tick
abbrev pub finest : Rate
finest = record {
  num = pos 705600000000;
  den = pos 1;
  positive = omega (arith, ints);
  at_least_one = omega (arith, ints);
  small_num = omega (arith, ints);
  small_den = omega (arith, ints);
  whole = refl;
  lowest = lowest_whole 705600000000;
  given = given_finest;
}

-- 24 frames a second
abbrev pub rate_24 : Rate
rate_24 = record {
  num = pos 24;
  den = pos 1;
  positive = omega (arith, ints);
  at_least_one = omega (arith, ints);
  small_num = omega (arith, ints);
  small_den = omega (arith, ints);
  whole = refl;
  lowest = lowest_whole 24;
  given = given_24;
}
