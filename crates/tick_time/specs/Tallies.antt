-- What a reader of digits keeps of those read so far.
use Rattle.std.specs.Prelude.{◌≡◌, ℕ, ◌+◌, ◌*◌, ◌^◌, List, length}
use Rattle.std.specs.Str.Parse.{digits_value}
use Rattle.tick_time.specs.Numerals.{after_zeros, significant}

-- the digits read are these significant ones, then so many zeros
pub record Tallies (digits count zeros : ℕ) (read : List ℕ) : Type 0 where
  pub value : digits_value 10 read ≡ digits * 10 ^ zeros
  pub significant_is : significant read ≡ count
  pub behind : count + zeros ≡ length (after_zeros read)
