-- Digits in the form of a whole number.
use Rattle.std.specs.Prelude.{◌≡◌, ℕ, ◌≤◌, ◌<◌, List, length, slice_index}
use Rattle.std.specs.Str.Parse.{AllDigits}

-- there is a byte, and a `0` at the front stands alone
pub record IsPlain (bytes : List ℕ) : Type 0 where
  pub some : 0 < length bytes
  pub one : slice_index bytes 0 ≡ 48 → length bytes ≡ 1

-- one decimal digit or more, at most 18, without a leading zero
pub record IsWhole (bytes : List ℕ) : Type 0 where
  pub digits : AllDigits 10 bytes
  pub few : length bytes ≤ 18
  pub plain : IsPlain bytes
