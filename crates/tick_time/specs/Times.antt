-- Times as whole ticks, of which a second has 705600000000000000.
use Rattle.std.specs.Prelude.{◌≡◌, ℕ, ◌%◌, ℤ, pos, ◌+ℤ◌, ◌-ℤ◌, ◌≤ℤ◌, ◌<ℤ◌, int_le, unsigned_abs, Bool, ◌&&◌}
use Rattle.limits.specs.Limits.{most_ticks}

-- from a million seconds before 0 to a million seconds after it
pub record IsInRange (ticks : ℤ) : Type 0 where
  pub low : (pos 0 -ℤ pos most_ticks) ≤ℤ ticks
  pub high : ticks ≤ℤ pos most_ticks

-- the ticks are a whole number of pieces of so many ticks
abbrev pub IsWhole : ℤ → ℕ → Type 0
IsWhole ticks piece = unsigned_abs ticks % piece ≡ 0

-- from the start up to, not including, the start plus the length
pub record Holds (start len ticks : ℤ) : Type 0 where
  pub from : start ≤ℤ ticks
  pub to : ticks <ℤ (start +ℤ len)

-- a speed from -1000 to 1000, in millionths
pub record IsSpeed (speed : ℤ) : Type 0 where
  pub low : (pos 0 -ℤ pos 1000000000) ≤ℤ speed
  pub high : speed ≤ℤ pos 1000000000

-- whether the millionths lie from -1000 to 1000 times
abbrev pub is_speed : ℤ → Bool
is_speed speed = int_le (pos 0 -ℤ pos 1000000000) speed && int_le speed (pos 1000000000)
