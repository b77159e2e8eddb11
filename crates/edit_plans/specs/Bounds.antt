-- Bounds of moves and of unused media, in ticks.
use Rattle.std.specs.Prelude.{ℤ, pos, ◌-ℤ◌, ◌≤ℤ◌}

-- a move that is at most so far as the greatest number of frames of the greatest length
pub record IsMove (z : ℤ) : Type 0 where
  pub low : (pos 0 -ℤ pos 10000000000000000000000000000000000000) ≤ℤ z
  pub high : z ≤ℤ pos 10000000000000000000000000000000000000

-- so much media, which isn't negative
pub record IsHandle (z : ℤ) : Type 0 where
  pub low : pos 0 ≤ℤ z
  pub high : z ≤ℤ pos 10000000000000000000000000
