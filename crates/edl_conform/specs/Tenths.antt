-- The tenths of a frame a second that are nearest to a speed.
use Rattle.std.specs.Prelude.{ℕ, ◌+◌, ◌*◌, ◌/◌}

-- where timecode counts so many frames a second, and the speed is in millionths
abbrev pub nearest_tenths : (count speed : ℕ) → ℕ
nearest_tenths count speed = (speed * count + 50000) / 100000
