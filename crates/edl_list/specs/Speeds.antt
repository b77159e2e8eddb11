-- How many frames a rate counts, and the speeds that are counted in them.
use Rattle.std.specs.Prelude.{ℕ, ◌*◌, false, Option, Some, None, option_map, unwrap_or, length}
use Rattle.tick_time.specs.declared.rates.Rate.{Rate}
pub use Rattle.tick_time.specs.Rounding.{half_even}
use Rattle.smpte_tc.specs.Modes.{mode_of}
use Rattle.smpte_tc.specs.Day.{counted_of}
use Rattle.edl_list.specs.declared.list.Side.{Side}

-- the frame numbers that timecode gives a second at a rate, and 0 where the rate has no timecode
abbrev pub count_of : Rate → ℕ
count_of rate = unwrap_or (option_map (λ mode. mode.nominal) (mode_of rate false)) 0

-- the frame numbers of a day at a rate without drop-frame, and 0 where the rate has no timecode
abbrev pub day_of : Rate → ℕ
day_of rate = unwrap_or (option_map (λ mode. length (counted_of mode)) (mode_of rate false)) 0

-- the speed in millionths of so many tenths of a frame a second, where timecode counts so many
-- frames a second: 10 ^ 6 is the rate's own speed, also without an M2 line
abbrev pub speed_of : ℕ → Option ℕ → ℕ
speed_of count None = 1000000
speed_of count (Some tenths) = half_even (tenths * 100000) count

-- the speed of a side in millionths, at a rate
abbrev pub side_speed : Rate → Side → ℕ
side_speed rate side = speed_of (count_of rate) side.speed
