-- What follows for the events of a well formed list: their order on a channel, that their frames
-- and speeds lie within the ranges of times and speeds, and that their reels stand in the wide
-- layout.
use Rattle.std.specs.Prelude.{◌≡◌, ◌≤◌, ◌*◌, ℕ, ℤ, pos, ◌*ℤ◌, ◌≤ℤ◌, false, Some, IsSome, All, AllPairs}
use Rattle.tick_time.specs.declared.rates.Rate.{Rate}
use Rattle.tick_time.specs.Rates.{frame}
use Rattle.tick_time.specs.Times.{IsInRange}
use Rattle.smpte_tc.specs.Modes.{mode_of}
use Rattle.edl_list.specs.declared.list.Side.{Side}
use Rattle.edl_list.specs.declared.list.Event.{Event}
use Rattle.edl_list.specs.declared.list.EventList.{EventList}
use Rattle.edl_list.specs.Speeds.{count_of, day_of, side_speed, speed_of}
use Rattle.edl_list.specs.Formed.{IsSide, IsWellFormed}
use Rattle.edl_list.specs.Layouts.{wide_layout, FitsEvent}

-- on one channel the second event begins at the end of the first or behind it
abbrev pub RunsOn : Event → Event → Type 0
RunsOn a b = a.channel ≡ b.channel → a.rec_out ≤ℤ b.rec_in

-- the events of one channel of a well formed list follow one another
abbrev pub HaveOrder : Type 0
HaveOrder = (list : EventList) → IsWellFormed list → AllPairs RunsOn list.events

-- so many frames at a rate, or a frame number, are a time
pub record IsTimed (rate : Rate) (n : ℤ) : Type 0 where
  pub low : pos 0 ≤ℤ n
  pub high : n ≤ℤ pos (60 * 86400)
  pub range : IsInRange (n *ℤ pos (frame rate.num rate.den))

-- each frame number of a day, and each count of frames up to a day, is a time where the rate has
-- timecode
abbrev pub HaveTimes : Type 0
HaveTimes =
    (rate : Rate) → IsSome (mode_of rate false) → (n : ℤ)
    → pos 0 ≤ℤ n → n ≤ℤ pos (day_of rate) → IsTimed rate n

-- a second has from 1 to 60 frame numbers where the rate has timecode
pub record IsCount (count : ℕ) : Type 0 where
  pub some : 1 ≤ count
  pub small : count ≤ 60

abbrev pub HaveCounts : Type 0
HaveCounts = (rate : Rate) → IsSome (mode_of rate false) → IsCount (count_of rate)

-- the speed of a side is at most a thousand times the rate's own
abbrev pub HaveSpeeds : Type 0
HaveSpeeds =
    (rate : Rate) → IsSome (mode_of rate false) → (side : Side)
    → IsSide (day_of rate) side → side_speed rate side ≤ 1000 * 1000000

-- tenths of one speed are equal
abbrev pub HaveOneSpeed : Type 0
HaveOneSpeed =
    (count m n : ℕ) → IsCount count
    → speed_of count (Some m) ≡ speed_of count (Some n) → m ≡ n

-- the reels of a well formed list stand in the wide layout
abbrev pub HaveColumns : Type 0
HaveColumns = (list : EventList) → IsWellFormed list → All (FitsEvent wide_layout) list.events
