-- The list of events that bytes are, or their fault.
use Rattle.std.specs.Prelude.{◌≡◌, ◌⊎◌, ℕ, false, ◌<◌, ◌≤◌, List, [], length, take, unwrap_or, AllPairs}
use Rattle.std.specs.List.Sorted.{IsPermutation}
use Rattle.limits.specs.Limits.{most_bytes}
use Rattle.text_lines.specs.Lines.{lines_of, ended_lines}
use Rattle.tick_time.specs.declared.rates.Rate.{Rate}
use Rattle.edl_text.specs.Statements.{Statement}
use Rattle.edl_list.specs.declared.list.Event.{Event}
use Rattle.edl_list.specs.declared.list.EventList.{EventList}
use Rattle.edl_text.specs.Order.{StandsBefore}
use Rattle.edl_text.specs.declared.faults.EdlFault.{EdlFault}
use Rattle.edl_text.specs.declared.faults.EdlFault.TheVariants.{Large}
use Rattle.edl_text.specs.Past.{title_in, blocks_in, first_mode_in}
use Rattle.edl_text.specs.Events.{events_of}
use Rattle.edl_text.specs.Lines.{AreSound, HasFirstFault}
use Rattle.edl_text.specs.Late.{AreFine, IsLateFault}

-- the events that all lines give, in the order of the lines
abbrev pub events_in : Rate → List Statement → List Event
events_in rate past = events_of rate (blocks_in past)

-- these are the events, in order of record in, then of channel, then of line
pub record AreOrdered (events ordered : List Event) : Type 0 where
  pub same : IsPermutation events ordered
  pub order : AllPairs StandsBefore ordered

-- the list that lines say which say this together
pub record IsSaid (rate : Rate) (past : List Statement) (list : EventList) : Type 0 where
  pub title : list.title ≡ unwrap_or (title_in past) []
  pub counted : list.rate ≡ rate
  pub drop : list.drop ≡ unwrap_or (first_mode_in past) false
  pub events : AreOrdered (events_in rate past) list.events

-- the bytes are this list at the rate
pub record IsList (rate : Rate) (bytes : List ℕ) (list : EventList) : Type 0 where
  pub small : length bytes ≤ most_bytes
  pub past : List Statement
  pub sound : AreSound rate [] (lines_of bytes) past
  pub fine : AreFine (events_in rate past)
  pub says : IsSaid rate past list

-- there are too many bytes, and the lines that end among the most that there may be have no fault
pub record IsTooLarge (rate : Rate) (bytes : List ℕ) : Type 0 where
  pub large : most_bytes < length bytes
  pub past : List Statement
  pub sound : AreSound rate [] (ended_lines (take most_bytes bytes)) past

-- The fault that shows as soon as the bytes hold the end of its line, or one byte too many: that of
-- the first line, among those that end within the most bytes that there may be, that has one.
abbrev pub IsEarlyFault : Rate → List ℕ → EdlFault → Type 0
IsEarlyFault rate bytes fault =
    HasFirstFault rate [] (ended_lines (take most_bytes bytes)) fault
    ⊎ ((fault ≡ Large) × IsTooLarge rate bytes)

-- the fault shows at the end of the bytes: the last line has it, or the events have it
pub record IsLastFault (rate : Rate) (bytes : List ℕ) (fault : EdlFault) : Type 0 where
  pub small : length bytes ≤ most_bytes
  pub which : HasFirstFault rate [] (lines_of bytes) fault
      ⊎ ((past : List Statement) × AreSound rate [] (lines_of bytes) past
      × IsLateFault (events_in rate past) fault)

-- the fault of the bytes at the rate
abbrev pub IsFault : Rate → List ℕ → EdlFault → Type 0
IsFault rate bytes fault = IsEarlyFault rate bytes fault ⊎ IsLastFault rate bytes fault
