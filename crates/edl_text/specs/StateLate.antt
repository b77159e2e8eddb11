-- What is found of a fault in the events of a list.
use Rattle.std.specs.Prelude.{◌≡◌, ℕ, ◌<◌, ◌-ℤ◌, List, Option, Some, None, All, length, take, slice_index_or, nat_lt, if◌then◌else◌}
use Rattle.edl_list.specs.declared.list.Event.{Event}
use Rattle.edl_text.specs.declared.faults.EdlFault.{EdlFault}
use Rattle.edl_text.specs.declared.faults.EdlFault.TheVariants.{Unequal, Overlap}
use Rattle.edl_text.specs.Late.{IsUnequal}

-- source and record length are the same
abbrev pub IsEven : Event → Type 0
IsEven event = event.to.src_out -ℤ event.to.src_in ≡ event.rec_out -ℤ event.rec_in

-- the event isn't unequal
abbrev pub IsEqual : Event → Type 0
IsEqual event = IsUnequal event → ⊥

-- the first event that is unequal is one of line n
pub record IsFirstUnequal (events : List Event) (n : ℕ) : Type 0 where
  pub index : ℕ
  pub event : Event
  pub within : index < length events
  pub at : slice_index_or events index event ≡ event
  pub line : event.line ≡ n
  pub unequal : IsUnequal event
  pub before : All IsEqual (take index events)

-- the fault of the lesser of two lines, on one line that of unequal lengths
abbrev pub late_of : Option ℕ → Option ℕ → Option EdlFault
late_of None None = None
late_of (Some n) None = Some (Unequal n)
late_of None (Some m) = Some (Overlap m)
late_of (Some n) (Some m) = if nat_lt m n then Some (Overlap m) else Some (Unequal n)
