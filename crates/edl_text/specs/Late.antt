-- The faults that show at the end of a list.
use Rattle.std.specs.Prelude.{◌≡◌, ◌≢◌, ◌⊎◌, ℕ, ◌<◌, ◌-ℤ◌, List, None}
use Rattle.std.specs.List.{Contains}
use Rattle.edl_list.specs.declared.list.Event.{Event}
use Rattle.edl_text.specs.Overlaps.{IsOverlap}
use Rattle.edl_text.specs.declared.faults.EdlFault.{EdlFault}
use Rattle.edl_text.specs.declared.faults.EdlFault.TheVariants.{Form, Timecode, Order, Unequal, Key, Split, Overlap, Reverse, Large, Memory}

-- source and record length differ on the incoming side of a pair or the side of a cut, and it has
-- no M2 line
pub record IsUnequal (event : Event) : Type 0 where
  pub no_speed : event.to.speed ≡ None
  pub differ : event.to.src_out -ℤ event.to.src_in ≢ event.rec_out -ℤ event.rec_in

-- an event of line n is unequal
pub record IsUnequalAt (events : List Event) (n : ℕ) : Type 0 where
  pub event : Event
  pub among : Contains events event
  pub line : event.line ≡ n
  pub unequal : IsUnequal event

-- the events of line n have a fault
abbrev pub IsLateAt : List Event → ℕ → Type 0
IsLateAt events n = IsUnequalAt events n ⊎ IsOverlap events n

-- the events of no line before n have a fault
abbrev pub AreFineBefore : List Event → ℕ → Type 0
AreFineBefore events n = (m : ℕ) → m < n → IsLateAt events m → ⊥

-- the events have no fault
abbrev pub AreFine : List Event → Type 0
AreFine events = (n : ℕ) → IsLateAt events n → ⊥

-- the fault of the least line that has one, and on it that of unequal lengths before that of an
-- overlap
abbrev pub IsLateFault : List Event → EdlFault → Type 0
IsLateFault events (Unequal n) = IsUnequalAt events n × AreFineBefore events n
IsLateFault events (Overlap n) =
    IsOverlap events n × (IsUnequalAt events n → ⊥) × AreFineBefore events n
IsLateFault events (Form n) = ⊥
IsLateFault events (Timecode n) = ⊥
IsLateFault events (Order n) = ⊥
IsLateFault events (Key n) = ⊥
IsLateFault events (Split n) = ⊥
IsLateFault events (Reverse n) = ⊥
IsLateFault events Large = ⊥
IsLateFault events Memory = ⊥
