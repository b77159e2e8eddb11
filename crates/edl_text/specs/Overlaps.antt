-- Events that overlap in the record.
use Rattle.std.specs.Prelude.{◌≡◌, ◌≢◌, ◌⊎◌, ◌<◌, ◌≤◌, ℕ, ◌<ℤ◌, List, All, AllPairs, Contains}
use Rattle.edl_list.specs.declared.list.Event.{Event}

-- two events share a frame of the record on one channel
pub record Meet (a b : Event) : Type 0 where
  pub channel : a.channel ≡ b.channel
  pub first : a.rec_in <ℤ b.rec_out
  pub second : b.rec_in <ℤ a.rec_out

-- an event of this line meets one of an earlier line
pub record IsOverlap (events : List Event) (line : ℕ) : Type 0 where
  pub earlier : Event
  pub later : Event
  pub has_earlier : Contains events earlier
  pub has_later : Contains events later
  pub is : later.line ≡ line
  pub before : earlier.line < line
  pub meet : Meet earlier later

-- the least line with such an event
pub record IsFirstOverlap (events : List Event) (line : ℕ) : Type 0 where
  pub is : IsOverlap events line
  pub least : (other : ℕ) → IsOverlap events other → line ≤ other

-- the one event was read before the other: from an earlier line, or from the same line for another
-- channel
abbrev pub WasReadBefore : Event → Event → Type 0
WasReadBefore a b = (a.line < b.line) ⊎ ((a.line ≡ b.line) × (a.channel ≢ b.channel))

-- events as they are read: line by line, each line's on different channels, and each with a frame
-- of the record
pub record AreRead (events : List Event) : Type 0 where
  pub order : AllPairs WasReadBefore events
  pub some : All (λ event. event.rec_in <ℤ event.rec_out) events
