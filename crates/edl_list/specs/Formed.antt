-- Well formed lists.
use Rattle.std.specs.Prelude.{◌≡◌, ◌⊎◌, ◌≤◌, ℕ, ℤ, pos, ◌+ℤ◌, ◌≤ℤ◌, ◌<ℤ◌, false, Option, Some, None, IsSome, [], All, AllPairs}
use Rattle.smpte_tc.specs.Modes.{mode_of}
use Rattle.edl_list.specs.declared.list.Channel.{Channel}
use Rattle.edl_list.specs.declared.list.Channel.TheVariants.{V, A, A2}
use Rattle.edl_list.specs.declared.list.Reel.{Reel}
use Rattle.edl_list.specs.declared.list.Reel.TheVariants.{Black, Named}
use Rattle.edl_list.specs.declared.list.Side.{Side}
use Rattle.edl_list.specs.declared.list.Cross.{Cross}
use Rattle.edl_list.specs.declared.list.Cross.TheVariants.{Cut, Dissolve, Wipe}
use Rattle.edl_list.specs.declared.list.Event.{Event}
use Rattle.edl_list.specs.declared.list.EventList.{EventList}
use Rattle.text_lines.specs.ReelNames.{IsReelName}
use Rattle.edl_list.specs.Limits.{most_number, most_tenths}
use Rattle.edl_list.specs.Speeds.{day_of}

-- a reel: black, or one of a name that a reel can have
abbrev pub IsReel : Reel → Type 0
IsReel Black = Unit {0}
IsReel (Named name) = IsReelName name

-- a speed in tenths, where a side has one
abbrev pub IsSpeed : Option ℕ → Type 0
IsSpeed None = Unit {0}
IsSpeed (Some tenths) = tenths ≤ most_tenths

-- the whole number is a frame number of a day of so many
pub record IsFrame (day : ℕ) (n : ℤ) : Type 0 where
  pub low : pos 0 ≤ℤ n
  pub high : n <ℤ pos day

-- a side of an event, in a day of so many frames
pub record IsSide (day : ℕ) (side : Side) : Type 0 where
  pub reel : IsReel side.reel
  pub src_in : IsFrame day side.src_in
  pub src_out : IsFrame day side.src_out
  pub forward : side.src_in ≤ℤ side.src_out
  pub speed : IsSpeed side.speed

-- so many frames of a dissolve or wipe, in a record span from one frame to another
pub record AreFrames (frames : ℕ) (rec_in rec_out : ℤ) : Type 0 where
  pub some : 1 ≤ frames
  pub few : frames ≤ most_number
  pub inside : (rec_in +ℤ pos frames) ≤ℤ rec_out

-- the beginning of an event, in a day of so many frames and a record span
abbrev pub IsCross : ℕ → ℤ → ℤ → Cross → Type 0
IsCross day rec_in rec_out Cut = Unit {0}
IsCross day rec_in rec_out (Dissolve frames from) =
    AreFrames frames rec_in rec_out × IsSide day from
IsCross day rec_in rec_out (Wipe code frames from) =
    (code ≤ most_number) × AreFrames frames rec_in rec_out × IsSide day from

-- an event that can stand in a well formed list with days of so many frames
pub record IsEvent (day : ℕ) (event : Event) : Type 0 where
  pub to : IsSide day event.to
  pub rec_in : IsFrame day event.rec_in
  pub rec_out : IsFrame day event.rec_out
  pub some : event.rec_in <ℤ event.rec_out
  pub cross : IsCross day event.rec_in event.rec_out event.cross

-- the order of channels
abbrev pub rank : Channel → ℕ
rank V = 0
rank A = 1
rank A2 = 2

-- the events stand in order: of record in, then of V, A and A2
abbrev pub AreInOrder : Event → Event → Type 0
AreInOrder a b =
    (a.rec_in <ℤ b.rec_in) ⊎ ((a.rec_in ≡ b.rec_in) × (rank a.channel ≤ rank b.channel))

-- the events share no frame of the record on one channel
abbrev pub AreApart : Event → Event → Type 0
AreApart a b = a.channel ≡ b.channel → (a.rec_out ≤ℤ b.rec_in) ⊎ (b.rec_out ≤ℤ a.rec_in)

-- A list is well formed where it has no event or its rate has a timecode, each event is one for
-- itself, and they stand in order and apart.
pub record IsWellFormed (list : EventList) : Type 0 where
  pub timecode : (list.events ≡ []) ⊎ IsSome (mode_of list.rate false)
  pub events : All (IsEvent (day_of list.rate)) list.events
  pub order : AllPairs AreInOrder list.events
  pub apart : AllPairs AreApart list.events
