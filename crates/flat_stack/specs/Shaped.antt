-- What is done with one timeline.
use Rattle.std.specs.Prelude.{◌≡◌, ◌≢◌, ◌⊎◌, ℕ, ℤ, Bool, true, false, List, filter, Option, Some, None, codes}
use Rattle.otio_model.specs.declared.timelines.Timeline.{Timeline}
use Rattle.otio_model.specs.Timelines.{bare}
use Rattle.coord.specs.Programs.{record_rate}
use Rattle.smpte_tc.specs.declared.points.RecordPoint.{RecordPoint}
use Rattle.smpte_tc.specs.PointFrames.{point_frame_at}
use Rattle.flat.specs.declared.faults.FlatFault.{FlatFault}
use Rattle.flat.specs.declared.faults.FlatFault.TheVariants as flat
use Rattle.flat.specs.Answers.{Names, Flattens, Windows, WindowNames}
use Rattle.flat.specs.Blocked.{Blocks}
use Rattle.flat.specs.Roots.{is_of, roots, with_roots}
use Rattle.flat.specs.Straight.{IsStraight}
use Rattle.command_words.specs.declared.tools.TrackKind.{TrackKind}
use Rattle.command_words.specs.declared.tools.TrackKind.TheVariants.{Video, Audio}
use Rattle.command_words.specs.declared.tools.Flattening.{Flattening}
use Rattle.command_words.specs.declared.tools.Flattening.TheVariants as flattening
use Rattle.command_words.specs.declared.tools.Window.{Window}
use Rattle.flat_stack.specs.declared.step_faults.ToolFault.{ToolFault}
use Rattle.flat_stack.specs.declared.step_faults.ToolFault.TheVariants.{At}
use Rattle.flat_stack.specs.Chains.{Then, Stops}

-- ---- the tracks of a kind

abbrev pub kind_name : TrackKind → List ℕ
kind_name Video = codes "Video"
kind_name Audio = codes "Audio"

-- the timeline with the root children alone that are tracks of a kind
abbrev pub IsOnly : Option TrackKind → Timeline → Timeline → Type 0
IsOnly None t r = bare r ≡ bare t
IsOnly (Some kind) t r =
    bare r ≡ bare (with_roots (filter (is_of (kind_name kind)) (roots t)) t)

-- ---- transitions

-- the timeline without transitions, where that is asked for
abbrev pub IsStraightened : Bool → Timeline → Timeline → Type 0
IsStraightened false t r = bare r ≡ bare t
IsStraightened true t r = IsStraight t r

-- ---- a window

-- the record frame that a point names in a timeline, at its record rate; none for a label that is
-- none there
abbrev pub record_frame : Timeline → RecordPoint → Option ℤ
record_frame t point = point_frame_at (record_rate t).num (record_rate t).den point

-- the record frames that a window is from, and up to
pub record IsFromTo (t : Timeline) (window : Window) (a b : ℤ) : Type 0 where
  pub start : record_frame t window.start ≡ Some a
  pub end : record_frame t window.end ≡ Some b

-- one of them is none
abbrev pub IsNowhere : Timeline → Window → Type 0
IsNowhere t window =
    (record_frame t window.start ≡ None) ⊎ (record_frame t window.end ≡ None)

-- the window of the timeline, where one is asked for
abbrev pub IsTrimmed : Option Window → Timeline → Timeline → Type 0
IsTrimmed None t r = bare r ≡ bare t
IsTrimmed (Some window) t r = (a : ℤ) × (b : ℤ) × IsFromTo t window a b × Windows t a b r

-- a label that is none, or what refuses the window
pub data IsWindowFault (t : Timeline) (window : Window) (fault : ToolFault) : Type 0 where
  nowhere : IsNowhere t window → fault ≡ At 0 flat.Range → IsWindowFault t window fault
  refused : (a b : ℤ) → IsFromTo t window a b → (why : FlatFault) → why ≢ flat.Memory
      → WindowNames t a b why → fault ≡ At 0 why → IsWindowFault t window fault

abbrev pub IsUntrimmed : Option Window → Timeline → ToolFault → Type 0
IsUntrimmed None t fault = ⊥
IsUntrimmed (Some window) t fault = IsWindowFault t window fault

-- ---- flat tracks

-- the tracks of a kind as one, beside them where they are kept
abbrev pub IsFlat : TrackKind → Bool → Timeline → Timeline → Type 0
IsFlat kind keep t r = Flattens t (kind_name kind) keep r

abbrev pub IsFlatFault : TrackKind → Timeline → ToolFault → Type 0
IsFlatFault kind t fault =
    (why : FlatFault) × (why ≢ flat.Memory) × Names (Blocks (kind_name kind) (roots t)) why
    × (fault ≡ At 0 why)

-- the tracks of one kind, or those of pictures and then those of sound
abbrev pub IsFlattened : Option Flattening → Bool → Timeline → Timeline → Type 0
IsFlattened None keep t r = bare r ≡ bare t
IsFlattened (Some flattening.Video) keep t r = IsFlat Video keep t r
IsFlattened (Some flattening.Audio) keep t r = IsFlat Audio keep t r
IsFlattened (Some flattening.All) keep t r = Then (IsFlat Video keep) (IsFlat Audio keep) t r

abbrev pub IsUnflat : Option Flattening → Bool → Timeline → ToolFault → Type 0
IsUnflat None keep t fault = ⊥
IsUnflat (Some flattening.Video) keep t fault = IsFlatFault Video t fault
IsUnflat (Some flattening.Audio) keep t fault = IsFlatFault Audio t fault
IsUnflat (Some flattening.All) keep t fault =
    Stops (IsFlat Video keep) (IsFlatFault Video) (IsFlatFault Audio) t fault
