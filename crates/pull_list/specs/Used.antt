-- Which frames of media a timeline uses. What a root child shows at a record frame is `program`, by
-- the time coordinates of OpenTimelineIO: nested tracks and stacks, speeds, and transitions.
use Rattle.std.specs.Prelude.{◌≡◌, ◌⊎◌, ℕ, ℤ}
use Rattle.otio_model.specs.declared.timelines.Timeline.{Timeline}
use Rattle.coord.specs.Looks.{Key, FrameRate, Show, Blank, Frame, Mix}
use Rattle.coord.specs.Images.{frame_number}
use Rattle.coord.specs.Programs.{program}

-- what clips of one group have in common: what their frames are known by, and the rate of their
-- media
pub record ClipGroup : Type 0 where
  pub key : Key
  pub rate : FrameRate

-- the frame of this number of the group is seen where this is shown, alone or as a side of a mix
abbrev pub IsSeen : ClipGroup → ℤ → Show → Type 0
IsSeen g v Blank = ⊥
IsSeen g v (Frame key m rate) = (key ≡ g.key) × (rate ≡ g.rate) × (frame_number m rate ≡ v)
IsSeen g v (Mix type from to weight) = IsSeen g v from ⊎ IsSeen g v to

-- some root child shows the frame at some record frame
pub record IsUsed (t : Timeline) (g : ClipGroup) (v : ℤ) : Type 0 where
  pub child : ℕ
  pub at : ℤ
  pub seen : IsSeen g v (program t child at)
