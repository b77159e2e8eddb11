-- The record frame that a point names at a rate.
use Rattle.std.specs.Prelude.{◌≡◌, ℕ, ◌^◌, ◌<◌, ℤ, pos, false, nat_lt, Option, Some, None, if◌then◌else◌}
use Rattle.std.specs.Option.{option_map}
use Rattle.tick_time.specs.declared.rates.Rate.{Rate}
use Rattle.smpte_tc.specs.Frames.{label_frame_at}
use Rattle.smpte_tc.specs.declared.points.RecordPoint.{RecordPoint}
use Rattle.smpte_tc.specs.declared.points.RecordPoint.TheVariants.{Frame, Label}

-- the record frame that a point names at num/den frames a second: none where it is a label that is
-- none there, and where it is a number of more digits than a word may have
abbrev pub point_frame_at : ℤ → ℤ → RecordPoint → Option ℤ
point_frame_at num den (Frame n) = if nat_lt n (10 ^ 18) then Some (pos n) else None
point_frame_at num den (Label label) = option_map pos (label_frame_at num den false label)

-- the same at a rate
abbrev pub point_frame : Rate → RecordPoint → Option ℤ
point_frame rate point = point_frame_at rate.num rate.den point

-- a record frame is not negative, and its number has at most 18 digits
abbrev pub IsFrame : ℤ → Type 0
IsFrame frame = (n : ℕ) × (frame ≡ pos n) × (n < 10 ^ 18)
