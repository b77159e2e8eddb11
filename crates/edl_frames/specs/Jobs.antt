-- What a timeline is written for, and the frames and labels of its record.
use Rattle.std.specs.Prelude.{ℕ, ◌*◌, ℤ, pos, ◌+ℤ◌, int_lt, int_le, Bool, ◌&&◌, Option, Some, None, length, find}
use Rattle.std.specs.Int.{int_div_euclid, int_rem_euclid}
use Rattle.std.specs.List.{range_with_len}
use Rattle.otio_model.specs.declared.timelines.Timeline.{Timeline}
use Rattle.smpte_tc.specs.Modes.{mode_at}
use Rattle.smpte_tc.specs.Day.{counted_of}
use Rattle.smpte_tc.specs.declared.modes.Mode.{Mode}
use Rattle.edl_list.specs.Speeds.{half_even}
use Rattle.coord.specs.Looks.{FrameRate}
use Rattle.coord.specs.Programs.{record_rate, start_frame, frame_ticks}
use Rattle.media_rows.specs.Rows.{MediaRows}
use Rattle.std.specs.Ordering.{int_eq}
use Rattle.edl_list.specs.declared.layout.Layout.{Layout}
use Rattle.edl_list.specs.Layouts.{layout_of}

-- what a timeline is written for: the record rate and first record frame, the media list where
-- there is one, whether labels are drop-frame, and the layout
pub record Job : Type 0 where
  pub rate : FrameRate
  pub first : ℤ
  pub media : MediaRows
  pub drop : Bool
  pub layout : Layout

-- what a timeline is written for against a media list, in a mode and a layout
abbrev pub job_of : Timeline → MediaRows → (drop wide : Bool) → Job
job_of t media drop wide = record {
  rate = record_rate t;
  first = start_frame t;
  media = media;
  drop = drop;
  layout = layout_of wide;
}

-- the ticks of a record frame
abbrev pub ticks_of : Job → ℤ
ticks_of j = pos (frame_ticks j.rate)

-- whole record frames in so many ticks
abbrev pub frames_in : Job → ℤ → ℤ
frames_in j u = int_div_euclid u (ticks_of j)

-- the record frame at an instant of a track
abbrev pub record_at : Job → ℤ → ℤ
record_at j u = j.first +ℤ frames_in j u

-- an instant of a track lies on a record frame
abbrev pub is_on_frame : Job → ℤ → Bool
is_on_frame j u = int_eq (int_rem_euclid u (ticks_of j)) (pos 0)

-- how labels count at a frame rate, where it has timecode
abbrev pub mode_in : FrameRate → Bool → Option Mode
mode_in r drop = mode_at r.num r.den drop

-- how many labels a day has
abbrev pub day_in : Option Mode → ℕ
day_in None = 0
day_in (Some mode) = length (counted_of mode)

-- the label of a frame number is one of the day
abbrev pub is_in_day : Job → ℤ → Bool
is_in_day j n = int_le (pos 0) n && int_lt n (pos (day_in (mode_in j.rate j.drop)))

-- the frames that labels count a second
abbrev pub count_in : Option Mode → ℕ
count_in None = 0
count_in (Some mode) = mode.nominal

-- the tenths of a frame a second, at most 9999, that give a speed in millionths
unfoldable pub tenths_of : ℕ → ℤ → Option ℕ
tenths_of count speed = find (λ v. int_eq (pos (half_even (v * 100000) count)) speed)
    (range_with_len 0 10000)
