-- The frame number that a label names at a rate (SMPTE ST 12-1).
use Rattle.std.specs.Prelude.{ℕ, ℤ, ◌*◌, ◌==◌, ◌||◌, ◌<◌, Bool, List, Option, Some, None, bytes_eq, if◌then◌else◌}
use Rattle.std.specs.List.{position}
use Rattle.tick_time.specs.declared.rates.Rate.{Rate}
use Rattle.smpte_tc.specs.declared.modes.Mode.{Mode}
use Rattle.smpte_tc.specs.Day.{labels_with}
use Rattle.smpte_tc.specs.Modes.{mode_at}
use Rattle.smpte_tc.specs.Answers.{ninth, means_drop}

-- the byte may stand before the frames: ':' or ';'
abbrev pub is_mark : ℕ → Bool
is_mark byte = (byte == 58) || (byte == 59)

-- how many labels of the day, written with this label's mark, come before it; none where it is no
-- label of the day
unfoldable pub label_index : Mode → List ℕ → Option ℕ
label_index mode label =
    if is_mark (ninth label)
    then position (bytes_eq label) (labels_with (ninth label) mode)
    else None

-- the same where a rate may have no such timecode
abbrev pub index_by : Option Mode → List ℕ → Option ℕ
index_by None label = None
index_by (Some mode) label = label_index mode label

-- the frame number of the day that a label names at num/den frames a second, with drop-frame or
-- without; ';' as its ninth byte means drop-frame in any case; none where it is no label there
unfoldable pub label_frame_at : ℤ → ℤ → Bool → List ℕ → Option ℕ
label_frame_at num den drop label = index_by (mode_at num den (means_drop label drop)) label

-- the same at a rate
abbrev pub label_frame : Rate → Bool → List ℕ → Option ℕ
label_frame rate drop label = label_frame_at rate.num rate.den drop label

-- a frame number of a day: there are at most sixty a second
abbrev pub IsFrameOfDay : ℕ → Type 0
IsFrameOfDay n = n < 60 * 86400
