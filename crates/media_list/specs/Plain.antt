-- Rows that a line of a media list can say as they are.
use Rattle.std.specs.Prelude.{◌≡◌, ◌≤◌, ℕ, false, All}
use Rattle.smpte_tc.specs.PointFrames.{IsFrame}
use Rattle.text_lines.specs.ReelNames.{IsReelName}
use Rattle.media_rows.specs.declared.row.MediaRow.{MediaRow}
use Rattle.text_lines.specs.Lines.{is_comment}
use Rattle.media_list.specs.Lines.{IsSpanInRange}

-- a printing character of ASCII, the space among them
abbrev pub IsPrinted : ℕ → Type 0
IsPrinted b = (32 ≤ b) × (b ≤ 126)

-- A line can say the row: its reel doesn't begin with `#`, as a comment does, its URL has printing
-- characters alone, and its start and length are frame numbers within a million seconds.
pub record IsPlainRow (row : MediaRow) : Type 0 where
  pub reel : IsReelName row.reel
  pub other : is_comment row.reel ≡ false
  pub url : All IsPrinted row.url
  pub start : IsFrame row.start
  pub count : IsFrame row.count
  pub range : IsSpanInRange row.rate row.start row.count
