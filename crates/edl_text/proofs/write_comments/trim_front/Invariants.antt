use Rattle.std.proofs.Common.{◌≡◌, length, map}
use Rattle.text_lines.specs.Lines.{trimmed_front}
use Rattle.edl_text.specs.Columns.{written_byte}
use Rattle.edl_text.proofs.write_comments.trim_front.Given as goal

abbrev pub invariant-blanks : goal.invariant-blanks
invariant-blanks l = trimmed_front (map written_byte l.rest) ≡ trimmed_front (map written_byte l.text)

abbrev pub decreases-blanks : goal.decreases-blanks
decreases-blanks l = length l.rest
