use Rattle.std.proofs.Common.{◌≡◌, length, reverse}
use Rattle.text_lines.specs.Lines.{trimmed_front}
use Rattle.text_lines.proofs.trim.trim_back.Given as goal

abbrev pub invariant-blanks : goal.invariant-blanks
invariant-blanks l = trimmed_front (reverse l.rest) ≡ trimmed_front (reverse l.text)

abbrev pub decreases-blanks : goal.decreases-blanks
decreases-blanks l = length l.rest
