use Rattle.std.proofs.Common.{◌≤◌, ◌-◌, length}
use Rattle.json_text.specs.StringTexts.{IsPlain}
use Rattle.json_text.proofs.quote.plain_count.Given as goal

abbrev pub invariant-pieces : goal.invariant-pieces
invariant-pieces l = (l.at ≤ length l.bytes) × IsPlain l.at l.bytes

abbrev pub decreases-pieces : goal.decreases-pieces
decreases-pieces l = length l.bytes - l.at
