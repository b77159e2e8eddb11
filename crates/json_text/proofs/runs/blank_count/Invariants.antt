use Rattle.std.proofs.Common.{take}
use Rattle.json_text.specs.Grammar.{AreBlank}
use Rattle.json_text.proofs.runs.blank_count.Given as goal

abbrev pub invariant-loop-index : goal.invariant-loop-index
invariant-loop-index l = AreBlank (take l.index l.bytes)
