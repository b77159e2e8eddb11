use Rattle.std.proofs.Common.{take}
use Rattle.json_text.specs.State.Runs.{AreOpen}
use Rattle.json_text.proofs.Ascii.{AreAtMost}
use Rattle.json_text.proofs.runs.plain_count.Given as goal

abbrev pub invariant-loop-index : goal.invariant-loop-index
invariant-loop-index l = AreOpen (take l.index l.bytes) × AreAtMost 127 (take l.index l.bytes)
