use Rattle.std.proofs.Common.{length}
use Rattle.ale_text.specs.Tables.{HasRead}
use Rattle.ale_text.proofs.logs.tapes_of.Given as goal

abbrev pub invariant-lines : goal.invariant-lines
invariant-lines l = HasRead l.bytes l.rest l.number l.due l.tapes

abbrev pub decreases-lines : goal.decreases-lines
decreases-lines l = length l.rest
