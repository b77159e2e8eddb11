use Rattle.std.proofs.Common.{length}
use Rattle.undo_log.specs.States.{state_of}
use Rattle.drill.specs.Turns.{HasRewound}
use Rattle.drill.proofs.edit_loop.undo_all.Given as goal

abbrev pub invariant-steps : goal.invariant-steps
invariant-steps l = HasRewound l.fn.log l.fn.timeline l.log l.timeline

abbrev pub decreases-steps : goal.decreases-steps
decreases-steps l = length (state_of l.log l.timeline).before
