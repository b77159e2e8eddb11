use Rattle.std.proofs.Common.{None}
use Rattle.undo_log.specs.States.{state_of}
use Rattle.drill.proofs.Tries.{stayed, went_back}
use Rattle.drill.proofs.one_edit.step_back.Goals as goal

pub returns-in-Ok-clause-back : goal.returns-in-Ok-clause-back
returns-in-Ok-clause-back c =
    went_back None 0 (state_of c.args.log.now c.args.timeline.now)
    (state_of c.apply_script.new.log c.apply_script.new.timeline) c.in-Ok.ensures.all

pub returns-clause-back : goal.returns-clause-back
returns-clause-back c =
    stayed None (state_of c.args.log.now c.args.timeline.now)
    (state_of c.apply_script.new.log c.apply_script.new.timeline) c.in-Err.fault c.refused.result
    c.refused.ensures.no c.refused.ensures.fault c.in-Err.ensures.halts
