use Rattle.std.proofs.Common.{Some}
use Rattle.undo_log.specs.States.{state_of}
use Rattle.drill.proofs.Tries.{ran_one, tried_no}
use Rattle.drill.proofs.one_edit.try_act.Goals as goal

pub returns-in-Ok-clause-tried : goal.returns-in-Ok-clause-tried
returns-in-Ok-clause-tried c =
    ran_one (Some c.args.media.now) (record { line = 0; act = c.args.act })
    (state_of c.args.log.now c.args.timeline.now)
    (state_of c.apply_script.new.log c.apply_script.new.timeline) c.in-Ok.ensures.all

pub returns-clause-tried : goal.returns-clause-tried
returns-clause-tried c =
    tried_no (Some c.args.media.now) c.args.act c.args.log.now c.apply_script.new.log
    c.args.timeline.now c.apply_script.new.timeline c.in-Err.fault c.refused.result
    c.refused.ensures.no c.refused.ensures.fault c.in-Err.ensures.halts
