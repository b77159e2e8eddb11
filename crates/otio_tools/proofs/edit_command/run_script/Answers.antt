use Rattle.otio_tools.proofs.Starting.{halted_as, works_on}
use Rattle.otio_tools.proofs.edit_command.run_script.Goals as goal

pub returns-in-Err-clause-refused : goal.returns-in-Err-clause-refused
returns-in-Err-clause-refused c = halted_as _ c.args.script.items c.new-log.result c.args.timeline _
    c.in-Err.fault c.halted.result c.new-log.ensures.past c.new-log.ensures.future
    (λ n. rw c.as_slice.ensures.value at (c.in-Err.ensures.halts n)) c.halted.ensures

pub returns-in-Ok-clause-work : goal.returns-in-Ok-clause-work
returns-in-Ok-clause-work c = works_on _ c.args.script.items c.new-log.result c.args.timeline _
    c.new-log.ensures.past c.new-log.ensures.future c.requires.sound
    (rw c.as_slice.ensures.value at c.in-Ok.ensures.all) c.apply_script-ended.ensures.kept
    c.apply_script-ended.ensures.edits
