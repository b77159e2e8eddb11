use Rattle.edit_script.proofs.Changes.{redone}
use Rattle.edit_script.proofs.steps.redo.Goals as goal

pub returns-in-Ok-redo-clause-done : goal.returns-in-Ok-redo-clause-done
returns-in-Ok-redo-clause-done c = λ media.
    redone media c.args.log.now c.room_redo.new.self c.redo.new.self c.args.timeline.now
    c.room_redo.new.timeline c.redo.new.timeline c.requires.ready c.room_redo.ensures.log
    c.room_redo.ensures.timeline c.redo.ensures.kept c.in-Ok-redo.ensures.state
    c.in-Ok-redo.ensures.patches
