use Rattle.edit_script.proofs.Changes.{undone}
use Rattle.edit_script.proofs.steps.undo.Goals as goal

pub returns-in-Ok-undo-clause-done : goal.returns-in-Ok-undo-clause-done
returns-in-Ok-undo-clause-done c = λ media.
    undone media c.args.log.now c.room_undo.new.self c.undo.new.self c.args.timeline.now
    c.room_undo.new.timeline c.undo.new.timeline c.requires.ready c.room_undo.ensures.log
    c.room_undo.ensures.timeline c.undo.ensures.kept c.in-Ok-undo.ensures.state
    c.in-Ok-undo.ensures.patches
