use Rattle.otio_tools.specs.Frames.{AnswersTimeline}
use Rattle.otio_tools.proofs.WorkPlans.{of_input, unmade_input}
use Rattle.otio_tools.proofs.frames_command.frames_of.Goals as goal

pub returns-in-Ok-clause-owed : goal.returns-in-Ok-clause-owed
returns-in-Ok-clause-owed c = λ name.
    of_input name c.args.input c.args.media (AnswersTimeline c.args.asked name) c.in-Ok.timeline
    c.frames_to_write.result c.in-Ok.ensures.opened (c.frames_to_write.ensures.owed name)

pub returns-in-Err-clause-owed : goal.returns-in-Err-clause-owed
returns-in-Err-clause-owed c = λ name.
    unmade_input name c.args.input c.args.media (AnswersTimeline c.args.asked name) c.in-Err.refusal
    c.in-Err.ensures.refused
