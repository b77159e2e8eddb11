use Rattle.otio_tools.specs.Pulled.{AnswersPull}
use Rattle.otio_tools.proofs.WorkPlans.{of_input, unmade_input}
use Rattle.otio_tools.proofs.pull_command.pull_of.Goals as goal

pub returns-in-Ok-clause-owed : goal.returns-in-Ok-clause-owed
returns-in-Ok-clause-owed c = λ name.
    of_input name c.args.input c.args.media (AnswersPull c.args.handles name) c.in-Ok.timeline
    c.pull_to_write.result c.in-Ok.ensures.opened (c.pull_to_write.ensures.owed name)

pub returns-in-Err-clause-owed : goal.returns-in-Err-clause-owed
returns-in-Err-clause-owed c = λ name.
    unmade_input name c.args.input c.args.media (AnswersPull c.args.handles name) c.in-Err.refusal
    c.in-Err.ensures.refused
