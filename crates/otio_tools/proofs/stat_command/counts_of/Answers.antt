use Rattle.otio_tools.specs.Tools.{AnswersCounted}
use Rattle.otio_tools.proofs.WorkPlans.{of_input, unmade_input}
use Rattle.otio_tools.proofs.stat_command.counts_of.Goals as goal

pub returns-in-Ok-clause-owed : goal.returns-in-Ok-clause-owed
returns-in-Ok-clause-owed c = λ name.
    of_input name c.args.input c.args.media (AnswersCounted name) c.in-Ok.timeline
    c.counts_to_write.result c.in-Ok.ensures.opened (c.counts_to_write.ensures.owed name)

pub returns-in-Err-clause-owed : goal.returns-in-Err-clause-owed
returns-in-Err-clause-owed c = λ name.
    unmade_input name c.args.input c.args.media (AnswersCounted name) c.in-Err.refusal
    c.in-Err.ensures.refused
