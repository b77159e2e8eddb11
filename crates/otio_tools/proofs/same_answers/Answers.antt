use Rattle.otio_tools.proofs.SameRows.{same_answer}
use Rattle.otio_tools.proofs.same_answers.Goals as goal

pub returns : goal.returns
returns c = same_answer
