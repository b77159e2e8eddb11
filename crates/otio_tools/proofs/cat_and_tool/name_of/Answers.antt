use Rattle.otio_tools.proofs.Reporting.{name_at_among}
use Rattle.otio_tools.proofs.cat_and_tool.name_of.Goals as goal

pub returns-in-At-clause-among : goal.returns-in-At-clause-among
returns-in-At-clause-among c = λ some. rw c.name_at.ensures (name_at_among _ _ some)
