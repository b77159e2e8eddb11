use Rattle.std.proofs.Common.{ap}
use Rattle.otio_tools.specs.Forms.{refused}
use Rattle.otio_tools.specs.Events.{PastDay}
use Rattle.otio_tools.proofs.list_to_list.check_labels.Goals as goal

pub returns-in-Some-clause-refused : goal.returns-in-Some-clause-refused
returns-in-Some-clause-refused c = λ text name target.
    PastDay c.requires.can c.in-Some.line c.in-Some.ensures (ap (refused name) c.day_reason.ensures)
