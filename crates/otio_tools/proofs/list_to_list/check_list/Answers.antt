use Rattle.std.proofs.Common.{rules, ap}
use Rattle.otio_tools.specs.Forms.{refused}
use Rattle.otio_tools.specs.Events.{WideReel}
use Rattle.otio_tools.proofs.list_to_list.check_list.Goals as goal

pub returns-in-Some-clause-refused : goal.returns-in-Some-clause-refused
returns-in-Some-clause-refused c = λ text name target.
    WideReel (search rules) (search rules) c.in-Some.ensures.0 c.in-Some.line c.in-Some.ensures.1
    (ap (refused name) c.reel_reason.ensures)
