use Rattle.std.proofs.Common.{false, refl}
use Rattle.otio_tools.specs.Carried.{Carried}
use Rattle.otio_tools.proofs.CalmTimelines.{tables_are_calm}
use Rattle.otio_tools.proofs.PlanLemmas.{left_as}
use Rattle.otio_tools.proofs.WrittenLists.{carried_fits}
use Rattle.otio_tools.proofs.timeline_to_list.sound_to_list.Goals as goal

pub returns-in-Ok-clause-owed : goal.returns-in-Ok-clause-owed
returns-in-Ok-clause-owed c = λ name target.
    let is = c.in-Ok.ensures.list in
    Carried c.requires.sound is.carried c.in-Ok.list is.is c.check_texts.ensures _ refl refl

pub returns-in-Ok-clause-fits : goal.returns-in-Ok-clause-fits
returns-in-Ok-clause-fits c =
    let is = c.in-Ok.ensures.list in
    carried_fits c.args.timeline c.args.media c.args.drop c.args.wide c.in-Ok.list
    (tables_are_calm c.args.timeline c.requires.tables) is.listed is.carried is.is

pub returns-in-Err-clause-owed : goal.returns-in-Err-clause-owed
returns-in-Err-clause-owed c = λ name.
    left_as false c.args.drop c.args.wide name c.args.media c.args.timeline c.in-Err.fault
    c.uncarried.result c.requires.sound c.in-Err.ensures.fault c.uncarried.ensures
