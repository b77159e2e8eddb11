use Rattle.std.proofs.Common.{true, refl}
use Rattle.otio_tools.specs.Carried.{Carried}
use Rattle.otio_tools.proofs.CalmTimelines.{tables_are_calm}
use Rattle.otio_tools.proofs.FoundNotes.{found_fit}
use Rattle.otio_tools.proofs.OneCarried.{has_list}
use Rattle.otio_tools.proofs.PlanLemmas.{left_as}
use Rattle.otio_tools.proofs.WrittenLists.{carried_fits}
use Rattle.otio_tools.proofs.timeline_to_list.noted_to_list.Goals as goal

pub notes_of-notes-requires-clause-list : goal.notes_of-notes-requires-clause-list
notes_of-notes-requires-clause-list c =
    let is = c.in-Ok.ensures.list in
    has_list c.args.timeline c.args.media c.args.drop c.args.wide c.in-Ok.list is.carried is.is

pub notes_of-notes-requires-clause-formed : goal.notes_of-notes-requires-clause-formed
notes_of-notes-requires-clause-formed c =
    let is = c.in-Ok.ensures.list in
    (carried_fits c.args.timeline c.args.media c.args.drop c.args.wide c.in-Ok.list
    (tables_are_calm c.args.timeline c.requires.tables) is.listed is.carried is.is).formed

pub returns-in-Ok-notes-clause-owed : goal.returns-in-Ok-notes-clause-owed
returns-in-Ok-notes-clause-owed c = λ name target.
    let is = c.in-Ok.ensures.list in
    Carried c.requires.sound is.carried c.in-Ok.list is.is c.check_texts.ensures _
    (c.in-Ok-notes.notes, c.in-Ok-notes.ensures, c.check_notes.ensures, refl) refl

pub returns-in-Ok-notes-clause-fits : goal.returns-in-Ok-notes-clause-fits
returns-in-Ok-notes-clause-fits c =
    let is = c.in-Ok.ensures.list in
    let calm = tables_are_calm c.args.timeline c.requires.tables in
    record {
      list_can = carried_fits c.args.timeline c.args.media c.args.drop c.args.wide c.in-Ok.list calm
          is.listed is.carried is.is;
      notes_can = found_fit c.args.timeline c.args.media c.args.drop c.args.wide c.in-Ok.list
          c.in-Ok-notes.notes calm is.listed is.carried is.is c.in-Ok-notes.ensures
          c.check_notes.ensures;
    }

pub returns-in-Err-clause-owed : goal.returns-in-Err-clause-owed
returns-in-Err-clause-owed c = λ name.
    left_as true c.args.drop c.args.wide name c.args.media c.args.timeline c.in-Err.fault
    c.uncarried.result c.requires.sound c.in-Err.ensures.fault c.uncarried.ensures
