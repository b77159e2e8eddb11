use Rattle.note_text.specs.Found.{SaysMark}
use Rattle.edl_notes.proofs.FoundSteps.{adds_nothing, says_no_mark}
use Rattle.edl_notes.proofs.locators.put_mark.Goals as goal

pub returns-in-None : goal.returns-in-None
returns-in-None c =
    let s = c.args.shown in
    adds_nothing s.index (SaysMark s.rate s.event.now c.args.mark.now) c.args.notes.now.items (says_no_mark s.rate s.event.now c.args.mark.now c.in-None.ensures)
