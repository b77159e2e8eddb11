use Rattle.std.proofs.Common.{sym, subst, All}
use Rattle.note_text.specs.Belonging.{IsNoteOf}
use Rattle.note_text.proofs.NotedLists.{notes_can}
use Rattle.edl_tests.proofs.noted_tests.send.Goals as goal

pub write_noted-requires-clause-notes : goal.write_noted-requires-clause-notes
write_noted-requires-clause-notes g c =
    subst (All (IsNoteOf c.args.list.now c.args.drop)) (sym c.notes_below_day-notes.ensures)
    (notes_can c.args.list.now c.args.drop c.args.notes c.requires.notes)
