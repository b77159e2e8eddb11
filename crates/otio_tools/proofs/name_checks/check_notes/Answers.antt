use Rattle.std.proofs.Common.{sym}
use Rattle.std.proofs.lemmas.List.{take_all}
use Rattle.std.proofs.lemmas.List.Elements.{All-same}
use Rattle.note_text.specs.declared.notes.Note.{Note}
use Rattle.note_law.specs.Law.{HasText}
use Rattle.otio_tools.proofs.FoundNotes.{more_texts}
use Rattle.otio_tools.proofs.name_checks.check_notes.Goals as goal

pub loop-note-preserved : goal.loop-note-preserved
loop-note-preserved c =
    let e = c.as_slice-note-items.ensures in
    more_texts c.args.notes.now c.loop-note.note-index c.note-item.result
    (rw (← e) c.loop-note-test.true) (rw (← e) c.note-item.is) c.loop-note.invariant
    c.check_said.ensures

pub returns : goal.returns
returns c =
    let e = c.as_slice-note-items.ensures in
    All-same (λ (note : Note). HasText note.said) c.args.notes.now _
    (sym (take_all c.loop-note.note-index c.args.notes.now (rw (← e) c.loop-note-test.false)))
    c.loop-note.invariant
