use Rattle.std.proofs.Common.{take, All}
use Rattle.note_text.specs.declared.notes.Note.{Note}
use Rattle.note_law.specs.Law.{HasText}
use Rattle.otio_tools.proofs.name_checks.check_notes.Given as goal

-- the names so far are UTF-8
abbrev pub invariant-loop-note : goal.invariant-loop-note
invariant-loop-note l = All (λ (note : Note). HasText note.said) (take l.note-index l.notes)
