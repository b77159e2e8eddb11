use Rattle.std.proofs.Common.{◌≡◌, take}
use Rattle.note_text.specs.Belonging.{notes_said}
use Rattle.note_text.proofs.reading.notes_for.Given as goal

-- the notes of the lines so far were put
abbrev pub invariant-heard : goal.invariant-heard
invariant-heard l = l.notes.items ≡ notes_said l.list.rate l.list.events (take l.one-index l.heard)
