use Rattle.std.proofs.Common.{◌≡◌, ◌++◌, take}
use Rattle.note_text.specs.StateOwners.{notes_given}
use Rattle.note_text.proofs.reading.put_given.Given as goal

-- the notes of the owners so far were put after those that there were
abbrev pub invariant-owners : goal.invariant-owners
invariant-owners l = l.notes.items ≡ l.fn.notes.items ++ notes_given l.list.rate l.list.events l.said (take l.owner-index l.owners)
