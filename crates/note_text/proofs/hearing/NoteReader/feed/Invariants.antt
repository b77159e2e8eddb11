use Rattle.std.proofs.Common.{length}
use Rattle.note_text.proofs.Feeding.{Went}
use Rattle.note_text.proofs.hearing.NoteReader.feed.Given as goal

-- what was taken of the piece, and the rest of it
abbrev pub invariant-lines : goal.invariant-lines
invariant-lines l = Went l.piece l.rest l.fn.self l.self

abbrev pub decreases-lines : goal.decreases-lines
decreases-lines l = length l.rest
