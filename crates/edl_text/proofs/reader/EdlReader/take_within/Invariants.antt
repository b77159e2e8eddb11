use Rattle.std.proofs.Common.{length}
use Rattle.edl_text.proofs.PieceProgress.{Went}
use Rattle.edl_text.proofs.reader.EdlReader.take_within.Given as goal

-- what was taken of the piece, and the rest of it
abbrev pub invariant-lines : goal.invariant-lines
invariant-lines l = Went l.piece l.rest l.fn.self l.self

abbrev pub decreases-lines : goal.decreases-lines
decreases-lines l = length l.rest
