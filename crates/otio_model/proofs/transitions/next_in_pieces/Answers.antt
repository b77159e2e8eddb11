-- What is found in a piece is found in all.
use Rattle.std.proofs.Common.{arith}
use Rattle.otio_model.proofs.NextLemmas.{next_at, next_short}
use Rattle.otio_model.proofs.transitions.next_in_pieces.Goals as goal

pub overflow_add-result-in-Some : goal.overflow_add-result-in-Some
overflow_add-result-in-Some c =
    let f = c.read_piece-piece.ensures in
    omega (arith, next_short c.in-Some.ensures.found, f.within, f.start, c.requires.fits)

pub returns-in-Some-clause-found : goal.returns-in-Some-clause-found
returns-in-Some-clause-found c =
    next_at c.read_piece-piece.ensures c.saturating_sub.ensures c.pieces.invariant.none
    c.in-Some.ensures.found
