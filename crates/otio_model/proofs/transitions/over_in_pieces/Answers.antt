-- What is found in a piece is found in all.
use Rattle.std.proofs.Common.{arith}
use Rattle.otio_model.proofs.OverLemmas.{over_at, over_behind}
use Rattle.otio_model.proofs.transitions.over_in_pieces.Goals as goal

pub returns-then-saturating_add-start-clause-none :
    goal.returns-then-saturating_add-start-clause-none
returns-then-saturating_add-start-clause-none c =
    let f = c.read_piece-piece.ensures in
    over_behind c.args.at f c.requires.reach
    (omega (
      arith,
      c.if-saturating_add-start.true,
      c.saturating_add.ensures,
      f.within,
      f.start,
      c.requires.fits,
    ))
    c.pieces.invariant.none

pub returns-in-Some-clause-found : goal.returns-in-Some-clause-found
returns-in-Some-clause-found c =
    over_at c.read_piece-piece.ensures c.pieces.invariant.none c.in-Some.ensures.found
