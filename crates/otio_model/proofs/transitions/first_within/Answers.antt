-- Pieces before the last one that starts at or before the instant less the reach end too early.
use Rattle.std.proofs.Common.{arith}
use Rattle.otio_model.proofs.OverLemmas.{over_before}
use Rattle.otio_model.proofs.transitions.first_within.Goals as goal

pub returns : goal.returns
returns g c =
    over_before c.args.pieces.now c.last_piece.result c.args.at c.args.reach c.requires.reach
    (omega (arith, c.last_piece.ensures.around.not_before, c.if-at-reach.false))
