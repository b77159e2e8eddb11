-- The piece lies between the bounds.
use Rattle.std.proofs.Common.{◌-◌}
use Rattle.otio_model.specs.Pieces.{IsBetween}
use Rattle.otio_model.proofs.piece_numbers.locate.Given as goal

abbrev pub invariant-halves : goal.invariant-halves
invariant-halves l = record {
  between : IsBetween l.pieces l.index l.low l.high;
}

abbrev pub decreases-halves : goal.decreases-halves
decreases-halves l = l.high - l.low
