-- The piece lies between the bounds, which come nearer with each step.
use Rattle.std.proofs.Common.{◌+◌, ◌-◌, ◌≤◌, length}
use Rattle.otio_model.specs.Seeks.{IsAround}
use Rattle.otio_model.proofs.seeks.last_piece.Given as goal

abbrev pub invariant-halves : goal.invariant-halves
invariant-halves g l = record {
  around : IsAround l.pieces l.at l.low l.high;
  cost : l.steps + (l.high - l.low) ≤ l.fn.steps + length l.pieces;
}

abbrev pub decreases-halves : goal.decreases-halves
decreases-halves g l = l.high - l.low
