-- The items of the pieces so far are passed.
use Rattle.otio_model.specs.Passes.{IsPassing}
use Rattle.otio_model.proofs.quiet.quiet_pieces.Given as goal

abbrev pub invariant-pieces : goal.invariant-pieces
invariant-pieces l = record {
  passing : IsPassing l.pieces l.first l.from l.to l.number l.count l.ticks;
}
