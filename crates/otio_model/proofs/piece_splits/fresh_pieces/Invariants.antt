-- The pieces so far are fresh.
use Rattle.std.proofs.Common.{◌-◌, ◌≤◌, vec_len}
use Rattle.otio_model.specs.Pieces.{AllFresh}
use Rattle.otio_model.proofs.piece_splits.fresh_pieces.Given as goal

abbrev pub invariant-fresh : goal.invariant-fresh
invariant-fresh l = record {
  all : AllFresh l.fresh.items;
  long : vec_len l.fresh ≤ l.wanted;
}

abbrev pub decreases-fresh : goal.decreases-fresh
decreases-fresh l = l.wanted - vec_len l.fresh
