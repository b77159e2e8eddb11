use Rattle.std.proofs.Common.{◌≡◌, ◌-◌, ◌≤◌, ◌<◌, take, length}
use Rattle.otio_model.specs.Pieces.{all_items}
use Rattle.otio_model.proofs.piece_splits.start_piece.Given as goal

abbrev pub invariant-starts : goal.invariant-starts
invariant-starts l = record {
  within : l.first ≤ length l.pieces;
  some : 1 ≤ length l.pieces → l.first < length l.pieces;
  counted : length (all_items (take l.first l.pieces)) ≡ l.before;
  starts : l.before ≤ l.at;
}

abbrev pub decreases-starts : goal.decreases-starts
decreases-starts l = length l.pieces - l.first
