use Rattle.std.proofs.Common.{◌≡◌, ◌+◌, ◌-◌, ◌*◌, ◌≤◌, ◌<◌, take, length}
use Rattle.otio_model.specs.Pieces.{all_items}
use Rattle.otio_model.proofs.piece_splits.end_piece.Given as goal

abbrev pub invariant-ends : goal.invariant-ends
invariant-ends l = record {
  order : l.first ≤ l.end;
  within : l.end ≤ length l.pieces;
  counted : length (all_items (take l.end l.pieces)) ≡ l.behind;
  some : 1 ≤ length l.pieces → l.first < l.end;
  full : 2 ≤ length l.pieces → l.before + 32 * (l.end - l.first) ≤ l.behind;
  short : 32 * (l.end - l.first) ≤ l.count + 128;
}

abbrev pub decreases-ends : goal.decreases-ends
decreases-ends l = length l.pieces - l.end
