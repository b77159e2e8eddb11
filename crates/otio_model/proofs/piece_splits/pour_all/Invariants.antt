-- What has moved, before the items of the pieces that are left, is all; and these have room.
use Rattle.std.proofs.Common.{◌≡◌, ◌+◌, ◌≤◌, ◌++◌, length, vec_len}
use Rattle.std.specs.Prelude.{reverse}
use Rattle.std.specs.Vec.{vec_capacity}
use Rattle.otio_model.specs.Pieces.{all_items}
use Rattle.otio_model.proofs.piece_splits.pour_all.Given as goal

abbrev pub invariant-left : goal.invariant-left
invariant-left l = record {
  items : l.all.items ++ all_items (reverse l.left.items)
      ≡ l.fn.all.items ++ all_items l.fn.pieces.items;
  room : vec_len l.all + length (all_items (reverse l.left.items)) ≤ vec_capacity l.all;
}

abbrev pub decreases-left : goal.decreases-left
decreases-left l = vec_len l.left
