-- The items so far have moved; the pieces from here on are as they were.
use Rattle.std.proofs.Common.{◌≡◌, ◌≤◌, take, drop, vec_len}
use Rattle.std.specs.Vec.{vec_capacity}
use Rattle.otio_model.specs.Pieces.{all_items, part}
use Rattle.otio_model.proofs.piece_splits.pour.Given as goal

abbrev pub invariant-pieces : goal.invariant-pieces
invariant-pieces l = record {
  order : l.fn.first ≤ l.number;
  items : l.mid.items ≡ all_items (part l.fn.first l.number l.fn.pieces.items);
  front : take l.fn.first l.pieces.items ≡ take l.fn.first l.fn.pieces.items;
  back : drop l.number l.pieces.items ≡ drop l.number l.fn.pieces.items;
  len : vec_len l.pieces ≡ vec_len l.fn.pieces;
  capacity : vec_capacity l.pieces ≡ vec_capacity l.fn.pieces;
  room : vec_capacity l.fn.mid ≤ vec_capacity l.mid;
}
