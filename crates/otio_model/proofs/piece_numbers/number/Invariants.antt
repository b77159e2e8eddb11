-- The pieces so far are numbered.
use Rattle.std.proofs.Common.{◌≡◌, take}
use Rattle.otio_model.specs.Pieces.{front, numbered_to, start_past_all}
use Rattle.otio_model.proofs.piece_numbers.number.Given as goal

abbrev pub invariant-pieces : goal.invariant-pieces
invariant-pieces l = record {
  pieces : l.pieces.items ≡ numbered_to l.index front l.fn.pieces.items;
  before : l.before ≡ start_past_all front (take l.index l.fn.pieces.items);
}
