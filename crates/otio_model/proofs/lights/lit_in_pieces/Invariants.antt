-- No item from this piece on up to the end may show anything.
use Rattle.std.proofs.Common.{◌≡◌, ◌≤◌, ◌<◌, ℕ, false, pos, length, take}
use Rattle.otio_model.specs.Lights.{shows_at}
use Rattle.otio_model.specs.Pieces.{all_items}
use Rattle.otio_model.proofs.lights.lit_in_pieces.Given as goal

abbrev pub invariant-pieces : goal.invariant-pieces
invariant-pieces l = record {
  none : (j : ℕ) → length (all_items (take l.number l.pieces)) ≤ j → j < l.end
      → shows_at (all_items l.pieces) (pos l.at) j ≡ false;
}
