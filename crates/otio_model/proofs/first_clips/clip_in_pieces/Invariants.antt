-- No item of the pieces so far is a clip or has one.
use Rattle.std.proofs.Common.{◌≡◌, ◌<◌, ℕ, false, length, take}
use Rattle.otio_model.specs.Lights.{clip_at}
use Rattle.otio_model.specs.Pieces.{all_items}
use Rattle.otio_model.proofs.first_clips.clip_in_pieces.Given as goal

abbrev pub invariant-pieces : goal.invariant-pieces
invariant-pieces l = record {
  none : (j : ℕ) → j < length (all_items (take l.number l.pieces))
      → clip_at (all_items l.pieces) j ≡ false;
}
