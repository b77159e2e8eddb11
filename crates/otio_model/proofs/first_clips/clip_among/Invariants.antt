-- No item so far is a clip or has one.
use Rattle.std.proofs.Common.{◌≡◌, ◌<◌, ℕ, false}
use Rattle.otio_model.specs.Lights.{clip_at}
use Rattle.otio_model.proofs.first_clips.clip_among.Given as goal

abbrev pub invariant-items : goal.invariant-items
invariant-items l = record { none : (i : ℕ) → i < l.index → clip_at l.items i ≡ false }
