-- No item from here up to the end may show anything.
use Rattle.std.proofs.Common.{◌≡◌, ◌≤◌, ◌<◌, ℕ, false, pos}
use Rattle.otio_model.specs.Lights.{shows_at}
use Rattle.otio_model.proofs.lights.lit_among.Given as goal

abbrev pub invariant-items : goal.invariant-items
invariant-items l = record {
  none : (j : ℕ) → l.index ≤ j → j < l.end → shows_at l.items (pos l.at) j ≡ false;
}
