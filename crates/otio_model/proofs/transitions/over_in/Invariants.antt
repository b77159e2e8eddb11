-- The ticks so far, and no overlap so far that holds the instant.
use Rattle.std.proofs.Common.{◌≡◌, pos, ◌-ℤ◌, take}
use Rattle.otio_model.specs.Seeks.{NoneOver, lens, total}
use Rattle.otio_model.proofs.transitions.over_in.Given as goal

abbrev pub invariant-items : goal.invariant-items
invariant-items l = record {
  start : l.start ≡ total (take l.index (lens l.items));
  none : NoneOver (take l.index l.items) (pos l.at -ℤ pos l.first);
}
