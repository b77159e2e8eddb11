-- The items so far.
use Rattle.std.proofs.Common.{◌≡◌, take}
use Rattle.otio_model.specs.Seeks.{lens, total}
use Rattle.otio_model.proofs.transitions.ticks_of.Given as goal

abbrev pub invariant-items : goal.invariant-items
invariant-items l = record { sum : l.sum ≡ total (take l.index (lens l.items)) }
