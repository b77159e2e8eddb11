-- The source ranges of the children so far.
use Rattle.std.proofs.Common.{◌≡◌, ◌-◌, take, drop}
use Rattle.otio_model.specs.Retimed.{sources}
use Rattle.otio_model.specs.Trees.{items_of}
use Rattle.edit_trim.proofs.retimes.own_ranges.Given as goal

abbrev pub invariant-children : goal.invariant-children
invariant-children l = l.ranges.items
    ≡ sources (take (l.index - l.fn.stretch.at) (drop l.fn.stretch.at (items_of l.children)))
