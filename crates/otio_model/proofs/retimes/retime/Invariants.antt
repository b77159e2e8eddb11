-- The first ranges are exchanged, and the others are still those that were given.
use Rattle.otio_model.specs.Trees.{items_of}
use Rattle.otio_model.proofs.Retiming.{Exchanged}
use Rattle.otio_model.proofs.retimes.retime.Given as goal

abbrev pub invariant-ranges-2 : goal.invariant-ranges-2
invariant-ranges-2 l =
    Exchanged l.at l.index l.fn.ranges (items_of l.fn.children) l.children l.list.items
