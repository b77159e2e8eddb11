-- What is made of the children so far.
use Rattle.std.proofs.Common.{drop}
use Rattle.otio_model.specs.Trees.{items_of}
use Rattle.flat_stack.specs.Passed.{IsBetween}
use Rattle.flat_stack.proofs.windowing.window_items.Given as goal

abbrev pub invariant-children : goal.invariant-children
invariant-children l =
    IsBetween l.rate (items_of l.children) l.from l.to l.done.items
    (drop l.index (items_of l.children)) l.at l.index
