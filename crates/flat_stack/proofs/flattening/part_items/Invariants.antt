-- The items of the parts so far are made.
use Rattle.std.proofs.Common.{drop}
use Rattle.otio_model.specs.Trees.{items_of}
use Rattle.flat_stack.specs.Parts.{AreMade}
use Rattle.flat_stack.proofs.flattening.part_items.Given as goal

abbrev pub invariant-parts : goal.invariant-parts
invariant-parts l =
    AreMade l.rate (items_of l.children) l.done.items (drop l.index l.parts) l.parts
