-- The children from the index on are transitions.
use Rattle.std.proofs.Common.{◌≡◌, None, drop}
use Rattle.otio_model.specs.Trees.{items_of}
use Rattle.edits.specs.Edges.{last_item}
use Rattle.edit_trim.specs.Retimes.{children_in}
use Rattle.edit_trim.proofs.retimes.last_of.Given as goal

abbrev pub invariant-children : goal.invariant-children
invariant-children l = last_item (drop l.index (children_in l.stretch (items_of l.children))) ≡ None
