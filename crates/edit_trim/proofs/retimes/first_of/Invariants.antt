-- The children so far are transitions.
use Rattle.std.proofs.Common.{◌≡◌, None, take}
use Rattle.otio_model.specs.Trees.{items_of}
use Rattle.edits.specs.Edges.{first_item}
use Rattle.edit_trim.specs.Retimes.{children_in}
use Rattle.edit_trim.proofs.retimes.first_of.Given as goal

abbrev pub invariant-children : goal.invariant-children
invariant-children l = first_item (take l.index (children_in l.stretch (items_of l.children))) ≡ None
