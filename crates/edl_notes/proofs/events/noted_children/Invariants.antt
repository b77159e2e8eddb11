-- The children so far have their notes.
use Rattle.otio_model.specs.Trees.{items_of}
use Rattle.edl_notes.specs.Steps.{notes_at}
use Rattle.edl_notes.proofs.WalkSteps.{HasWalked}
use Rattle.edl_notes.proofs.events.noted_children.Given as goal

abbrev pub invariant-children : goal.invariant-children
invariant-children l = HasWalked l.work.list.now l.channel (notes_at l.work.notes.now) (items_of l.children) l.index l.start l.at l.copies.items
