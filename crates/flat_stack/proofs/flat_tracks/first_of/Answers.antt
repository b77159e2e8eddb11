use Rattle.std.proofs.Common.{sym, ◌∙◌}
use Rattle.otio_model.specs.Trees.{items_of}
use Rattle.flat_stack.proofs.TrackPlaces.{none_next}
use Rattle.flat_stack.proofs.flat_tracks.first_of.Goals as goal

pub children-preserved : goal.children-preserved
children-preserved c = none_next c.args.kind.now (items_of c.args.children.now) c.children.index c.child.result.now c.children.invariant c.child.ensures (sym c.is_of.ensures ∙ c.if-is_of.false)
