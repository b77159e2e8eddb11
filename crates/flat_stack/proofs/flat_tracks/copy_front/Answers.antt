use Rattle.otio_model.specs.Trees.{items_of}
use Rattle.flat_stack.proofs.TrackPlaces.{front_more}
use Rattle.flat_stack.proofs.flat_tracks.copy_front.Goals as goal

pub children-preserved : goal.children-preserved
children-preserved c = front_more (items_of c.args.children.now) c.children.front.items c.push.new.self.items c.children.index c.child.result.now c.in_ok-copy_item.field-0 c.children.invariant c.child.ensures c.in_ok-copy_item.ensures c.in_ok-push.ensures.items
