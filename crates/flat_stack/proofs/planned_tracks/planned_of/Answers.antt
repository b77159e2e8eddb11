use Rattle.edits.specs.Children.{all_made}
use Rattle.flat_stack.specs.Inputs.{children_from, inputs_of, slot_of}
use Rattle.flat_stack.specs.Portions.{portions_items}
use Rattle.flat_stack.proofs.JoinedTracks.{planned_is}
use Rattle.flat_stack.proofs.planned_tracks.planned_of.Goals as goal

pub returns : goal.returns
returns c =
    planned_is (all_made c.args.rate (children_from (slot_of c.args.seat) c.args.givers.now.parts.now))
    c.args.seat.first.now c.in_ok-track.track
    (portions_items (inputs_of c.args.givers.now.parts.now) c.in_ok-portions.portions.items)
    c.in_ok-portions.ensures c.in_ok-track.ensures
