use Rattle.otio_model.specs.Trees.{items_of}
use Rattle.flat_stack.proofs.TrackPlaces.{placed}
use Rattle.flat_stack.proofs.flat_tracks.in_place.Goals as goal

pub returns : goal.returns
returns c =
    placed c.args.kind.now c.args.flat (items_of c.args.children.now) _ c.copy_others.new.all.items
    c.args.first c.requires.first c.in_ok-all.ensures c.in_ok-copy_others.ensures
