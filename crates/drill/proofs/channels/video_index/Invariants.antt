-- No child so far is a track of kind Video.
use Rattle.std.proofs.Common.{◌≡◌}
use Rattle.otio_model.specs.Trees.{items_of}
use Rattle.edl_list.specs.declared.list.Channel.TheVariants.{V}
use Rattle.edl_frames.specs.Channels.{channel_track}
use Rattle.drill.proofs.VideoTracks.{from_here}
use Rattle.drill.proofs.channels.video_index.Given as goal

abbrev pub invariant-children : goal.invariant-children
invariant-children l =
    channel_track V (items_of l.children) ≡ from_here (items_of l.children) l.index
