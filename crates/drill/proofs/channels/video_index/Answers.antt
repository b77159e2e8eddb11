use Rattle.std.proofs.Common.{sym, ◌∙◌}
use Rattle.otio_model.specs.Trees.{items_of}
use Rattle.drill.proofs.VideoTracks.{is_found, passed_over}
use Rattle.drill.proofs.channels.video_index.Goals as goal

pub returns-then-is_video-clause-found : goal.returns-then-is_video-clause-found
returns-then-is_video-clause-found c =
    is_found (items_of c.args.children.now) c.children.index c.child.result.now c.child.ensures
    (sym c.is_video.ensures ∙ c.if-is_video.true) c.children.invariant

pub children-preserved : goal.children-preserved
children-preserved c =
    passed_over (items_of c.args.children.now) c.children.index c.child.result.now
    c.child.ensures (sym c.is_video.ensures ∙ c.if-is_video.false) c.children.invariant
