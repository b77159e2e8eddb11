use Rattle.std.proofs.Common.{◌∙◌, ap, sym}
use Rattle.smpte_tc.specs.PointFrames.{point_frame_at}
use Rattle.coord.specs.Looks.{FrameRate}
use Rattle.show_prog.specs.Rows.{first_frame}
use Rattle.show_prog.proofs.frame_range.first_frame.Goals as goal

pub returns-in-Some : goal.returns-in-Some
returns-in-Some c =
    c.frame_at.ensures.frame
    ∙ ap (λ (r : FrameRate). point_frame_at r.num r.den c.in-Some.point) c.record_rate.ensures
    ∙ ap (first_frame c.args.timeline.now) (sym c.in-Some.is)
