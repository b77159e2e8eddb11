use Rattle.std.proofs.Common.{FitsSigned, w64}
use Rattle.std.proofs.lemmas.Int.{to_z-of_z}
use Rattle.tick_time.specs.Frames.{IsFrameSpan}
use Rattle.edl_conform.proofs.times.span.Goals as goal

pub returns : goal.returns
returns c =
    let start : FitsSigned w64 c.args.start = c.ranges.start in
    let count : FitsSigned w64 c.args.count = c.ranges.count in
    let s : IsFrameSpan c.args.rate c.args.start c.args.rate c.args.count c.of_frames.result =
    simp to_z-of_z at c.of_frames.ensures in
    record { from = s.from; long = s.long }
