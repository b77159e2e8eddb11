use Rattle.std.proofs.Common.{FitsSigned, w64}
use Rattle.std.proofs.lemmas.Int.{to_z-of_z}
use Rattle.tick_time.specs.Frames.{IsFrames}
use Rattle.tick_time.proofs.FrameSpans.{frames-from_zero}
use Rattle.tick_time.proofs.spans.Span.of_frames.Goals as goal

pub of_frames-requires : goal.of_frames-requires
of_frames-requires c =
    let start : FitsSigned w64 c.args.start = c.ranges.start in
    simp to_z-of_z (record { range = c.requires.starts })

pub of_frames-requires-2 : goal.of_frames-requires-2
of_frames-requires-2 c =
    let length : FitsSigned w64 c.args.length = c.ranges.length in
    simp to_z-of_z (record { range = c.requires.lasts })

pub invariant_of-result : goal.invariant_of-result
invariant_of-result c =
    let length : FitsSigned w64 c.args.length = c.ranges.length in
    let long : IsFrames c.args.length_rate c.args.length c.of_frames-2.result =
    simp to_z-of_z at c.of_frames-2.ensures in
    record { forward = frames-from_zero c.args.length_rate c.args.length _ c.requires.forward long }

pub returns : goal.returns
returns c =
    let start : FitsSigned w64 c.args.start = c.ranges.start in
    let length : FitsSigned w64 c.args.length = c.ranges.length in
    let from : IsFrames c.args.start_rate c.args.start c.of_frames.result =
    simp to_z-of_z at c.of_frames.ensures in
    let long : IsFrames c.args.length_rate c.args.length c.of_frames-2.result =
    simp to_z-of_z at c.of_frames-2.ensures in
    record { from = from; long = long }
