use Rattle.std.proofs.Common.{FitsSigned, w64}
use Rattle.std.proofs.lemmas.Int.{to_z-of_z}
use Rattle.edit_script.proofs.Puts.{near_count, near_ticks}
use Rattle.edit_script.proofs.items.span.Goals as goal

pub of_frames-requires-clause-starts : goal.of_frames-requires-clause-starts
of_frames-requires-clause-starts c =
    let start : FitsSigned w64 c.args.start = c.ranges.start in
    simp to_z-of_z (near_ticks c.args.start_rate c.args.start c.requires.starts)

pub of_frames-requires-clause-lasts : goal.of_frames-requires-clause-lasts
of_frames-requires-clause-lasts c =
    let length : FitsSigned w64 c.args.length = c.ranges.length in
    simp to_z-of_z (near_count c.args.length_rate c.args.length c.requires.lasts)

pub returns : goal.returns
returns c =
    let start : FitsSigned w64 c.args.start = c.ranges.start in
    let length : FitsSigned w64 c.args.length = c.ranges.length in
    simp to_z-of_z at c.of_frames.ensures
