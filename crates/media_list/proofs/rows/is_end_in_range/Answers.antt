use Rattle.std.proofs.Common.{FitsSigned, w64}
use Rattle.std.proofs.lemmas.Int.{to_z-of_z}
use Rattle.media_list.proofs.SpanLemmas.{range_told}
use Rattle.media_list.proofs.rows.is_end_in_range.Goals as goal

pub returns : goal.returns
returns c =
    let fits : FitsSigned w64 c.args.end = c.ranges.end in
    let ticks = simp to_z-of_z at c.frames.ensures.ticks in
    let fault = simp to_z-of_z at c.frames.ensures.fault in
    range_told _ _ c.frames.result c.is_ok.result c.is_ok.ensures.value ticks fault
