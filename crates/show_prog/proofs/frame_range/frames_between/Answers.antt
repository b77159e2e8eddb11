use Rattle.std.proofs.Common.{◌≡◌, ◌∙◌, ap, false, min, pos, ◌-ℤ◌, ◌≤ℤ◌, FitsSigned, arith}
use Rattle.std.specs.Prelude.{int_le, unsigned_abs}
use Rattle.std.specs.Int.{w128}
use Rattle.std.proofs.lemmas.Int.{ints, to_z-of_z}
use Rattle.show_prog.proofs.EndFrames.{gap_fits, gap_more, none_between}
use Rattle.show_prog.proofs.frame_range.frames_between.Goals as goal

pub returns-then-end-from : goal.returns-then-end-from
returns-then-end-from c =
    let from = c.ranges.from in
    let end = c.ranges.end in
    none_between c.args.from c.args.end (simp to_z-of_z at c.if-end-from.true)

pub overflow_sub-end : goal.overflow_sub-end
overflow_sub-end c =
    let from = c.ranges.from in
    let end = c.ranges.end in
    let r = c.requires in
    simp to_z-of_z (gap_fits c.args.from c.args.end r.first r.last r.low r.high)

pub at_most_listed-requires : goal.at_most_listed-requires
at_most_listed-requires c =
    let from = c.ranges.from in
    let end = c.ranges.end in
    let r = c.requires in
    let fits : FitsSigned w128 (c.args.end -ℤ c.args.from) =
    gap_fits c.args.from c.args.end r.first r.last r.low r.high in
    let before : int_le c.args.end c.args.from ≡ false = simp to_z-of_z at c.if-end-from.false in
    let some : pos 0 ≤ℤ (c.args.end -ℤ c.args.from) = omega (arith, ints, before) in
    simp to_z-of_z some

pub returns : goal.returns
returns c =
    let from = c.ranges.from in
    let end = c.ranges.end in
    let r = c.requires in
    let fits : FitsSigned w128 (c.args.end -ℤ c.args.from) =
    gap_fits c.args.from c.args.end r.first r.last r.low r.high in
    let before : int_le c.args.end c.args.from ≡ false = simp to_z-of_z at c.if-end-from.false in
    let least = simp to_z-of_z at c.at_most_listed.ensures in
    least ∙ ap (min 100000) (gap_more c.args.from c.args.end before)
