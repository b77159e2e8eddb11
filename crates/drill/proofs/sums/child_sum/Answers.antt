use Rattle.std.proofs.Common.{◌<◌, ℤ, FitsSigned, to_z, rules}
use Rattle.std.specs.Int.{w128}
use Rattle.std.proofs.lemmas.Int.{to_z-of_z}
use Rattle.coord.specs.Images.{image}
use Rattle.coord.specs.Programs.{program}
use Rattle.drill.proofs.SumLemmas.{one_more, wide_sum, stops}
use Rattle.drill.proofs.sums.child_sum.Goals as goal

pub frames-preserved : goal.frames-preserved
frames-preserved c =
    let fits : FitsSigned w128 c.args.first = c.ranges.first in
    let frame : FitsSigned w128 c.in_ok-frame.frame = search rules in
    let here : FitsSigned w128 c.in_ok-here.here = search rules in
    let next : FitsSigned w128 c.in_ok-total.total = search rules in
    simp to_z-of_z (one_more
    (λ (frame : ℤ). image (program c.args.timeline.now c.args.child frame)) c.args.first
    (to_z w128 c.frames.total-bits) c.in_ok-frame.frame c.in_ok-here.here c.in_ok-total.total
    c.frames.index (simp to_z-of_z at c.frames.invariant)
    (simp to_z-of_z at c.in_ok-frame.ensures.frame) (simp to_z-of_z at c.in_ok-here.ensures.sum)
    (simp to_z-of_z at c.in_ok-total.ensures.sum))

pub returns-in_err-total-clause-memory : goal.returns-in_err-total-clause-memory
returns-in_err-total-clause-memory c =
    let fits : FitsSigned w128 c.args.first = c.ranges.first in
    let frame : FitsSigned w128 c.in_ok-frame.frame = search rules in
    let here : FitsSigned w128 c.in_ok-here.here = search rules in
    let less : c.frames.index < c.args.count = search rules in
    stops c.from_residual-in_err-total.result _
    (wide_sum c.args.timeline.now c.args.child c.args.first (to_z w128 c.frames.total-bits)
    c.in_ok-frame.frame c.in_ok-here.here c.args.count c.frames.index less
    (simp to_z-of_z at c.frames.invariant) (simp to_z-of_z at c.in_ok-frame.ensures.frame)
    (simp to_z-of_z at c.in_ok-here.ensures.sum) (simp to_z-of_z at c.in_err-total.ensures.wide))
