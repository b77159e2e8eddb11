use Rattle.std.proofs.Common.{arith, of_z, to_z}
use mir.Syntax.{w64, w128}
use Rattle.std.proofs.lemmas.Int.{ints}
use Rattle.edit_ops.proofs.Kept.{begun-kept}
use Rattle.edit_ops.proofs.Beginning.{begins_as, negative, nowhere}
use Rattle.edit_ops.proofs.edit_start.begin.Goals as goal

pub returns-in-Some-clause-fault : goal.returns-in-Some-clause-fault
returns-in-Some-clause-fault c = λ e a b.
    nowhere c.args.timeline.now c.args.place.now c.args.at _ _ c.place_fault.ensures c.in-Some.is
    e a b

pub returns-then-at-lt0-clause-fault : goal.returns-then-at-lt0-clause-fault
returns-then-at-lt0-clause-fault c = λ e a b.
    negative c.args.timeline.now c.args.place.now c.args.at _ c.place_fault.ensures c.in-None.is
    (omega (arith, ints)) e a b

pub returns-clause-begun : goal.returns-clause-begun
returns-clause-begun c =
    let b = begins_as c.args.timeline.now c.args.place.now c.args.at _ c.edit_rate-rate.result
    (to_z w64 (of_z w64 c.args.at)) (to_z w128 (of_z w128 c.frame_at.result)) c.frame_at.result
    c.frames-instant.result c.place_fault.ensures c.in-None.is (omega (arith, ints))
    c.edit_rate-rate.ensures (c.frame_at.ensures.value c.args.timeline.now c.edit_rate-rate.ensures)
    c.frames-instant.ensures.value (omega (arith, ints, c.ranges.at)) (omega (arith, ints))
    c.frames-instant.ensures.low c.frames-instant.ensures.high in
    begun-kept _ _ _ _ _ b
