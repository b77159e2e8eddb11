use Rattle.std.proofs.Common.{arith}
use Rattle.schema_tab.proofs.Counting.{objects_more}
use Rattle.schema_tab.proofs.counts.+objects.Goals as goal

pub after_objects-left_after-requires : goal.after_objects-left_after-requires
after_objects-left_after-requires t c =
    let more = objects_more c.args.objects.now c.loop-object.object-index c.object-item.result c.loop-object-test.true c.object-item.is in
    (omega (arith, c.decreases, more.2), tt)

pub after_objects-returns-in_err-left : goal.after_objects-returns-in_err-left
after_objects-returns-in_err-left t c =
    let more = objects_more c.args.objects.now c.loop-object.object-index c.object-item.result c.loop-object-test.true c.object-item.is in
    rw c.from_residual.ensures (omega (arith, more.1, c.loop-object.invariant, c.in_err-left.ensures))

pub after_objects-loop-object-preserved : goal.after_objects-loop-object-preserved
after_objects-loop-object-preserved t c =
    let more = objects_more c.args.objects.now c.loop-object.object-index c.object-item.result c.loop-object-test.true c.object-item.is in
    omega (arith, more.0, c.loop-object.invariant, c.in_ok-left.ensures)
