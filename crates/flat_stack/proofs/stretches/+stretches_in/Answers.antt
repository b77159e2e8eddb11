use Rattle.std.proofs.Common.{arith, sym, subst, take, pos, drop, ◌+◌, ◌-◌, ◌/◌}
use Rattle.std.proofs.lemmas.Int.{to_z-of_z}
use Rattle.otio_model.specs.Trees.{items_of}
use Rattle.otio_model.proofs.LengthLimits.{few_enough}
use Rattle.coord.proofs.Members.{child_few, next}
use Rattle.flat.specs.Pieces.{giver}
use Rattle.flat_stack.specs.Runs.{AreRuns}
use Rattle.pieces.proofs.Inner.{root_faultless}
use Rattle.flat_stack.proofs.RunLemmas.{none_runs, one_runs, half_runs}
use Rattle.flat_stack.proofs.stretches.+stretches_in.Goals as goal

pub overflow_add-back : goal.overflow_add-back
overflow_add-back t c = let k = few_enough c.args.children.now c.requires.few in let m = c.requires.there in omega (arith, k, m)

pub returns-then-among-eq0 : goal.returns-then-among-eq0
returns-then-among-eq0 t c =
    let fits = c.ranges.end in
    none_runs (items_of c.args.children.now) (drop c.args.among.from (items_of c.args.children.now)) c.args.kind.now c.args.among.from c.args.among.count c.args.end c.in_ok-all.all.items c.if-among-eq0.true (simp to_z-of_z at (c.in_ok-all.ensures (items_of c.args.children.now)))

pub layer_stretches-requires-clause-few : goal.layer_stretches-requires-clause-few
layer_stretches-requires-clause-few t c = child_few c.args.children.now c.args.among.from c.child.result.now c.child.ensures c.requires.few

pub layer_stretches-requires-clause-faultless : goal.layer_stretches-requires-clause-faultless
layer_stretches-requires-clause-faultless t c = root_faultless c.args.children.now c.args.among.from c.child.result.now c.requires.faultless c.child.ensures

pub returns-then-among-eq1 : goal.returns-then-among-eq1
returns-then-among-eq1 t c =
    let fits = c.ranges.end in
    one_runs (items_of c.args.children.now) (drop c.args.among.from (items_of c.args.children.now)) (drop (c.args.among.from + 1) (items_of c.args.children.now)) c.args.kind.now c.args.among.from c.args.among.count c.args.end c.child.result.now c.in_ok-all-2.all.items c.if-among-eq1.true (next (items_of c.args.children.now) c.args.among.from c.child.result.now c.child.ensures) (simp to_z-of_z at (c.in_ok-all-2.ensures (items_of c.args.children.now) c.child.ensures))

pub stretches_in-requires : goal.stretches_in-requires
stretches_in-requires t c =
    let fits = c.ranges.end in
    let m = c.requires.there in
    (omega (arith, c.decreases), (c.requires.few, (c.requires.faultless, (omega (arith, m), (simp to_z-of_z c.requires.low, simp to_z-of_z c.requires.high)))))

pub stretches_in-requires-2 : goal.stretches_in-requires-2
stretches_in-requires-2 t c =
    let fits = c.ranges.end in
    let m = c.requires.there in
    (omega (arith, c.decreases), (c.requires.few, (c.requires.faultless, (omega (arith, m), (simp to_z-of_z c.requires.low, simp to_z-of_z c.requires.high)))))

pub returns : goal.returns
returns t c =
    let fits = c.ranges.end in
    let lower = simp to_z-of_z at c.in_ok-lower.ensures in
    let upper = simp to_z-of_z at c.in_ok-upper.ensures in
    half_runs (items_of c.args.children.now) c.args.kind.now c.args.among.from (c.args.among.count / 2) (c.args.among.count - c.args.among.count / 2) c.args.among.count c.args.end c.as_slice.result.now c.as_slice-2.result.now c.in_ok-all-3.all.items (omega arith) c.requires.there
    (subst (AreRuns (items_of c.args.children.now) (giver c.args.among.from c.args.kind.now (take (c.args.among.count / 2) (drop c.args.among.from (items_of c.args.children.now)))) c.args.end (pos 0)) (sym c.as_slice-2.ensures.value) lower)
    (subst (AreRuns (items_of c.args.children.now) (giver (c.args.among.from + c.args.among.count / 2) c.args.kind.now (take (c.args.among.count - c.args.among.count / 2) (drop (c.args.among.from + c.args.among.count / 2) (items_of c.args.children.now)))) c.args.end (pos 0)) (sym c.as_slice.ensures.value) upper)
    c.in_ok-all-3.ensures
