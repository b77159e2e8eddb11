use Rattle.std.proofs.Common.{arith}
use Rattle.otio_model.proofs.LengthLimits.{short_enough}
use Rattle.coord.proofs.Members.{child_few}
use Rattle.edit_plans.proofs.WayLemmas.{child_within, sum_is}
use Rattle.edit_plans.proofs.enclosing_items.sum_with.Goals as goal

pub known_ticks-old-requires : goal.known_ticks-old-requires
known_ticks-old-requires c = child_few c.args.children.now c.args.index c.child.result.now
    c.child.ensures c.requires.few

pub overflow_sub-result : goal.overflow_sub-result
overflow_sub-result c = let k = child_within c.args.children.now c.args.index c.child.result.now
    c.child.ensures in omega (arith, k, c.known_ticks-old.ensures, c.added_ticks.ensures)

pub overflow_add-result : goal.overflow_add-result
overflow_add-result c = let k = short_enough c.args.children.now c.requires.few in
    omega (arith, k, c.added_ticks.ensures, c.requires.ticks)

pub returns : goal.returns
returns c =
    let k = child_within c.args.children.now c.args.index c.child.result.now c.child.ensures in
    let e = sum_is c.args.children.now c.args.index c.args.ticks c.child.result.now c.child.ensures
    in
    omega (arith, k, e, c.known_ticks-old.ensures, c.added_ticks.ensures)
