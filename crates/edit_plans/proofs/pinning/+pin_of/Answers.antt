use Rattle.std.proofs.Common.{arith, sym, ◌∙◌}
use Rattle.coord.proofs.Members.{got_below}
use Rattle.edit_plans.proofs.PinLemmas.{free_end, free_none, free_out, free_in}
use Rattle.edit_plans.proofs.pinning.+pin_of.Goals as goal

pub overflow_add-depth : goal.overflow_add-depth
overflow_add-depth t c = let k = got_below c.args.place.now c.args.depth c.in-Some.index
    (sym c.in-Some.ensures) in omega (arith, k, c.requires.short)

pub overflow_add-depth-in-Some-item : goal.overflow_add-depth-in-Some-item
overflow_add-depth-in-Some-item t c = let k = got_below c.args.place.now c.args.depth
    c.in-Some.index (sym c.in-Some.ensures) in omega (arith, k, c.requires.short)

pub pin_of-requires : goal.pin_of-requires
pin_of-requires t c = let k = got_below c.args.place.now c.args.depth c.in-Some.index
    (sym c.in-Some.ensures) in (omega (arith, k, c.decreases), (omega (arith, k), c.requires.short))

pub returns-in-None : goal.returns-in-None
returns-in-None t c = c.own_range.ensures c.args.place.now
    ∙ free_end c.args.place.now c.args.depth c.args.item.now c.in-None.ensures

pub returns-in-None-children : goal.returns-in-None-children
returns-in-None-children t c = free_none c.args.place.now c.args.depth _ c.args.item.now
    c.in-Some.ensures (sym c.in-None-children.ensures)

pub returns-in-None-item : goal.returns-in-None-item
returns-in-None-item t c = free_out c.args.place.now c.args.depth _ c.args.item.now _
    c.in-Some.ensures (sym c.in-Some-children.ensures) (sym c.in-None-item.ensures)

pub returns-in-Some-item : goal.returns-in-Some-item
returns-in-Some-item t c = free_in c.args.place.now c.args.depth _ c.args.item.now _ _ _ _
    c.in-Some.ensures (sym c.in-Some-children.ensures) (sym c.in-Some-item.ensures) c.pin_of.ensures
    (c.above.ensures c.args.place.now)
