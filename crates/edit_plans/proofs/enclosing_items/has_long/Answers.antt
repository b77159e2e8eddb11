use Rattle.edit_plans.proofs.WayLemmas.{long_next}
use Rattle.edit_plans.proofs.enclosing_items.has_long.Goals as goal

pub items-preserved : goal.items-preserved
items-preserved c = long_next c.args.list.now c.items.index c.member.result.now
    c.is_long_item.result c.items.invariant c.member.ensures c.is_long_item.ensures
    c.if-is_long_item.false
