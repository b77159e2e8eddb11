use Rattle.std.proofs.Common.{refl, ◌∙◌}
use Rattle.tick_time.proofs.Orders.{near_both, far_below}
use Rattle.tick_time.proofs.ratios.is_near_count.Goals as goal

pub returns-then-at_most : goal.returns-then-at_most
returns-then-at_most c = near_both _ c.args.top c.args.bottom c.args.count c.requires.low (c.if-at_most.ensures.0 refl) c.at_most-then-at_most.ensures

pub returns-else-at_most : goal.returns-else-at_most
returns-else-at_most c = c.if-at_most.false ∙ far_below c.args.top c.args.bottom c.args.count c.requires.low c.if-at_most.ensures.1
