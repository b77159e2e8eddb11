use Rattle.std.proofs.Common.{arith}
use Rattle.std.proofs.lemmas.Int.{ints}
use Rattle.edit_plans.proofs.Holding.{all_held, none_held}
use Rattle.edit_plans.proofs.touched_children.held.Goals as goal

pub returns-clause-held : goal.returns-clause-held
returns-clause-held c =
    all_held c.args.children.now _ c.args.instant c.holder.result c.holder.ensures.found
    (omega (arith, ints, c.ranges.instant))

pub returns-clause-none : goal.returns-clause-none
returns-clause-none c =
    none_held c.args.children.now _ c.args.instant c.holder.result c.holder.ensures.none
    (omega (arith, ints, c.ranges.instant))
