use Rattle.std.proofs.Common.{arith}
use Rattle.std.proofs.lemmas.Int.{ints}
use Rattle.coord.proofs.ShortItems.{is_short}
use Rattle.edit_plans.proofs.child_at.ticks_of.Goals as goal

pub returns-clause-high : goal.returns-clause-high
returns-clause-high c =
    let k = (is_short c.args.item.now c.requires.sound).ticks in
    let e = c.length_or_zero.ensures in omega (arith, ints)
