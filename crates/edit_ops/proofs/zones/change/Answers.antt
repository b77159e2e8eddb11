use Rattle.std.proofs.Common.{arith, of_z, to_z}
use mir.Syntax.{w128}
use Rattle.std.proofs.lemmas.Int.{ints}
use Rattle.edit_ops.proofs.Totals.{change_as}
use Rattle.edit_ops.proofs.zones.change.Goals as goal

pub returns : goal.returns
returns c =
    let q = c.args.slot in
    change_as c.args.total q.from q.ticks q.to (to_z w128 (of_z w128 c.args.total))
    (to_z w128 (of_z w128 q.to)) c.ticks_before.result _ c.ticks_before.ensures.value
    (omega (arith, ints, c.ranges.total))
    (omega (arith, ints, q.from_low, q.forward, q.to_high))
    (omega (
      arith,
      ints,
      q.from_low,
      q.from_high,
      q.low,
      q.high,
      c.ticks_before.ensures.low,
    ))
