use Rattle.std.proofs.Common.{FitsSigned}
use Rattle.std.proofs.lemmas.Int.{to_z-of_z}
use mir.Syntax.{w128}
use Rattle.tick_time.proofs.Halves.{raised_match, lowered_nearest}
use Rattle.tick_time.proofs.rounding.rounded_size.Goals as goal

pub returns-then-exp-geminus6 : goal.returns-then-exp-geminus6
returns-then-exp-geminus6 c =
    let fits : FitsSigned w128 c.args.exp = c.ranges.exp in
    raised_match c.raised_size.result c.args.digits c.raised_shift.result c.args.exp (simp to_z-of_z at c.raised_shift.ensures) c.raised_size.ensures

pub returns-then-size-le-MOST : goal.returns-then-size-le-MOST
returns-then-size-le-MOST c =
    let fits : FitsSigned w128 c.args.exp = c.ranges.exp in
    (lowered_nearest c.args.digits c.lowered_shift.result c.lowered_size-size.result c.args.exp (simp to_z-of_z at c.lowered_shift.ensures) c.lowered_size-size.ensures, c.if-size-le-MOST.true)

pub returns-else-size-le-MOST : goal.returns-else-size-le-MOST
returns-else-size-le-MOST c =
    let fits : FitsSigned w128 c.args.exp = c.ranges.exp in (
      c.lowered_size-size.result,
      lowered_nearest c.args.digits c.lowered_shift.result c.lowered_size-size.result c.args.exp (simp to_z-of_z at c.lowered_shift.ensures) c.lowered_size-size.ensures,
      c.if-size-le-MOST.false,
    )
