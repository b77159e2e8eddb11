use Rattle.std.proofs.Common.{arith}
use Rattle.flat_stack.proofs.MeasureLemmas.{rounded_high}
use Rattle.flat_stack.proofs.lengths.rounded_up.Goals as goal

pub overflow_mul-result : goal.overflow_mul-result
overflow_mul-result c =
    let h = rounded_high c.args.frame c.args.ticks c.requires.positive c.requires.small c.requires.high in omega (arith, h)

pub returns-clause-high : goal.returns-clause-high
returns-clause-high c = rounded_high c.args.frame c.args.ticks c.requires.positive c.requires.small c.requires.high
