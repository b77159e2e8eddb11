use Rattle.std.proofs.Common.{arith, refl}
use mathlib.Core.Logic.{inl, inr}
use Rattle.tick_time.proofs.Pushes.{power_fits, last_digit}
use Rattle.tick_time.proofs.Exponents.{zeros_fit, exp_fits, exp_is, exp_low, exp_high}
use Rattle.tick_time.proofs.decimals.scaled.Goals as goal

pub invariant_of-result-2-clause-short : goal.invariant_of-result-2-clause-short
invariant_of-result-2-clause-short c = omega (arith, power_fits c.args.tally.count c.args.tally.few, c.args.tally.below)

pub invariant_of-result-2-clause-last : goal.invariant_of-result-2-clause-last
invariant_of-result-2-clause-last c = last_digit c.args.tally.digits c.args.tally.count c.args.tally.below c.args.tally.last

pub returns-then-tally-eq0-clause-scaled : goal.returns-then-tally-eq0-clause-scaled
returns-then-tally-eq0-clause-scaled c = inl refl

pub overflow_cast-result : goal.overflow_cast-result
overflow_cast-result c = zeros_fit c.args.tally.zeros c.requires.zeros

pub overflow_add-result : goal.overflow_add-result
overflow_add-result c =
    exp_fits c.args.tally.zeros c.args.offset c.requires.zeros c.requires.low
    c.requires.high c.ranges.offset

pub invariant_of-result-2-clause-plain_zero : goal.invariant_of-result-2-clause-plain_zero
invariant_of-result-2-clause-plain_zero c = λ e. absurd (c.if-tally-eq0.false e)

pub invariant_of-result-2-clause-unsigned_zero : goal.invariant_of-result-2-clause-unsigned_zero
invariant_of-result-2-clause-unsigned_zero c = λ e. absurd (c.if-tally-eq0.false e)

pub invariant_of-result-2-clause-low : goal.invariant_of-result-2-clause-low
invariant_of-result-2-clause-low c =
    exp_low c.args.tally.zeros c.args.offset c.requires.zeros c.requires.low
    c.requires.high c.ranges.offset

pub invariant_of-result-2-clause-high : goal.invariant_of-result-2-clause-high
invariant_of-result-2-clause-high c =
    exp_high c.args.tally.zeros c.args.offset c.requires.zeros c.requires.low
    c.requires.high c.ranges.offset

pub returns-clause-scaled : goal.returns-clause-scaled
returns-clause-scaled c =
    inr (
      refl,
      exp_is c.args.tally.zeros c.args.offset c.requires.zeros c.requires.low
          c.requires.high c.ranges.offset,
    )
