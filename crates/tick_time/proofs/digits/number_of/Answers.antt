use Rattle.std.proofs.Common.{arith}
use Rattle.std.proofs.lemmas.Str.Parse.{digit_at, digits_value-take-le}
use Rattle.tick_time.proofs.DigitBytes.{pushed, short_below, one_more_below}
use Rattle.tick_time.proofs.digits.number_of.Goals as goal

pub overflow_mul-number : goal.overflow_mul-number
overflow_mul-number c =
    omega (
      arith,
      one_more_below c.args.digits.now c.digits.digit-index c.requires.digits c.requires.few
          (omega arith),
      c.digits.invariant,
    )

pub overflow_sub-digit : goal.overflow_sub-digit
overflow_sub-digit c =
    (digit_at c.args.digits.now c.digits.digit-index c.requires.digits (omega arith)).0

pub overflow_add-number : goal.overflow_add-number
overflow_add-number c =
    omega (
      arith,
      one_more_below c.args.digits.now c.digits.digit-index c.requires.digits c.requires.few
          (omega arith),
      c.digits.invariant,
      c.from.ensures,
    )

pub digits-preserved : goal.digits-preserved
digits-preserved c =
    omega (
      arith,
      pushed c.args.digits.now c.digits.digit-index c.requires.digits (omega arith),
      c.digits.invariant,
      c.from.ensures,
    )

pub returns-clause-bound : goal.returns-clause-bound
returns-clause-bound c =
    omega (
      arith,
      c.digits.invariant,
      short_below c.args.digits.now c.requires.digits c.requires.few,
      digits_value-take-le 10 c.args.digits.now c.digits.digit-index (omega arith),
    )
