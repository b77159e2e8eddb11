use Rattle.std.proofs.Common.{arith}
use Rattle.std.proofs.lemmas.Str.Parse.{digit_at}
use Rattle.tick_time.proofs.DigitBytes.{pushed}
use Rattle.schema_tab.proofs.Points.{prefix_small}
use Rattle.schema_tab.proofs.schema_names.number_of.Goals as goal

pub overflow_mul-number : goal.overflow_mul-number
overflow_mul-number c =
    omega (arith, prefix_small c.args.digits.now c.loop-digit.digit-index c.requires.digits (omega arith) c.requires.few, c.loop-digit.invariant)

pub overflow_sub-digit : goal.overflow_sub-digit
overflow_sub-digit c = (digit_at c.args.digits.now c.loop-digit.digit-index c.requires.digits (omega arith)).0

pub overflow_add-number : goal.overflow_add-number
overflow_add-number c =
    let r = digit_at c.args.digits.now c.loop-digit.digit-index c.requires.digits (omega arith) in
    omega (arith, prefix_small c.args.digits.now c.loop-digit.digit-index c.requires.digits (omega arith) c.requires.few, r.0, r.1, c.loop-digit.invariant)

pub loop-digit-preserved : goal.loop-digit-preserved
loop-digit-preserved c =
    rw (c.from.ensures, c.loop-digit.invariant) (pushed c.args.digits.now c.loop-digit.digit-index c.requires.digits c.loop-digit-test.true)
