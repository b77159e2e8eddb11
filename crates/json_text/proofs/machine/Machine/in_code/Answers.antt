use Rattle.json_text.proofs.DigitTests.{is_below, is_no_less}
use Rattle.json_text.proofs.machine.Machine.in_code.Goals as goal

pub returns-then-digit-ge16 : goal.returns-then-digit-ge16
returns-then-digit-ge16 c =
    let same = c.digit_value-digit.ensures.value in
    rw (is_no_less 16 _ c.args.byte same c.if-digit-ge16.true) c.refused.ensures

pub returns-in-Zero : goal.returns-in-Zero
returns-in-Zero c =
    let digit = is_below 16 _ c.args.byte c.digit_value-digit.ensures.value c.if-digit-ge16.false in
    rw c.in-Zero.is (rw digit c.text_goes.ensures)

pub returns-in-One : goal.returns-in-One
returns-in-One c =
    let digit = is_below 16 _ c.args.byte c.digit_value-digit.ensures.value c.if-digit-ge16.false in
    rw c.in-One.is (rw digit c.second_digit.ensures)

pub returns-in-Two : goal.returns-in-Two
returns-in-Two c =
    let digit = is_below 16 _ c.args.byte c.digit_value-digit.ensures.value c.if-digit-ge16.false in
    rw c.in-Two.is (rw digit c.text_goes-in-Two.ensures)

pub returns-in-Three : goal.returns-in-Three
returns-in-Three c =
    let digit = is_below 16 _ c.args.byte c.digit_value-digit.ensures.value c.if-digit-ge16.false in
    let done = rw c.of_digits16.ensures.value at c.coded.ensures in
    rw c.in-Three.is (rw digit done)
