use Rattle.std.proofs.Common.{◌∙◌, sym, ap, ◌==◌, refl}
use Rattle.json_text.specs.Grammar.{joined}
use Rattle.json_text.proofs.DigitTests.{is_below, is_no_less, is_above, is_no_more, is_other}
use Rattle.json_text.proofs.machine.Machine.in_low.Goals as goal

pub joined-requires : goal.joined-requires
joined-requires c = c.of_digits16.ensures.small

pub returns-then-digit-ge16 : goal.returns-then-digit-ge16
returns-then-digit-ge16 c =
    let same = c.digit_value-digit.ensures.value in
    rw (is_no_less 16 _ c.args.byte same c.if-digit-ge16.true) c.refused.ensures

pub returns-in-Zero : goal.returns-in-Zero
returns-in-Zero c =
    let same = c.digit_value-digit.ensures.value in
    let digit = is_below 16 _ c.args.byte same c.if-digit-ge16.false in
    let test = is_other 13 _ c.args.byte same c.if-digit-ne13.true in
    rw c.in-Zero.is (rw digit (rw test refl))

pub returns-in-Zero-2 : goal.returns-in-Zero-2
returns-in-Zero-2 c =
    let same = c.digit_value-digit.ensures.value in
    let digit = is_below 16 _ c.args.byte same c.if-digit-ge16.false in
    let test = ap (λ d. d == 13) (sym same ∙ c.if-digit-ne13.false) in
    rw c.in-Zero-2.is (rw digit (rw test c.text_goes.ensures))

pub returns-in-One : goal.returns-in-One
returns-in-One c =
    let same = c.digit_value-digit.ensures.value in
    let digit = is_below 16 _ c.args.byte same c.if-digit-ge16.false in
    let test = is_no_more 11 _ c.args.byte same c.if-digit-lt12.true in
    rw c.in-One.is (rw digit (rw test refl))

pub returns-in-One-2 : goal.returns-in-One-2
returns-in-One-2 c =
    let same = c.digit_value-digit.ensures.value in
    let digit = is_below 16 _ c.args.byte same c.if-digit-ge16.false in
    let test = is_above 11 _ c.args.byte same c.if-digit-lt12.false in
    rw c.in-One-2.is (rw digit (rw test c.text_goes-in-One-2.ensures))

pub returns-in-Two : goal.returns-in-Two
returns-in-Two c =
    let same = c.digit_value-digit.ensures.value in
    let digit = is_below 16 _ c.args.byte same c.if-digit-ge16.false in
    rw c.in-Two.is (rw digit c.text_goes-in-Two.ensures)

pub returns-in-Three : goal.returns-in-Three
returns-in-Three c =
    let same = c.digit_value-digit.ensures.value in
    let digit = is_below 16 _ c.args.byte same c.if-digit-ge16.false in
    let code = c.joined.ensures ∙ ap (λ low. joined c.args.high low) c.of_digits16.ensures.value in
    let done = rw code at c.paired.ensures in
    rw c.in-Three.is (rw digit done)
