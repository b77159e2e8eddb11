use Rattle.std.proofs.Common.{rules, arith, ap₂, sym, ◌≡◌, ◌<◌, ◌∙◌, ◌+◌, ◌*◌, true, ◌&&◌, get_or}
use Rattle.std.proofs.lemmas.Int.Digits.{digits_value_more}
use Rattle.std.proofs.lemmas.List.Folds.{list_all_more}
use Rattle.std.specs.Char.{is_ascii_digit}
use Rattle.schema_up.proofs.Digits.{small, digit_is}
use Rattle.schema_up.proofs.old_names.version_of.Goals as goal

pub overflow_mul-version : goal.overflow_mul-version
overflow_mul-version c =
    let below = small c.args.digits.now c.loop-digit.digit-index (omega arith) (omega arith) c.loop-digit.invariant.digits in
    omega (arith, below, c.loop-digit.invariant.number)

pub overflow_add-version : goal.overflow_add-version
overflow_add-version c =
    let below = small c.args.digits.now c.loop-digit.digit-index (omega arith) (omega arith) c.loop-digit.invariant.digits in
    let digit : c.from.result < 256 = search rules in
    omega (arith, below, c.loop-digit.invariant.number)

pub loop-digit-preserved : goal.loop-digit-preserved
loop-digit-preserved c =
    let ds = c.args.digits.now in
    let i = c.loop-digit.digit-index in
    let digit : is_ascii_digit (get_or ds i 0) ≡ true = sym c.is_ascii_digit.ensures.value ∙ c.if-not-is_ascii_digit.false in
    record {
      digits = list_all_more is_ascii_digit ds i 0 c.loop-digit-test.true ∙ ap₂ (λ p q. p && q) c.loop-digit.invariant.digits digit;
      number = ap₂ (λ n d. n * 10 + d) c.loop-digit.invariant.number (c.from.ensures ∙ digit_is (get_or ds i 0) digit) ∙ sym (digits_value_more 10 ds i c.loop-digit-test.true);
    }
