use Rattle.std.proofs.Common.{◌≡◌, ◌+◌, ◌-◌, ◌*◌, ◌/◌, ◌%◌, ◌++◌, ◌∷◌, [], suc, arith, ap, ◌∙◌, length, length-append}
use Rattle.tick_time.specs.Texts.{decimals_of}
use Rattle.tick_time.proofs.Places.{next_decimal, last_decimal, no_decimals}
use Rattle.tick_time.proofs.texts.push_decimals.Goals as goal

pub decimals-preserved : goal.decimals-preserved
decimals-preserved c =
    let left : 6 - c.decimals.counter ≡ suc (6 - (c.decimals.counter + 1)) = omega arith in
    record {
      done = ap (λ x. x ++ decimals_of (6 - (c.decimals.counter + 1)) (c.decimals.rest % 100000 * 10)) c.push_ascii.ensures ∙ next_decimal _ _ c.decimals.rest c.decimals.text.bytes left c.if-rest-eq0.false ∙ c.decimals.invariant.done;
      small = omega arith;
      room = omega (arith, ap length c.push_ascii.ensures, length-append c.decimals.text.bytes ((48 + c.decimals.rest / 100000) ∷ []));
    }

pub returns-then-rest-eq0 : goal.returns-then-rest-eq0
returns-then-rest-eq0 c =
    let left : 6 - c.decimals.counter ≡ suc (6 - (c.decimals.counter + 1)) = omega arith in
    c.push_ascii.ensures ∙ last_decimal _ _ c.decimals.rest c.decimals.text.bytes left c.if-rest-eq0.true ∙ c.decimals.invariant.done

pub returns : goal.returns
returns c = no_decimals (6 - c.decimals.counter) c.decimals.rest c.decimals.text.bytes (omega arith) ∙ c.decimals.invariant.done
