use Rattle.std.proofs.Common.{rules}
use Rattle.tick_time.proofs.RateWordLemmas.{given_rate, rate_given}
use Rattle.tick_time.proofs.rate_words.rate_of.Goals as goal

pub returns-in-Ok-of : goal.returns-in-Ok-of
returns-in-Ok-of c =
    let v = c.in-Ok.ensures.value in
    let r = c.in-Ok-of.ensures.rate in
    let n = c.if-not-is_numeral.ensures in
    record {
      numeral = n.0 (search rules);
      short = λ number spells long. let e = c.in-Ok.ensures.short number spells long in cc;
      gives = λ number spells. given_rate _ _ _ _ _ number (v number spells) r;
    }

pub returns-in-Err : goal.returns-in-Err
returns-in-Err c = λ rate word.
    let number = word.numeral.0 in
    let spells = word.numeral.1 in
    c.in-Err.ensures.fault.1 rate.num rate.den
    (rate_given _ _ _ _ _ number (c.in-Ok.ensures.value number spells)
    (word.gives number spells))
