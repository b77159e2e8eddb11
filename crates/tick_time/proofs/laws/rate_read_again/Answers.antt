use Rattle.std.proofs.Common.{◌≤ℤ◌, pos, ◌∙◌, arith}
use Rattle.std.proofs.lemmas.Int.{ints}
use Rattle.tick_time.proofs.RereadLemmas.{rate_again}
use Rattle.tick_time.proofs.laws.rate_read_again.Goals as goal

pub returns-in-Ok-clause-ok : goal.returns-in-Ok-clause-ok
returns-in-Ok-clause-ok c =
    let num : pos 1 ≤ℤ c.args.rate.now.num = omega (arith, ints, c.args.rate.now.positive, c.args.rate.now.at_least_one) in
    (rate_again c.of.result _ _ _ _ _ _ _ _ (c.as_bytes.ensures.value ∙ c.as_str.ensures.value) c.text-text.ensures.reads num c.args.rate.now.positive c.in-Ok.ensures.value c.of.ensures.rate c.of.ensures.fault).ok

pub returns-in-Ok-clause-num : goal.returns-in-Ok-clause-num
returns-in-Ok-clause-num c =
    let num : pos 1 ≤ℤ c.args.rate.now.num = omega (arith, ints, c.args.rate.now.positive, c.args.rate.now.at_least_one) in
    (rate_again c.of.result _ _ _ _ _ _ _ _ (c.as_bytes.ensures.value ∙ c.as_str.ensures.value) c.text-text.ensures.reads num c.args.rate.now.positive c.in-Ok.ensures.value c.of.ensures.rate c.of.ensures.fault).num_is

pub returns-in-Ok-clause-den : goal.returns-in-Ok-clause-den
returns-in-Ok-clause-den c =
    let num : pos 1 ≤ℤ c.args.rate.now.num = omega (arith, ints, c.args.rate.now.positive, c.args.rate.now.at_least_one) in
    (rate_again c.of.result _ _ _ _ _ _ _ _ (c.as_bytes.ensures.value ∙ c.as_str.ensures.value) c.text-text.ensures.reads num c.args.rate.now.positive c.in-Ok.ensures.value c.of.ensures.rate c.of.ensures.fault).den_is
