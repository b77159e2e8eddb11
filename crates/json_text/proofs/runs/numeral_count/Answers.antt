use Rattle.std.proofs.Common.{sym, ◌∙◌}
use Rattle.json_text.proofs.WholeNumerals.{whole_numeral}
use Rattle.json_text.proofs.runs.numeral_count.Goals as goal

pub returns-then-ends : goal.returns-then-ends
returns-then-ends c = λ some.
    whole_numeral c.args.bytes.now c.in-Some.rest.now c.in-Some.first.now c.numeral_run-count.result.0 c.in-Some-first_place.place c.numeral_run-count.result.1
    c.in-Some.ensures.cases.0 c.in-Some-first_place.ensures.ascii c.in-Some-first_place.ensures.begins c.if-count-rest.true
    c.if-rest-count-eq44.true c.numeral_run-count.ensures.goes (sym c.ends.ensures ∙ c.if-ends.true)
