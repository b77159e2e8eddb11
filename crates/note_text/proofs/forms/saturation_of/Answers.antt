use Rattle.std.proofs.Common.{subst, sym, arith}
use Rattle.note_text.proofs.FormLemmas.{sat_colon, no_sat_colon, sat_bare, no_sat_bare, no_sat_long}
use Rattle.note_text.specs.Forms.{IsSaturation}
use Rattle.note_text.proofs.forms.saturation_of.Goals as goal

pub returns-in-Some-numeral_of : goal.returns-in-Some-numeral_of
returns-in-Some-numeral_of c =
    let n = c.in-Some-numeral_of.ensures in
    subst (λ l. IsSaturation c.args.line.now l) (sym n.1) (sat_colon c.args.line.now c.in-Some.text.now c.trim_front-rest.result.now c.in-Some-behind.behind_colon.now c.in-Some.ensures c.trim_front-rest.ensures c.in-Some-behind.ensures n.0)

pub returns-in-None : goal.returns-in-None
returns-in-None c =
    no_sat_colon c.args.line.now c.in-Some.text.now c.trim_front-rest.result.now c.in-Some-behind.behind_colon.now c.in-Some.ensures c.trim_front-rest.ensures c.in-Some-behind.ensures c.in-None.ensures

pub returns-then-rest-text : goal.returns-then-rest-text
returns-then-rest-text c =
    no_sat_long c.args.line.now c.in-Some.text.now c.trim_front-rest.result.now c.in-Some.ensures c.trim_front-rest.ensures c.in_default-behind.ensures c.if-rest-text.true

pub returns-in-Some-numeral_of-2 : goal.returns-in-Some-numeral_of-2
returns-in-Some-numeral_of-2 c =
    let n = c.in-Some-numeral_of-2.ensures in
    subst (λ l. IsSaturation c.args.line.now l) (sym n.1) (sat_bare c.args.line.now c.in-Some.text.now c.trim_front-rest.result.now c.in-Some.ensures c.trim_front-rest.ensures (let f = c.if-rest-text.false in omega (arith, f)) n.0)

pub returns-in-None-numeral_of : goal.returns-in-None-numeral_of
returns-in-None-numeral_of c =
    no_sat_bare c.args.line.now c.in-Some.text.now c.trim_front-rest.result.now c.in-Some.ensures c.trim_front-rest.ensures c.in_default-behind.ensures c.in-None-numeral_of.ensures
