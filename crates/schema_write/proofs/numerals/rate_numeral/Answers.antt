use Rattle.std.proofs.Common.{◌≡◌, ◌∙◌, subst, IfOk, List, ℕ}
use Rattle.json_value.specs.declared.Json.{Num}
use Rattle.schema_write.proofs.Numbers.{rate_is}
use Rattle.schema_write.proofs.numerals.rate_numeral.Goals as goal

pub returns : goal.returns
returns c =
    let is = c.as_str.ensures.value ∙ rate_is c.text.result.bytes c.args.rate c.text.ensures.relative c.text.ensures.spelled in
    subst (λ (text : List ℕ). IfOk c.numeral.result (λ json. json ≡ Num text)) is c.numeral.ensures
