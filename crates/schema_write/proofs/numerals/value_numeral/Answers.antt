use Rattle.std.proofs.Common.{◌≡◌, ◌∙◌, subst, IfOk, List, ℕ}
use Rattle.json_value.specs.declared.Json.{Num}
use Rattle.schema_write.proofs.Numbers.{value_is}
use Rattle.schema_write.proofs.numerals.value_numeral.Goals as goal

pub returns : goal.returns
returns c =
    let is = c.as_str.ensures.value ∙ value_is c.value_text.result.bytes c.args.time c.value_text.ensures in
    subst (λ (text : List ℕ). IfOk c.numeral.result (λ json. json ≡ Num text)) is c.numeral.ensures
