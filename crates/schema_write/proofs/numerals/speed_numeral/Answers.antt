use Rattle.std.proofs.Common.{◌≡◌, ◌∙◌, subst, IfOk, List, ℕ}
use Rattle.json_value.specs.declared.Json.{Num}
use Rattle.schema_write.proofs.Numbers.{speed_is}
use Rattle.schema_write.proofs.numerals.speed_numeral.Goals as goal

pub returns : goal.returns
returns c =
    let is = c.as_str.ensures.value ∙ speed_is c.text.result.bytes c.args.speed c.text.ensures.text c.text.ensures.range in
    subst (λ (text : List ℕ). IfOk c.numeral.result (λ json. json ≡ Num text)) is c.numeral.ensures
