use Rattle.std.proofs.Common.{◌∙◌, ap, List, ℕ}
use Rattle.dev_io.proofs.BufferLemmas.{puts_as}
use Rattle.json_value.specs.declared.Json.{Num}
use Rattle.json_text.specs.Levels.{deep}
use Rattle.schema_write.proofs.Numbers.{rate_is}
use Rattle.schema_write.specs.Lines.{row_text}
use Rattle.schema_write.proofs.numerals_layout.put_rate_row.Goals as goal

pub returns : goal.returns
returns g c =
    let is = c.as_str.ensures.value
    ∙ rate_is c.text.result.bytes c.args.rate c.text.ensures.relative c.text.ensures.spelled in
    puts_as _ c.put_numeral_row.ensures
    (ap (λ (text : List ℕ). row_text c.args.name.now (Num text) (deep c.args.level.now)) is)
