use Rattle.std.proofs.Common.{◌∙◌, ap, List, ℕ}
use Rattle.dev_io.proofs.BufferLemmas.{puts_as}
use Rattle.json_value.specs.declared.Json.{Num}
use Rattle.json_text.specs.Levels.{deep}
use Rattle.schema_write.proofs.Numbers.{value_is}
use Rattle.schema_write.specs.Lines.{row_text}
use Rattle.schema_write.proofs.numerals_layout.put_value_row.Goals as goal

pub returns : goal.returns
returns g c =
    let is = c.as_str.ensures.value
    ∙ value_is c.value_text.result.bytes c.args.time c.value_text.ensures in
    puts_as _ c.put_numeral_row.ensures
    (ap (λ (text : List ℕ). row_text c.args.name.now (Num text) (deep c.args.level.now)) is)
