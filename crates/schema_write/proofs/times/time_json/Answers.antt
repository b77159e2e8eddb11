use Rattle.std.proofs.Common.{◌≡◌, [], ◌∷◌}
use Rattle.json_value.specs.declared.Json.{Num}
use Rattle.schema_rows.specs.declared.schemas.Schema.TheVariants as S
use Rattle.schema_write.specs.Texts.{rate_text, value_text}
use Rattle.schema_write.proofs.Values.{added, written_bare}
use Rattle.schema_write.proofs.times.time_json.Goals as goal

pub returns : goal.returns
returns c =
    let values : c.add-2.new.values.items ≡ Num (rate_text c.args.time.rate) ∷ Num (value_text c.args.time) ∷ [] = added c.value_numeral.result _ c.in_ok-add-2.ensures c.value_numeral.ensures (added c.rate_numeral.result _ c.in_ok-add.ensures c.rate_numeral.ensures c.in_ok-values.ensures.items) in
    written_bare c.written.result S.RationalTime c.new-rest.result c.add-2.new.values.items (Num (rate_text c.args.time.rate) ∷ Num (value_text c.args.time) ∷ []) c.new-rest.ensures values c.written.ensures
