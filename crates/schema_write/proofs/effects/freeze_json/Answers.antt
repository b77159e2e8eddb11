use Rattle.std.proofs.Common.{◌≡◌, [], ◌∷◌, codes}
use Rattle.json_value.specs.declared.Json.{Num, Str, Map}
use Rattle.schema_rows.specs.declared.schemas.Schema.TheVariants as S
use Rattle.schema_write.proofs.Values.{added, written_as}
use Rattle.schema_write.proofs.effects.freeze_json.Goals as goal

pub returns : goal.returns
returns c =
    let values : c.add-2.new.values.items ≡ Map c.args.freeze.now.metadata ∷ Str c.args.freeze.now.name ∷ Str c.args.freeze.now.effect_name ∷ Num (codes "0.0") ∷ [] = added c.zero_numeral.result _ c.in_ok-add-2.ensures c.zero_numeral.ensures (added c.string.result _ c.in_ok-add.ensures c.string.ensures c.in_ok-values.ensures) in
    written_as c.written.result S.Freeze c.args.freeze.now.rest c.add-2.new.values.items (Map c.args.freeze.now.metadata ∷ Str c.args.freeze.now.name ∷ Str c.args.freeze.now.effect_name ∷ Num (codes "0.0") ∷ []) values c.written.ensures
