use Rattle.std.proofs.Common.{◌≡◌, [], ◌∷◌}
use Rattle.json_value.specs.declared.Json.{Num, Str, Map}
use Rattle.schema_rows.specs.declared.schemas.Schema.TheVariants as S
use Rattle.schema_write.specs.Texts.{decimal_text}
use Rattle.schema_write.proofs.Values.{added, written_as}
use Rattle.schema_write.proofs.effects.warp_json.Goals as goal

pub returns : goal.returns
returns c =
    let values : c.add-2.new.values.items ≡ Map c.args.warp.now.metadata ∷ Str c.args.warp.now.name ∷ Str c.args.warp.now.effect_name ∷ Num (decimal_text c.args.warp.now.time_scalar) ∷ [] = added c.speed_numeral.result _ c.in_ok-add-2.ensures c.speed_numeral.ensures (added c.string.result _ c.in_ok-add.ensures c.string.ensures c.in_ok-values.ensures) in
    written_as c.written.result S.Warp c.args.warp.now.rest c.add-2.new.values.items (Map c.args.warp.now.metadata ∷ Str c.args.warp.now.name ∷ Str c.args.warp.now.effect_name ∷ Num (decimal_text c.args.warp.now.time_scalar) ∷ []) values c.written.ensures
