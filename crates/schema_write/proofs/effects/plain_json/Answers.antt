use Rattle.std.proofs.Common.{◌≡◌, sym, true, false, [], ◌∷◌}
use Rattle.json_value.specs.declared.Json.{Str, Map}
use Rattle.schema_rows.specs.declared.schemas.Schema.TheVariants as S
use Rattle.schema_write.proofs.Values.{added, written_as, plain_as}
use Rattle.schema_write.proofs.effects.plain_json.Goals as goal

pub returns-then-plain : goal.returns-then-plain
returns-then-plain c =
    let values : c.add.new.values.items ≡ Map c.args.plain.now.metadata ∷ Str c.args.plain.now.name ∷ Str c.args.plain.now.effect_name ∷ [] = added c.string.result _ c.in_ok-add.ensures c.string.ensures c.in_ok-values.ensures in
    plain_as c.written.result c.args.plain.now.timed true c.args.plain.now.rest (Map c.args.plain.now.metadata ∷ Str c.args.plain.now.name ∷ Str c.args.plain.now.effect_name ∷ []) (sym c.if-plain.true)
    (written_as c.written.result S.TimeEffect c.args.plain.now.rest c.add.new.values.items (Map c.args.plain.now.metadata ∷ Str c.args.plain.now.name ∷ Str c.args.plain.now.effect_name ∷ []) values c.written.ensures)

pub returns : goal.returns
returns c =
    let values : c.add.new.values.items ≡ Map c.args.plain.now.metadata ∷ Str c.args.plain.now.name ∷ Str c.args.plain.now.effect_name ∷ [] = added c.string.result _ c.in_ok-add.ensures c.string.ensures c.in_ok-values.ensures in
    plain_as c.written-2.result c.args.plain.now.timed false c.args.plain.now.rest (Map c.args.plain.now.metadata ∷ Str c.args.plain.now.name ∷ Str c.args.plain.now.effect_name ∷ []) (sym c.if-plain.false)
    (written_as c.written-2.result S.Effect c.args.plain.now.rest c.add.new.values.items (Map c.args.plain.now.metadata ∷ Str c.args.plain.now.name ∷ Str c.args.plain.now.effect_name ∷ []) values c.written-2.ensures)
