use Rattle.std.proofs.Common.{◌≡◌, [], ◌∷◌}
use Rattle.schema_rows.specs.declared.schemas.Schema.TheVariants as S
use Rattle.schema_write.specs.Objects.{time_json}
use Rattle.schema_write.proofs.Values.{added, written_bare}
use Rattle.schema_write.proofs.times.range_json.Goals as goal

pub returns : goal.returns
returns c =
    let values : c.add-2.new.values.items ≡ time_json c.args.span.len ∷ time_json c.args.span.start ∷ [] = added c.time_json-2.result _ c.in_ok-add-2.ensures c.time_json-2.ensures (added c.time_json.result _ c.in_ok-add.ensures c.time_json.ensures c.in_ok-values.ensures.items) in
    written_bare c.written.result S.TimeRange c.new-rest.result c.add-2.new.values.items (time_json c.args.span.len ∷ time_json c.args.span.start ∷ []) c.new-rest.ensures values c.written.ensures
