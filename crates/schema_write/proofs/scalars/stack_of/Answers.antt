use Rattle.std.proofs.Common.{◌≡◌, refl, [], ◌∷◌}
use Rattle.json_value.specs.declared.Json.{Str, Bool as JsonOfBool, List as JsonOfList, Map}
use Rattle.schema_rows.specs.declared.schemas.Schema.TheVariants as S
use Rattle.schema_write.specs.Objects.{span_json, effects_json, markers_by}
use Rattle.schema_write.specs.Styles.{style_of}
use Rattle.schema_write.proofs.Values.{grown, members_as, written_as}
use Rattle.schema_write.proofs.scalars.stack_of.Goals as goal

pub returns : goal.returns
returns c =
    let values : c.push.new.self.items ≡ Map c.args.stack.now.metadata ∷ Str c.args.stack.now.name ∷ span_json c.args.stack.now.source_range ∷ effects_json c.args.stack.now.effects ∷ markers_by (style_of c.args.family).mark c.args.stack.now.markers ∷ JsonOfBool c.args.stack.now.enabled ∷ JsonOfList c.args.children ∷ [] = grown c.in_ok-push.ensures.items (members_as c.in_ok-values.ensures c.get.ensures) refl in
    written_as c.written.result S.Stack c.args.stack.now.rest c.push.new.self.items (Map c.args.stack.now.metadata ∷ Str c.args.stack.now.name ∷ span_json c.args.stack.now.source_range ∷ effects_json c.args.stack.now.effects ∷ markers_by (style_of c.args.family).mark c.args.stack.now.markers ∷ JsonOfBool c.args.stack.now.enabled ∷ JsonOfList c.args.children ∷ []) values c.written.ensures
