use Rattle.std.proofs.Common.{◌≡◌, ap, map, [], ◌∷◌}
use Rattle.json_value.specs.declared.Json.{Str, List as JsonOfList, Map}
use Rattle.otio_model.specs.declared.objects.Object.{Timeline, Collection, Item}
use Rattle.schema_rows.specs.declared.schemas.Schema.TheVariants as S
use Rattle.schema_write.specs.Objects.{object_in, timeline_in, collection_in, item_in}
use Rattle.schema_write.specs.Styles.{style_of}
use Rattle.schema_write.proofs.Values.{grown, written_as}
use Rattle.schema_write.proofs.Trees.{object_in-Timeline, object_in-Collection, object_in-Item, object_as}
use Rattle.schema_write.proofs.objects.+object.Goals as goal

pub object_json-returns-in-Timeline : goal.object_json-returns-in-Timeline
object_json-returns-in-Timeline t c =
    let x = c.in-Timeline.timeline in object_as (style_of c.args.family) c.timeline_json.result (timeline_in (style_of c.args.family) x) (Timeline x) c.args.object.now (object_in-Timeline (style_of c.args.family) x) c.in-Timeline.is c.timeline_json.ensures

pub object_json-returns-in-Collection : goal.object_json-returns-in-Collection
object_json-returns-in-Collection t c =
    let x = c.in-Collection.collection in
    object_as (style_of c.args.family) c.collection_json.result (collection_in (style_of c.args.family) x) (Collection x) c.args.object.now (object_in-Collection (style_of c.args.family) x) c.in-Collection.is c.collection_json.ensures

pub object_json-returns-in-Item : goal.object_json-returns-in-Item
object_json-returns-in-Item t c = let x = c.in-Item.item in object_as (style_of c.args.family) c.item_json.result (item_in (style_of c.args.family) x) (Item x) c.args.object.now (object_in-Item (style_of c.args.family) x) c.in-Item.is c.item_json.ensures

pub collection_json-returns : goal.collection_json-returns
collection_json-returns t c =
    let x = c.args.collection.now in
    let values : c.push.new.self.items ≡ Map x.metadata ∷ Str x.name ∷ JsonOfList (map (object_in (style_of c.args.family)) x.children) ∷ [] = grown c.in_ok-push.ensures.items c.in_ok-values.ensures (ap JsonOfList c.in_ok-objects_json.ensures) in
    written_as c.written.result S.Collection x.rest c.push.new.self.items (Map x.metadata ∷ Str x.name ∷ JsonOfList (map (object_in (style_of c.args.family)) x.children) ∷ []) values c.written.ensures
