use Rattle.std.proofs.Common.{◌≡◌, ◌+◌, ◌*◌, map, take}
use Rattle.otio_model.specs.Counts.{count, count_of}
use Rattle.otio_model.specs.Trees.{items_of}
use Rattle.schema_write.specs.Objects.{item_in}
use Rattle.schema_write.specs.Styles.{style_of}
use Rattle.schema_write.proofs.items.+item.Given as goal

abbrev pub invariant-children_json-items : goal.invariant-children_json-items
invariant-children_json-items l = l.values.items ≡ map (item_in (style_of l.family)) (take l.index (items_of l.children))

abbrev pub decreases-item_json : goal.decreases-item_json
decreases-item_json a = 2 * count_of a.item.now

abbrev pub decreases-children_json : goal.decreases-children_json
decreases-children_json a = 2 * count a.children.now + 1
