-- Measures: the depth of the value, then a rank for each function. Loops: what is read so far, and what is left.
use Rattle.std.proofs.Common.{◌≡◌, ◌+◌, ◌*◌, ℕ, List, map, take, drop}
use Rattle.json_value.specs.declared.Json.{Json}
use Rattle.sequences.specs.Pairs.{names_of}
use Rattle.otio_model.specs.declared.media.Media.{Media}
use Rattle.schema_rows.specs.declared.schemas.TheConstants as C
use Rattle.schema_rows.specs.Rows.{row_of}
use Rattle.schema_rows.specs.Readings.{known, item_fields, object_fields, effect_reading, marker_reading, medium_reading}
use Rattle.schema_rows.specs.Families.{child, member, medium}
use Rattle.schema_tab.specs.Depths.{depth, list_depth, members_depth}
use Rattle.schema_tab.proofs.Steps.{ReadsRows, ReadsList}
use Rattle.schema_tab.proofs.reader.+object.Given as goal

abbrev pub decreases-read_rows : goal.decreases-read_rows
decreases-read_rows l = 8 * members_depth l.members.now + 3

abbrev pub decreases-read_row : goal.decreases-read_row
decreases-read_row l = 8 * members_depth l.members.now + 2

abbrev pub decreases-read_member : goal.decreases-read_member
decreases-read_member l = 8 * depth l.value.now + 7

abbrev pub decreases-read_items : goal.decreases-read_items
decreases-read_items l = 8 * list_depth l.list.now + 5

abbrev pub decreases-read_objects : goal.decreases-read_objects
decreases-read_objects l = 8 * list_depth l.list.now + 5

abbrev pub decreases-read_effects : goal.decreases-read_effects
decreases-read_effects l = 8 * list_depth l.list.now + 5

abbrev pub decreases-read_markers : goal.decreases-read_markers
decreases-read_markers l = 8 * list_depth l.list.now + 5

abbrev pub decreases-read_media : goal.decreases-read_media
decreases-read_media l = 8 * members_depth l.members.now + 5

abbrev pub decreases-read_object : goal.decreases-read_object
decreases-read_object l = 8 * depth l.value.now + 4

abbrev pub invariant-read_rows-loop-row : goal.invariant-read_rows-loop-row
invariant-read_rows-loop-row l = ReadsRows l.place l.members (map row_of l.rows) (map row_of (drop l.row-index l.rows)) l.values.items

abbrev pub invariant-read_items-loop-index : goal.invariant-read_items-loop-index
invariant-read_items-loop-index l = ReadsList (child C.ITEMS) l.place l.values (drop l.index l.values) l.index (map (λ x. known (item_fields x)) l.items.items)

abbrev pub invariant-read_objects-loop-index : goal.invariant-read_objects-loop-index
invariant-read_objects-loop-index l = ReadsList (child C.ROOTS) l.place l.values (drop l.index l.values) l.index (map (λ x. known (object_fields x)) l.objects.items)

abbrev pub invariant-read_effects-loop-value : goal.invariant-read_effects-loop-value
invariant-read_effects-loop-value l = ReadsList (member C.EFFECTS) l.place l.values (drop l.value-index l.values) l.value-index (map effect_reading l.effects.items)

abbrev pub invariant-read_markers-loop-value : goal.invariant-read_markers-loop-value
invariant-read_markers-loop-value l = ReadsList (member C.MARKERS) l.place l.values (drop l.value-index l.values) l.value-index (map marker_reading l.markers.items)

abbrev pub invariant-read_media-loop-pair : goal.invariant-read_media-loop-pair
invariant-read_media-loop-pair l =
    (names_of l.media.items ≡ names_of (take l.pair-index l.pairs))
    × ReadsList medium l.place (map (λ (m : List ℕ × Json). m.1) l.pairs) (drop l.pair-index (map (λ (m : List ℕ × Json). m.1) l.pairs)) l.pair-index (map (λ (m : List ℕ × Media). medium_reading m.1) l.media.items)
