use Rattle.std.proofs.Common.{◌≡◌, map, take}
use Rattle.schema_write.specs.Objects.{marker_by}
use Rattle.schema_write.specs.Styles.{style_of}
use Rattle.schema_write.proofs.markers.markers_json.Given as goal

abbrev pub invariant-markers : goal.invariant-markers
invariant-markers l = l.values.items ≡ map (marker_by (style_of l.family).mark) (take l.marker-index l.list)
