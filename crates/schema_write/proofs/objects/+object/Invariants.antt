use Rattle.std.proofs.Common.{◌≡◌, map, take}
use Rattle.schema_write.specs.Objects.{object_in}
use Rattle.schema_write.specs.Styles.{style_of}
use Rattle.schema_write.proofs.objects.+object.Given as goal

abbrev pub invariant-objects_json-objects : goal.invariant-objects_json-objects
invariant-objects_json-objects l = l.values.items ≡ map (object_in (style_of l.family)) (take l.inner-index l.list)
