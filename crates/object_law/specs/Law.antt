-- What is written of an object that was read reads back as that object.
use Rattle.std.specs.Prelude.{◌≡◌, false, Some}
use Rattle.json_value.specs.declared.Json.{Json}
use Rattle.otio_model.specs.declared.compositions.Listed.{Listed}
use Rattle.otio_model.specs.declared.patches.Patch.{Patch}
use Rattle.otio_model.specs.declared.patches.Put.{Put}
use Rattle.otio_model.specs.declared.patches.Put.TheVariants.{Items, Ranges}
use Rattle.otio_model.specs.declared.objects.Object.{Object}
use Rattle.otio_model.specs.declared.timelines.Timeline.{Timeline}
use Rattle.otio_model.specs.Patches.{target, IsFit, applied, put_at}
use Rattle.otio_model.specs.Trees.{items_of}
use Rattle.otio_model.specs.Misplaced.{side_by_side}
use Rattle.schema_rows.specs.Stands.{Stands}
use Rattle.schema_up.specs.Upgrades.{upgraded}
use Rattle.schema_write.specs.Objects.{json_of, old_json_of}
use Rattle.schema_write.specs.OldForms.{HasOldForm}
use Rattle.object_law.specs.Writable.{IsUpgraded, AreItems, IsTimeline, IsObject}

-- what is written of an object that was read from an upgraded value reads back as that object
abbrev pub WrittenIsRead : Type 0
WrittenIsRead = (json : Json) (object : Object) → IsUpgraded json → Stands json object
    → Stands (json_of object) object

-- what is written of a writable object reads back as that object
abbrev pub WritableIsRead : Type 0
WritableIsRead = (object : Object) → IsObject object → Stands (json_of object) object

-- what is written of a writable object in the older family, where it has a form there, reads back
-- as that object once it is upgraded
abbrev pub OldIsRead : Type 0
OldIsRead = (object : Object) → IsObject object → HasOldForm object
    → Stands (upgraded (old_json_of object)) object

-- an object that was read from an upgraded value is writable
abbrev pub ReadIsWritable : Type 0
ReadIsWritable = (json : Json) (object : Object) → IsUpgraded json → Stands json object
    → IsObject object

-- the items that a patch puts in are writable; source ranges always are
abbrev pub ArePut : Put → Type 0
ArePut (Items count items) = AreItems items
ArePut (Ranges ranges) = Unit {0}

-- a writable timeline is writable after a patch of writable items that leaves no two transitions
-- side by side where it puts them
abbrev pub PatchedIsWritable : Type 0
PatchedIsWritable = (p : Patch) (t : Timeline) (l : Listed) → IsFit p t → target p t ≡ Some l
    → IsTimeline t → ArePut p.put
    → side_by_side (put_at p.at p.put (items_of l)) ≡ false → IsTimeline (applied p t)
