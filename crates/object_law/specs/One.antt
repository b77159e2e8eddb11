-- A JSON value represents at most one object, or has one first fault, and never both.
use Rattle.std.specs.Prelude.{◌≡◌, ◌≤◌}
use Rattle.json_value.specs.declared.Json.{Json}
use Rattle.limits.specs.Limits.{most_items}
use Rattle.otio_model.specs.declared.objects.Object.{Object, fold-Object}
use Rattle.otio_model.specs.declared.objects.Object.TheOpen.{Object-F}
use Rattle.otio_model.specs.declared.objects.Object.TheViews.{roll-Object, roll-Collection}
use Rattle.otio_model.specs.declared.objects.Collection.{Collection, Collection-F}
use Rattle.otio_model.specs.Timelines.{bare}
use Rattle.schema_rows.specs.declared.faults.SchemaFault.{SchemaFault}
use Rattle.schema_rows.specs.Counts.{count_of}
use Rattle.schema_rows.specs.Stands.{Stands}
use Rattle.schema_rows.specs.Faults.{IsFirstFault}

-- an object, the memory that a timeline keeps to spare being set aside
abbrev pub spared_object : Object-F Object Collection → Object
spared_object (Object-F.Timeline t) = roll-Object (Object-F.Timeline (bare t))
spared_object (Object-F.Collection c) = roll-Object (Object-F.Collection c)
spared_object (Object-F.Item i) = roll-Object (Object-F.Item i)

abbrev pub spared_collection : Collection-F Object Collection → Collection
spared_collection c = roll-Collection c

-- the object without the memory that its timelines keep to spare, at all levels; two objects are
-- equal where these are
abbrev pub spared : Object → Object
spared = fold-Object Object Collection spared_object spared_collection

-- two objects that a value represents are equal
abbrev pub StandsForOne : Type 0
StandsForOne = (json : Json) (a b : Object) → Stands json a → Stands json b → spared a ≡ spared b

-- and hold as many items
abbrev pub HasOneCount : Type 0
HasOneCount = (json : Json) (a b : Object) → Stands json a → Stands json b → count_of a ≡ count_of b

-- two first faults of a value are equal
abbrev pub HasOneFault : Type 0
HasOneFault = (json : Json) (f g : SchemaFault) → IsFirstFault json f → IsFirstFault json g → f ≡ g

-- a value that represents an object of at most 100 000 items has no first fault
abbrev pub IsNeverBoth : Type 0
IsNeverBoth = (json : Json) (object : Object) (fault : SchemaFault) → Stands json object
    → count_of object ≤ most_items → IsFirstFault json fault → ⊥
