-- Objects in a list: their items, and how deep collections stand in one another.
use Rattle.std.specs.Prelude.{ℕ, suc, List, map}
use Rattle.otio_model.specs.declared.objects.Object.{Object, fold-Object}
use Rattle.otio_model.specs.declared.objects.Object.TheOpen.{Object-F}
use Rattle.otio_model.specs.declared.objects.Collection.{Collection-F}
use Rattle.schema_rows.specs.Counts.{added, count_of}
use Rattle.schema_tab.specs.Depths.{deepest}

-- objects and all below them
abbrev pub counts_of : List Object → ℕ
counts_of objects = added (map count_of objects)

abbrev pub object_step : Object-F ℕ ℕ → ℕ
object_step (Object-F.Timeline t) = 0
object_step (Object-F.Collection n) = suc n
object_step (Object-F.Item i) = 0

abbrev pub collection_step : Collection-F ℕ ℕ → ℕ
collection_step c = deepest c.children

-- how many collections stand in one another at most
abbrev pub object_depth : Object → ℕ
object_depth = fold-Object ℕ ℕ object_step collection_step

abbrev pub objects_depth : List Object → ℕ
objects_depth objects = deepest (map object_depth objects)
