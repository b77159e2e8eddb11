-- How many items an object has at all levels: each clip, gap, transition, stack and track, but not
-- the root stack of a timeline.
use Rattle.std.specs.Prelude.{ℕ, ◌+◌, List, [], ◌∷◌}
use Rattle.otio_model.specs.declared.objects.Object.{Object, fold-Object}
use Rattle.otio_model.specs.declared.objects.Object.TheOpen.{Object-F}
use Rattle.otio_model.specs.declared.objects.Collection.{Collection-F}
use Rattle.otio_model.specs.Counts.{count, count_of as count_of_item}

-- the sum of numbers
abbrev pub added : List ℕ → ℕ
added [] = 0
added (n ∷ ns) = n + added ns

-- an object, those in it being counted
abbrev pub count_object : Object-F ℕ ℕ → ℕ
count_object (Object-F.Timeline t) = count t.tracks.children
count_object (Object-F.Collection n) = n
count_object (Object-F.Item i) = count_of_item i

-- a collection, those in it being counted
abbrev pub count_collection : Collection-F ℕ ℕ → ℕ
count_collection c = added c.children

-- an object and all below it
abbrev pub count_of : Object → ℕ
count_of = fold-Object ℕ ℕ count_object count_collection
