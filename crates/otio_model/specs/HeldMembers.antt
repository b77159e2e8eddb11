-- The members of an item's metadata, wherever they lie.
use Rattle.std.specs.Prelude.{ℕ, List}
use Rattle.json_value.specs.declared.Json.{Json}
use Rattle.otio_model.specs.declared.metadata.Held.{Held}
use Rattle.otio_model.specs.declared.metadata.Held.TheVariants.{Own, Common}

abbrev pub members_of : Held → List (List ℕ × Json)
members_of (Own list members) = members
members_of (Common rc) = rc.value
