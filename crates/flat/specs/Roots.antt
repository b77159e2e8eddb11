-- The children of the root stack.
use Rattle.std.specs.Prelude.{◌≡◌, ℕ, Bool, true, false, ◌&&◌, List, [], ◌∷◌, is_none}
use Rattle.std.specs.Str.{bytes_eq}
use Rattle.otio_model.specs.declared.compositions.ItemOf.{ItemOf}
use Rattle.otio_model.specs.declared.compositions.ItemOf.TheVariants.{Clip, Gap, Transition, Stack, Track}
use Rattle.otio_model.specs.declared.compositions.Listed.{Listed}
use Rattle.otio_model.specs.declared.timelines.Timeline.{Timeline}
pub use Rattle.otio_model.specs.Trees.{is_track}
use Rattle.otio_model.specs.Trees.{listed, items_of}

abbrev pub is_empty : {A : Type 0} → List A → Bool
is_empty [] = true
is_empty (x ∷ l) = false

-- a track without a source_range and without effects
abbrev pub is_plain : ItemOf Listed → Bool
is_plain (Clip c) = false
is_plain (Gap g) = false
is_plain (Transition t) = false
is_plain (Stack s) = false
is_plain (Track t) = is_none t.source_range && is_empty t.effects

-- plain tracks alone
abbrev pub ArePlainTracks : List (ItemOf Listed) → Type 0
ArePlainTracks [] = Unit {0}
ArePlainTracks (x ∷ l) = (is_plain x ≡ true) × ArePlainTracks l

-- a stack or a track
abbrev pub is_nested : ItemOf Listed → Bool
is_nested (Clip c) = false
is_nested (Gap g) = false
is_nested (Transition t) = false
is_nested (Stack s) = true
is_nested (Track t) = true

abbrev pub is_enabled : ItemOf Listed → Bool
is_enabled (Clip c) = c.enabled
is_enabled (Gap g) = g.enabled
is_enabled (Transition t) = true
is_enabled (Stack s) = s.enabled
is_enabled (Track t) = t.enabled

-- a track of the kind
abbrev pub is_of : List ℕ → ItemOf Listed → Bool
is_of kind (Clip c) = false
is_of kind (Gap g) = false
is_of kind (Transition t) = false
is_of kind (Stack s) = false
is_of kind (Track t) = bytes_eq t.kind kind

-- an enabled one
abbrev pub is_layer : List ℕ → ItemOf Listed → Bool
is_layer kind x = is_enabled x && is_of kind x

-- the children of a track
abbrev pub items_in : ItemOf Listed → List (ItemOf Listed)
items_in (Clip c) = []
items_in (Gap g) = []
items_in (Transition t) = []
items_in (Stack s) = []
items_in (Track t) = items_of t.children

abbrev pub roots : Timeline → List (ItemOf Listed)
roots t = items_of t.tracks.children

-- the timeline with other children of the root stack
abbrev pub with_roots : List (ItemOf Listed) → Timeline → Timeline
with_roots l t = record t { tracks = record t.tracks { children = listed l } }
