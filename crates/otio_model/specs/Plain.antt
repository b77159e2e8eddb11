-- Items of which only some fields are given; the others are empty, and what may be disabled isn't.
use Rattle.std.specs.Prelude.{ℕ, ℤ, true, List, [], ◌∷◌, Option, None, codes}
use Rattle.tick_time.specs.declared.spans.Span.{Span}
use Rattle.tick_time.specs.declared.times.Time.{Time}
use Rattle.json_value.specs.declared.Json.{Json}
use Rattle.otio_model.specs.declared.media.Media.{Media}
use Rattle.otio_model.specs.declared.media.Media.TheVariants as M
use Rattle.otio_model.specs.declared.effect_types.Effect.{Effect}
use Rattle.otio_model.specs.declared.effect_types.Effect.TheVariants as E
use Rattle.otio_model.specs.declared.compositions.ItemOf.{ItemOf}
use Rattle.otio_model.specs.declared.compositions.ItemOf.TheVariants.{Clip, Gap, Transition, Stack}
use Rattle.otio_model.specs.declared.compositions.ItemOf.TheVariants.{Track}
use Rattle.otio_model.specs.declared.compositions.Listed.{Listed}

-- a file, and the range of it that is there
abbrev pub external : Option Span → List ℕ → Media
external available url = M.External (record {
  metadata = [];
  name = [];
  available_range = available;
  target_url = url;
  rest = [];
})

-- a speed, in millionths
abbrev pub at_speed : ℤ → List Effect
at_speed speed = E.Warp (record {
  metadata = [];
  name = [];
  effect_name = [];
  time_scalar = speed;
  rest = [];
}) ∷ []

-- a clip of some media, of which the one under a key is used
abbrev pub clip_with : {C : Type 0} → (metadata : List (List ℕ × Json)) (name : List ℕ)
    (source : Option Span) (effects : List Effect) (media : List (List ℕ × Media))
    (key : List ℕ) → ItemOf C
clip_with metadata name source effects media key = Clip (record {
  metadata = metadata;
  name = name;
  source_range = source;
  effects = effects;
  markers = [];
  enabled = true;
  media_references = media;
  active_media_reference_key = key;
  rest = [];
})

-- a clip of one file under the key m
abbrev pub shot_with : {C : Type 0} → (name : List ℕ) (source : Option Span)
    (effects : List Effect) (available : Option Span) (url : List ℕ) → ItemOf C
shot_with name source effects available url =
    clip_with [] name source effects ((codes "m", external available url) ∷ []) (codes "m")

-- a gap
abbrev pub gap_with : {C : Type 0} → Option Span → ItemOf C
gap_with source = Gap (record {
  metadata = [];
  name = [];
  source_range = source;
  effects = [];
  markers = [];
  enabled = true;
  rest = [];
})

-- a gap without anything
abbrev pub plain_gap : ItemOf Listed
plain_gap = gap_with None

-- a transition of a type
abbrev pub transition_with : {C : Type 0} → (type : List ℕ) (before after : Option Time) → ItemOf C
transition_with type before after = Transition (record {
  metadata = [];
  name = [];
  transition_type = type;
  in_offset = before;
  out_offset = after;
  rest = [];
})

-- a stack
abbrev pub stack_with : {C : Type 0} → Option Span → List Effect → C → ItemOf C
stack_with source effects children = Stack (record {
  metadata = [];
  name = [];
  source_range = source;
  effects = effects;
  markers = [];
  enabled = true;
  children = children;
  rest = [];
})

-- a track of a kind and a name
abbrev pub track_with : {C : Type 0} → (kind name : List ℕ) → C → ItemOf C
track_with kind name children = Track (record {
  metadata = [];
  name = name;
  source_range = None;
  effects = [];
  markers = [];
  enabled = true;
  children = children;
  kind = kind;
  rest = [];
})
