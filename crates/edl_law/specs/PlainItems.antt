-- Items of which only some fields are given, as conform makes them.
use Rattle.std.specs.Prelude.{ℕ, List, [], ◌∷◌, Option, codes}
use Rattle.tick_time.specs.declared.spans.Span.{Span}
use Rattle.tick_time.specs.declared.times.Time.{Time}
use Rattle.json_value.specs.declared.Json.{Json}
use Rattle.otio_model.specs.declared.media.Media.{Media}
use Rattle.otio_model.specs.declared.effect_types.Effect.{Effect}
use Rattle.otio_model.specs.declared.compositions.ItemOf.{ItemOf}
use Rattle.otio_model.specs.declared.compositions.Listed.{Listed}
use Rattle.otio_model.specs.Plain as plain
use Rattle.edl_list.specs.declared.list.Channel.{Channel}
use Rattle.edl_frames.specs.Conformed.{channel_name, channel_kind}

-- a clip of one medium
abbrev pub clip_with : List (List ℕ × Json) → List ℕ → Option Span → List Effect → Media
    → ItemOf Listed
clip_with metadata name source effects reference =
    plain.clip_with metadata name source effects ((codes "DEFAULT_MEDIA", reference) ∷ [])
    (codes "DEFAULT_MEDIA")

-- a gap
abbrev pub gap_with : Option Span → ItemOf Listed
gap_with source = plain.gap_with source

-- a transition of a type
abbrev pub transition_with : List ℕ → Option Time → Option Time → ItemOf Listed
transition_with type before after = plain.transition_with type before after

-- a channel's track
abbrev pub track_with : Channel → Listed → ItemOf Listed
track_with c children = plain.track_with (channel_kind c) (channel_name c) children
