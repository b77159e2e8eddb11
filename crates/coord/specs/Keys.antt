-- What a clip's frames are known by, and at which rate they are counted.
use Rattle.std.specs.Prelude.{ℕ, List, Option, Some, None, codes, option_map, option_and_then}
use Rattle.std.specs.Option.{option_or}
use Rattle.sequences.specs.Pairs.{value_of}
use Rattle.json_value.specs.declared.Json.{Json, out-Json}
use Rattle.json_value.specs.declared.Json.TheOpen.{Json-F}
use Rattle.tick_time.specs.declared.rates.Rate.{Rate}
use Rattle.tick_time.specs.declared.spans.Span.{Span}
use Rattle.otio_model.specs.declared.media.Media.{Media}
use Rattle.otio_model.specs.declared.media.Media.TheVariants as M
use Rattle.otio_model.specs.declared.compositions.Clip.{Clip as ClipRow}
use Rattle.otio_model.specs.Lengths.{active_media, clip_range}
pub use Rattle.otio_model.specs.Reels.{member_in}
use Rattle.coord.specs.Looks.{Key, Url, Sequence, Generator, Reel, Name, FrameRate}

-- the characters of a string
abbrev pub text_in : Json-F Json → Option (List ℕ)
text_in Json-F.Null = None
text_in (Json-F.Bool b) = None
text_in (Json-F.Num n) = None
text_in (Json-F.Str s) = Some s
text_in (Json-F.List l) = None
text_in (Json-F.Map m) = None

-- the reel that lists (CMX 3600) know the clip's media by
abbrev pub reel_of : ClipRow → Option (List ℕ)
reel_of c = option_and_then (λ j. text_in (out-Json j))
    (option_and_then (λ j. member_in (codes "reel") (out-Json j))
    (value_of (codes "cmx_3600") c.metadata))

-- the clip's reel, else its name
abbrev pub reel_or_name : Option (List ℕ) → List ℕ → Key
reel_or_name None name = Name name
reel_or_name (Some reel) name = Reel reel

-- by the media, or by another key where they aren't known
abbrev pub media_key : Option Media → Key → Key
media_key None other = other
media_key (Some (M.External m)) other = Url m.target_url
media_key (Some (M.Missing m)) other = other
media_key (Some (M.Generator m)) other = Generator m.generator_kind
media_key (Some (M.Sequence m)) other = Sequence m.target_url_base m.name_prefix m.name_suffix
media_key (Some (M.Kept j)) other = other

-- what the clip's frames are known by
abbrev pub key_of : ClipRow → Key
key_of c = media_key (active_media c) (reel_or_name (reel_of c) c.name)

abbrev pub frame_rate : Rate → FrameRate
frame_rate r = record { num = r.num; den = r.den }

-- the rate of the clip's media: of their available range, else of its source_range
abbrev pub media_rate : ClipRow → Option FrameRate
media_rate c = option_map (λ (s : Span). frame_rate s.start.rate)
    (option_or (clip_range c) c.source_range)
