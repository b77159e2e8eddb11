-- The timeline that a list stands for.
use Rattle.std.specs.Prelude.{◌≡◌, ℕ, ◌+◌, ◌/◌, ◌%◌, ◌==◌, ℤ, pos, ◌+ℤ◌, ◌-ℤ◌, ◌*ℤ◌, int_lt, ◌<ℤ◌, Bool, true, false, ◌&&◌, ◌||◌, cond, List, [], ◌∷◌, ◌++◌, Option, Some, None, codes, unwrap_or}
use Rattle.std.specs.Int.{int_min}
use Rattle.std.specs.Ordering.{int_eq}
use Rattle.std.specs.Str.{bytes_eq}
use Rattle.tick_time.specs.declared.rates.Rate.{Rate}
use Rattle.tick_time.specs.declared.spans.Span.{Span}
use Rattle.tick_time.specs.declared.times.Time.{Time}
use Rattle.tick_time.specs.Frames.{IsFrames}
use Rattle.json_value.specs.declared.Json.{Json, out-Json}
use Rattle.json_value.specs.declared.Json.TheOpen.{Json-F}
use Rattle.otio_model.specs.declared.media.Media.{Media}
use Rattle.otio_model.specs.declared.media.Media.TheVariants.{External, Missing}
use Rattle.otio_model.specs.declared.effect_types.Effect.{Effect}
use Rattle.otio_model.specs.declared.effect_types.Effect.TheVariants.{Warp, Freeze}
use Rattle.otio_model.specs.declared.compositions.Clip.{Clip as ClipRow}
use Rattle.otio_model.specs.declared.compositions.Gap.{Gap as GapRow}
use Rattle.otio_model.specs.declared.compositions.Transition.{Transition as TransitionRow}
use Rattle.otio_model.specs.declared.compositions.ItemOf.{ItemOf}
use Rattle.otio_model.specs.declared.compositions.ItemOf.TheVariants.{Clip, Gap, Transition, Track}
use Rattle.otio_model.specs.declared.compositions.Listed.{Listed}
use Rattle.otio_model.specs.declared.compositions.TrackOf.{TrackOf}
use Rattle.otio_model.specs.declared.timelines.Timeline.{Timeline}
use Rattle.otio_model.specs.Trees.{items_of}
use Rattle.edl_list.specs.declared.list.Channel.{Channel}
use Rattle.edl_list.specs.declared.list.Channel.TheVariants.{V, A, A2}
use Rattle.edl_list.specs.declared.list.EventList.{EventList}
use Rattle.edl_list.specs.declared.list.Reel.{Reel}
use Rattle.edl_list.specs.declared.list.Reel.TheVariants.{Black, Named}
use Rattle.edl_list.specs.declared.list.Side.{Side}
use Rattle.edl_list.specs.declared.list.Cross.{Cross}
use Rattle.edl_list.specs.declared.list.Cross.TheVariants.{Cut, Dissolve, Wipe}
use Rattle.edl_list.specs.declared.list.Event.{Event}
use Rattle.edl_list.specs.Speeds.{side_speed}
use Rattle.media_rows.specs.declared.row.MediaRow.{MediaRow}
use Rattle.edl_frames.specs.Shown.{on_channel}
use Rattle.media_rows.specs.Rows.{MediaRows, row_of}

-- ---- times

-- the span is so many frames of the rate, from one on
pub record IsSpanOf (rate : Rate) (start count : ℤ) (s : Span) : Type 0 where
  pub from : IsFrames rate start s.start
  pub long : IsFrames rate count s.len

abbrev pub HasSpan : Rate → ℤ → ℤ → Option Span → Type 0
HasSpan rate start count o = (s : Span) × (o ≡ Some s) × IsSpanOf rate start count s

abbrev pub HasFrames : Rate → ℤ → Option Time → Type 0
HasFrames rate n o = (t : Time) × (o ≡ Some t) × IsFrames rate n t

-- ---- items

-- a still, and a change to so many millionths
abbrev pub still : Effect
still = Freeze (record {
  metadata = [];
  name = [];
  effect_name = [];
  time_scalar = pos 0;
  rest = [];
})

abbrev pub warp : ℕ → Effect
warp speed = Warp (record {
  metadata = [];
  name = [];
  effect_name = [];
  time_scalar = pos speed;
  rest = [];
})

-- the effects that give a speed in millionths
abbrev pub effects_at : ℕ → List Effect
effects_at speed =
    cond (speed == 1000000) [] (cond (speed == 0) (still ∷ []) (warp speed ∷ []))

-- the value at the name, and nothing else
abbrev pub IsOnly : List ℕ → Json → Json → Type 0
IsOnly name value j = out-Json j ≡ Json-F.Map ((name, value) ∷ [])

-- the members tell of the reel: {"cmx_3600": {"reel": REEL}}
pub record TellsReel (reel : List ℕ) (metadata : List (List ℕ × Json)) : Type 0 where
  pub told : Json
  pub text : Json
  pub outer : metadata ≡ (codes "cmx_3600", told) ∷ []
  pub inner : IsOnly (codes "reel") text told
  pub is : out-Json text ≡ Json-F.Str reel

-- media that aren't known
abbrev pub missing : Media
missing = Missing (record { metadata = []; name = []; available_range = None; rest = [] })

-- media at a URL that there are in a span
abbrev pub external : List ℕ → Span → Media
external url s = External (record {
  metadata = [];
  name = [];
  available_range = Some s;
  target_url = url;
  rest = [];
})

-- the media of a reel: what its row lists, or none that are known
abbrev pub IsReference : Option MediaRow → Media → Type 0
IsReference None m = m ≡ missing
IsReference (Some row) m =
    (s : Span) × IsSpanOf row.rate row.start row.count s × (m ≡ external row.url s)

-- the clip of a side of a reel that has this row, so many frames of the record long
pub record IsClip
    (rate : Rate) (row : Option MediaRow) (side : Side) (reel : List ℕ) (count : ℤ)
    (x : ItemOf Listed) : Type 0 where
  pub clip : ClipRow
  pub is : x ≡ Clip clip
  pub metadata : TellsReel reel clip.metadata
  pub name : clip.name ≡ unwrap_or side.name reel
  pub source : HasSpan rate side.src_in count clip.source_range
  pub effects : clip.effects ≡ effects_at (side_speed rate side)
  pub markers : clip.markers ≡ []
  pub enabled : clip.enabled ≡ true
  pub reference : Media
  pub references : clip.media_references ≡ (codes "DEFAULT_MEDIA", reference) ∷ []
  pub listed : IsReference row reference
  pub key : clip.active_media_reference_key ≡ codes "DEFAULT_MEDIA"
  pub rest : clip.rest ≡ []

-- a gap, so many frames of the record long
pub record IsGap (rate : Rate) (count : ℤ) (x : ItemOf Listed) : Type 0 where
  pub gap : GapRow
  pub is : x ≡ Gap gap
  pub metadata : gap.metadata ≡ []
  pub name : gap.name ≡ []
  pub source : HasSpan rate (pos 0) count gap.source_range
  pub effects : gap.effects ≡ []
  pub markers : gap.markers ≡ []
  pub enabled : gap.enabled ≡ true
  pub rest : gap.rest ≡ []

abbrev pub IsReelItem : Rate → MediaRows → Side → Reel → ℤ → ItemOf Listed → Type 0
IsReelItem rate media side Black count x = IsGap rate count x
IsReelItem rate media side (Named reel) count x =
    IsClip rate (row_of media reel) side reel count x

-- the item of a side: a gap for black, else a clip
abbrev pub IsItem : Rate → MediaRows → Side → ℤ → ItemOf Listed → Type 0
IsItem rate media side count x = IsReelItem rate media side side.reel count x

-- the item of an event, as long as its record span
abbrev pub IsItemOf : Rate → MediaRows → Event → ItemOf Listed → Type 0
IsItemOf rate media e x = IsItem rate media e.to (e.rec_out -ℤ e.rec_in) x

-- the transition of a type, over so many frames from its cut on
pub record IsTransition (rate : Rate) (type : List ℕ) (frames : ℕ) (x : ItemOf Listed)
    : Type 0 where
  pub transition : TransitionRow
  pub is : x ≡ Transition transition
  pub metadata : transition.metadata ≡ []
  pub name : transition.name ≡ []
  pub kind : transition.transition_type ≡ type
  pub before : HasFrames rate (pos 0) transition.in_offset
  pub after : HasFrames rate (pos frames) transition.out_offset
  pub rest : transition.rest ≡ []

-- ---- what serves as an outgoing side

abbrev pub is_same_reel : Reel → Reel → Bool
is_same_reel Black Black = true
is_same_reel Black (Named b) = false
is_same_reel (Named a) Black = false
is_same_reel (Named a) (Named b) = bytes_eq a b

abbrev pub is_black : Reel → Bool
is_black Black = true
is_black (Named reel) = false

-- the source of an event has come to a frame at its end
abbrev pub has_come : Rate → Event → ℤ → Bool
has_come rate e to =
    int_eq
    ((e.to.src_in *ℤ pos 1000000) +ℤ ((e.rec_out -ℤ e.rec_in) *ℤ pos (side_speed rate e.to)))
    (to *ℤ pos 1000000)

-- the event ends at the frame, and what it shows goes on as the side: the same reel and speed, and
-- its source has come to that of the side
abbrev pub goes_on : Rate → Event → ℤ → Side → Bool
goes_on rate e at side = int_eq e.rec_out at
    && (is_same_reel e.to.reel side.reel
    && ((side_speed rate e.to == side_speed rate side) && has_come rate e side.src_in))

-- what stands before is a gap: the event ends earlier, or is black
abbrev pub leaves_gap : Event → ℤ → Bool
leaves_gap e at = int_lt e.rec_out at || is_black e.to.reel

-- whether the item before, that of the event before or the gap behind it, serves as the side that
-- goes out at a frame; the head of a track serves as black
abbrev pub serves : Rate → Option Event → ℤ → Side → Bool
serves rate None at side = is_black side.reel
serves rate (Some e) at side =
    cond (is_black side.reel) (leaves_gap e at) (goes_on rate e at side)

-- ---- the children of a channel's track

-- three digits: the last ones of a number
abbrev pub wipe_digits : ℕ → List ℕ
wipe_digits n = (((n / 100) % 10) + 48) ∷ (((n / 10) % 10) + 48) ∷ ((n % 10) + 48) ∷ []

-- the type of a wipe of a code (SMPTE 258M)
abbrev pub wipe_type : ℕ → List ℕ
wipe_type code = codes "SMPTE_Wipe_" ++ wipe_digits code

-- a transition's type, how many frames it has, and the side that goes out
pub record Pair : Type 0 where
  pub type : List ℕ
  pub frames : ℕ
  pub from : Side

abbrev pub pair_as : List ℕ → ℕ → Side → Pair
pair_as type frames from = record { type = type; frames = frames; from = from }

-- how an event begins that is no cut
abbrev pub pair_of : Cross → Option Pair
pair_of Cut = None
pair_of (Dissolve frames from) = Some (pair_as (codes "SMPTE_Dissolve") frames from)
pair_of (Wipe code frames from) = Some (pair_as (wipe_type code) frames from)

-- the items of a channel's events from a record frame on, where the event before is this one
pub data AreItems (rate : Rate) (media : MediaRows)
    : Option Event → ℤ → List Event → List (ItemOf Listed) → Type 0 where
  end : (before : Option Event) (at : ℤ) → AreItems rate media before at [] []
  -- record time between events is a gap
  gap : (before : Option Event) (at : ℤ) (e : Event) (es : List Event)
      (x : ItemOf Listed) (items : List (ItemOf Listed))
      → at <ℤ e.rec_in → IsGap rate (e.rec_in -ℤ at) x
      → AreItems rate media before e.rec_in (e ∷ es) items
      → AreItems rate media before at (e ∷ es) (x ∷ items)
  -- an event that begins at once is an item
  cut : (before : Option Event) (at : ℤ) (e : Event) (es : List Event)
      (x : ItemOf Listed) (items : List (ItemOf Listed))
      → at ≡ e.rec_in → pair_of e.cross ≡ None → IsItemOf rate media e x
      → AreItems rate media (Some e) e.rec_out es items
      → AreItems rate media before at (e ∷ es) (x ∷ items)
  -- a pair is a transition and an item, where the item before serves as the outgoing side
  pair : (before : Option Event) (at : ℤ) (e : Event) (es : List Event) (p : Pair)
      (t x : ItemOf Listed) (items : List (ItemOf Listed))
      → at ≡ e.rec_in → pair_of e.cross ≡ Some p → serves rate before at p.from ≡ true
      → IsTransition rate p.type p.frames t → IsItemOf rate media e x
      → AreItems rate media (Some e) e.rec_out es items
      → AreItems rate media before at (e ∷ es) (t ∷ x ∷ items)
  -- else an item of no length for the outgoing side stands before the transition
  pair_with_side : (before : Option Event) (at : ℤ) (e : Event) (es : List Event) (p : Pair)
      (s t x : ItemOf Listed) (items : List (ItemOf Listed))
      → at ≡ e.rec_in → pair_of e.cross ≡ Some p → serves rate before at p.from ≡ false
      → IsItem rate media p.from (pos 0) s
      → IsTransition rate p.type p.frames t → IsItemOf rate media e x
      → AreItems rate media (Some e) e.rec_out es items
      → AreItems rate media before at (e ∷ es) (s ∷ t ∷ x ∷ items)

-- ---- the timeline

abbrev pub channel_name : Channel → List ℕ
channel_name V = codes "V"
channel_name A = codes "A"
channel_name A2 = codes "A2"

abbrev pub channel_kind : Channel → List ℕ
channel_kind V = codes "Video"
channel_kind A = codes "Audio"
channel_kind A2 = codes "Audio"

-- the least record in of z and these
abbrev pub least_in : ℤ → List Event → ℤ
least_in z [] = z
least_in z (e ∷ es) = least_in (int_min z e.rec_in) es

-- the least record in, and 0 without events
abbrev pub first_record : List Event → ℤ
first_record [] = pos 0
first_record (e ∷ es) = least_in e.rec_in es

-- the children of a channel's track
abbrev pub AreChildren : EventList → MediaRows → Channel → List (ItemOf Listed) → Type 0
AreChildren list media c items =
    AreItems list.rate media None (first_record list.events) (on_channel c list.events) items

-- the track of a channel
pub record IsTrackOf (list : EventList) (media : MediaRows) (c : Channel) (x : ItemOf Listed)
    : Type 0 where
  pub track : TrackOf Listed
  pub is : x ≡ Track track
  pub metadata : track.metadata ≡ []
  pub name : track.name ≡ channel_name c
  pub source : track.source_range ≡ None
  pub effects : track.effects ≡ []
  pub markers : track.markers ≡ []
  pub enabled : track.enabled ≡ true
  pub kind : track.kind ≡ channel_kind c
  pub children : AreChildren list media c (items_of track.children)
  pub rest : track.rest ≡ []

abbrev pub has_events : List Event → Bool
has_events [] = false
has_events (e ∷ es) = true

-- a channel has a track where it has an event, and A also where A2 has one
abbrev pub has_track : List Event → Channel → Bool
has_track events V = has_events (on_channel V events)
has_track events A = has_events (on_channel A events) || has_events (on_channel A2 events)
has_track events A2 = has_events (on_channel A2 events)

-- the tracks of these channels, each where it has one
pub data AreTracks (list : EventList) (media : MediaRows)
    : List Channel → List (ItemOf Listed) → Type 0 where
  none : AreTracks list media [] []
  used : (c : Channel) (cs : List Channel) (x : ItemOf Listed) (xs : List (ItemOf Listed))
      → has_track list.events c ≡ true → IsTrackOf list media c x
      → AreTracks list media cs xs → AreTracks list media (c ∷ cs) (x ∷ xs)
  unused : (c : Channel) (cs : List Channel) (xs : List (ItemOf Listed))
      → has_track list.events c ≡ false
      → AreTracks list media cs xs → AreTracks list media (c ∷ cs) xs

-- the timeline of a list
pub record IsTimelineOf (list : EventList) (media : MediaRows) (t : Timeline) : Type 0 where
  pub metadata : t.metadata ≡ []
  pub name : t.name ≡ list.title
  pub start : HasFrames list.rate (first_record list.events) t.global_start_time
  pub tracks : AreTracks list media (V ∷ A ∷ A2 ∷ []) (items_of t.tracks.children)
  pub root_metadata : t.tracks.metadata ≡ []
  pub root_name : t.tracks.name ≡ codes "tracks"
  pub root_source : t.tracks.source_range ≡ None
  pub root_effects : t.tracks.effects ≡ []
  pub root_markers : t.tracks.markers ≡ []
  pub root_enabled : t.tracks.enabled ≡ true
  pub root_rest : t.tracks.rest ≡ []
  pub rest : t.rest ≡ []
