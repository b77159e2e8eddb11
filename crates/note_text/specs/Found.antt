-- The notes of a timeline for the list of its events.
use Rattle.std.specs.Prelude.{◌≡◌, ℕ, suc, ℤ, pos, ◌+ℤ◌, cond, List, [], ◌∷◌, ◌++◌, Option, Some, None, codes, option_and_then, option_map}
use Rattle.std.specs.Int.{int_div_euclid}
use Rattle.sequences.specs.Pairs.{value_of}
use Rattle.json_value.specs.declared.Json.{Json, out-Json}
use Rattle.json_value.specs.declared.Json.TheOpen.{Json-F}
use Rattle.tick_time.specs.declared.rates.Rate.{Rate}
use Rattle.tick_time.specs.Rates.{frame}
use Rattle.tick_time.specs.Numerals.{IsNumeral}
use Rattle.otio_model.specs.declared.markers.Marker.{Marker}
use Rattle.otio_model.specs.declared.markers.Marker.TheVariants.{Known, Kept}
use Rattle.otio_model.specs.declared.markers.Mark.{Mark}
use Rattle.otio_model.specs.declared.compositions.Clip.{Clip as ClipRow}
use Rattle.otio_model.specs.declared.compositions.ItemOf.{ItemOf}
use Rattle.otio_model.specs.declared.compositions.ItemOf.TheVariants.{Clip, Gap, Transition, Stack, Track}
use Rattle.otio_model.specs.declared.compositions.Listed.{Listed}
use Rattle.otio_model.specs.declared.timelines.Timeline.{Timeline}
use Rattle.otio_model.specs.Trees.{item_at}
use Rattle.coord.specs.Keys.{member_in, text_in}
use Rattle.edl_list.specs.declared.list.Event.{Event}
use Rattle.edl_list.specs.declared.list.EventList.{EventList}
use Rattle.edl_frames.specs.Conformed.{is_black}
use Rattle.edl_frames.specs.Homes.{AreHomes}
use Rattle.edl_text.specs.Columns.{cleaned}
use Rattle.note_text.specs.Forms.{IsColor}
use Rattle.note_text.specs.Belonging.{first_shown}
use Rattle.note_text.specs.declared.notes.Triple.{Triple}
use Rattle.note_text.specs.declared.notes.Said.{Said}
use Rattle.note_text.specs.declared.notes.Said.TheVariants.{Loc, Sop, Sat}
use Rattle.note_text.specs.declared.notes.Note.{Note}

-- ---- color corrections

-- a member of metadata below the member `cdl`
abbrev pub color_member : List ℕ → List (List ℕ × Json) → Option Json
color_member name metadata = option_and_then (λ j. member_in name (out-Json j))
    (value_of (codes "cdl") metadata)

-- the value is a numeral of JSON, so spelled
abbrev pub IsNumeralOf : Option Json → List ℕ → Type 0
IsNumeralOf None spelled = ⊥
IsNumeralOf (Some j) spelled = (out-Json j ≡ Json-F.Num spelled) × IsNumeral spelled

-- the value is a list of these three numerals
pub record AreNumeralsOf (value : Json) (t : Triple) : Type 0 where
  pub r : Json
  pub g : Json
  pub b : Json
  pub list : out-Json value ≡ Json-F.List (r ∷ g ∷ b ∷ [])
  pub r_is : IsNumeralOf (Some r) t.r
  pub g_is : IsNumeralOf (Some g) t.g
  pub b_is : IsNumeralOf (Some b) t.b

-- the member is a list of these three numerals
pub record IsTripleOf (name : List ℕ) (sop : Json) (t : Triple) : Type 0 where
  pub value : Json
  pub member : member_in name (out-Json sop) ≡ Some value
  pub numerals : AreNumeralsOf value t

-- metadata have this slope, offset and power
pub record HasSop (metadata : List (List ℕ × Json)) (slope offset power : Triple)
    : Type 0 where
  pub sop : Json
  pub member : color_member (codes "asc_sop") metadata ≡ Some sop
  pub slope_is : IsTripleOf (codes "slope") sop slope
  pub offset_is : IsTripleOf (codes "offset") sop offset
  pub power_is : IsTripleOf (codes "power") sop power

-- they have this saturation
abbrev pub HasSat : List (List ℕ × Json) → List ℕ → Type 0
HasSat metadata numeral = IsNumeralOf (color_member (codes "asc_sat") metadata) numeral

-- what metadata say of slope, offset and power, if anything
pub data SaysSop (metadata : List (List ℕ × Json)) : List Said → Type 0 where
  some : (slope offset power : Triple) → HasSop metadata slope offset power
      → SaysSop metadata (Sop slope offset power ∷ [])
  none : ((slope offset power : Triple) → HasSop metadata slope offset power → ⊥)
      → SaysSop metadata []

-- what they say of saturation, if anything
pub data SaysSat (metadata : List (List ℕ × Json)) : List Said → Type 0 where
  some : (numeral : List ℕ) → HasSat metadata numeral → SaysSat metadata (Sat numeral ∷ [])
  none : ((numeral : List ℕ) → HasSat metadata numeral → ⊥) → SaysSat metadata []

-- ---- markers

-- the characters of the member `color` of a marker
abbrev pub color_text : Mark → Option (List ℕ)
color_text mark = option_and_then (λ j. text_in (out-Json j)) (value_of (codes "color") mark.rest)

-- a color, where the member is one, else `RED`
pub data IsColorOf (mark : Mark) : List ℕ → Type 0 where
  own : (color : List ℕ) → color_text mark ≡ Some color → IsColor color → IsColorOf mark color
  red : ((color : List ℕ) → color_text mark ≡ Some color → IsColor color → ⊥)
      → IsColorOf mark (codes "RED")

-- the source frame in which the range of a marker starts
abbrev pub marked_frame : Rate → Mark → Option ℤ
marked_frame rate mark = option_map
    (λ s. int_div_euclid s.start.ticks (pos (frame rate.num rate.den))) mark.marked_range

-- what a marker says: a locator at the first record frame of the event that shows its frame
pub data SaysMark (rate : Rate) (e : Event) (mark : Mark) : List Said → Type 0 where
  some : (v : ℤ) (k : ℕ) (color : List ℕ) → marked_frame rate mark ≡ Some v
      → first_shown rate e v ≡ Some k → IsColorOf mark color
      → SaysMark rate e mark (Loc (e.rec_in +ℤ pos k) color (cleaned mark.name) ∷ [])
  none : ((v : ℤ) (k : ℕ) → marked_frame rate mark ≡ Some v → first_shown rate e v ≡ Some k → ⊥)
      → SaysMark rate e mark []

abbrev pub SaysMarker : Rate → Event → Marker → List Said → Type 0
SaysMarker rate e (Known mark) said = SaysMark rate e mark said
SaysMarker rate e (Kept j) said = said ≡ []

-- what markers say, one after another
abbrev pub SayMarkers : Rate → Event → List Marker → List Said → Type 0
SayMarkers rate e [] said = said ≡ []
SayMarkers rate e (m ∷ markers) said = (first : List Said) × (more : List Said)
    × (said ≡ first ++ more) × SaysMarker rate e m first × SayMarkers rate e markers more

-- ---- events

-- what a clip says: its color correction, and then its markers
pub record SaysClip (rate : Rate) (e : Event) (c : ClipRow) (said : List Said) : Type 0 where
  pub sop : List Said
  pub sat : List Said
  pub marks : List Said
  pub is : said ≡ sop ++ (sat ++ marks)
  pub is_sop : SaysSop c.metadata sop
  pub is_sat : SaysSat c.metadata sat
  pub are_marks : SayMarkers rate e c.markers marks

-- what the item at its home says of an event: a clip, where the incoming side isn't black
abbrev pub SaysHome : Rate → Event → Option (ItemOf Listed) → List Said → Type 0
SaysHome rate e None said = said ≡ []
SaysHome rate e (Some (Clip c)) said =
    cond (is_black e.to.reel) (said ≡ []) (SaysClip rate e c said)
SaysHome rate e (Some (Gap g)) said = said ≡ []
SaysHome rate e (Some (Transition t)) said = said ≡ []
SaysHome rate e (Some (Stack s)) said = said ≡ []
SaysHome rate e (Some (Track t)) said = said ≡ []

-- what is said of the event at a place, as notes
abbrev pub as_notes : ℕ → List Said → List Note
as_notes index [] = []
as_notes index (said ∷ more) = record { event = index; said = said } ∷ as_notes index more

-- the notes of events from the one at this place on, by their homes
abbrev pub AreNotesFrom : Timeline → Rate → ℕ → List Event → List (List ℕ) → List Note → Type 0
AreNotesFrom t rate index [] homes notes = notes ≡ []
AreNotesFrom t rate index (e ∷ events) [] notes = ⊥
AreNotesFrom t rate index (e ∷ events) (home ∷ homes) notes =
    (said : List Said) × (more : List Note) × (notes ≡ as_notes index said ++ more)
    × SaysHome rate e (item_at home t.tracks.children) said
    × AreNotesFrom t rate (suc index) events homes more

-- the notes of a timeline for the list of its events
pub record AreNotesOf (t : Timeline) (list : EventList) (notes : List Note) : Type 0 where
  pub homes : List (List ℕ)
  pub are_homes : AreHomes t list homes
  pub are : AreNotesFrom t list.rate 0 list.events homes notes
