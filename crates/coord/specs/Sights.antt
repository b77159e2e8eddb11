-- What items show.
use Rattle.std.specs.Prelude.{ℕ, ℤ, pos, ◌&&◌, cond, List, map, Option, Some, None}
use Rattle.std.specs.Str.{bytes_eq}
use Rattle.otio_model.specs.declared.compositions.ItemOf.{ItemOf}
use Rattle.otio_model.specs.declared.compositions.ItemOf.TheVariants.{Clip, Gap, Transition, Stack, Track}
use Rattle.otio_model.specs.declared.compositions.Listed.{Listed, fold-Listed}
use Rattle.otio_model.specs.declared.compositions.Listed.TheOpen.{Listed-F}
use Rattle.otio_model.specs.Lengths.{length_by, trimmed_start, or_zero}
use Rattle.otio_model.specs.Overlaps.{offset_of}
use Rattle.coord.specs.Looks.{Key, Show, Blank, Frame, FrameRate, Overlap, Look, track_shows, stack_shows}
use Rattle.coord.specs.Speeds.{speed_of, media_at}
use Rattle.coord.specs.Keys.{key_of, reel_of, media_rate}

-- for whom an item shows: the kind of track, what is kept of the media's rate, and by what a clip's
-- frames are known, of its reel and its key
pub record View : Type 0 where
  pub kind : List ℕ
  pub rate_kept : FrameRate → FrameRate
  pub key : Option (List ℕ) → Key → Key

-- a viewer for a kind of track who knows each clip's frames by the clip's own key
abbrev pub viewer : (FrameRate → FrameRate) → List ℕ → View
viewer rate_kept kind = record { kind = kind; rate_kept = rate_kept; key = λ reel key. key }

-- one who keeps the media's whole rate besides
abbrev pub exact : List ℕ → View
exact = viewer (λ rate. rate)

-- all that is known of an item from outside: its length where it has one, what it shows at each
-- instant, and its overlap if it is a transition
pub record Sight : Type 0 where
  pub length : Option ℕ
  pub shows : View → ℤ → Show
  pub overlap : Option Overlap

abbrev pub overlap_of : {C : Type 0} → ItemOf C → Option Overlap
overlap_of (Clip c) = None
overlap_of (Gap g) = None
overlap_of (Transition t) = Some (record {
  kind = t.transition_type;
  before = offset_of t.in_offset;
  after = offset_of t.out_offset;
})
overlap_of (Stack s) = None
overlap_of (Track t) = None

-- an item as a viewer sees it in its list
abbrev pub seen : View → Sight → Look
seen v x = record { length = pos (or_zero x.length); shows = x.shows v; overlap = x.overlap }

-- the frame of a key at an instant; a clip of no range has no rate to count frames by
abbrev pub framed : View → Key → ℤ → Option FrameRate → Show
framed v key m None = Blank
framed v key m (Some rate) = Frame key m (v.rate_kept rate)

-- what an item shows where its media, or its children, stand at m, where the function gives how its
-- children look
abbrev pub shows_inside : {C : Type 0} → (C → List Sight) → ItemOf C → View → ℤ → Show
shows_inside f (Clip c) v m = cond c.enabled
    (framed v (v.key (reel_of c) (key_of c)) m (media_rate c)) Blank
shows_inside f (Gap g) v m = Blank
shows_inside f (Transition t) v m = Blank
shows_inside f (Stack s) v m = cond s.enabled (stack_shows (map (seen v) (f s.children)) m) Blank
shows_inside f (Track t) v m =
    cond (t.enabled && bytes_eq t.kind v.kind) (track_shows (map (seen v) (f t.children)) m) Blank

-- what an item shows at u ticks from its start, also outside its length
abbrev pub shows_by : {C : Type 0} → (C → List Sight) → ItemOf C → View → ℤ → Show
shows_by f x v u = shows_inside f x v (media_at (trimmed_start x) (speed_of x) u)

abbrev pub lengths_seen : List Sight → List (Option ℕ)
lengths_seen l = map (λ (x : Sight). x.length) l

-- how an item looks, where the function gives how its children look
abbrev pub sight_by : {C : Type 0} → (C → List Sight) → ItemOf C → Sight
sight_by f x = record {
  length = length_by (λ c. lengths_seen (f c)) x;
  shows = shows_by f x;
  overlap = overlap_of x;
}

abbrev pub sights_step : Listed-F (List Sight) → List Sight
sights_step l = map (sight_by (λ x. x)) l.list

-- how children look
abbrev pub sights : Listed → List Sight
sights = fold-Listed (List Sight) sights_step

-- how an item looks
abbrev pub sight : ItemOf Listed → Sight
sight = sight_by sights

-- how the items of a list look to a viewer
abbrev pub looks : View → List (ItemOf Listed) → List Look
looks v l = map (λ x. seen v (sight x)) l
