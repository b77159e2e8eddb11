-- The list of a timeline, and the first place that a list doesn't carry.
use Rattle.std.specs.Prelude.{◌≡◌, ℕ, ◌+◌, ◌==◌, suc, pos, nat_lt, nat_le, Bool, not, ◌&&◌, cond, List, [], ◌∷◌, ◌++◌, Option, Some, None, codes, length, map, AllPairs, slice_get}
use Rattle.std.specs.Str.{bytes_eq}
use Rattle.otio_model.specs.declared.compositions.TrackOf.{TrackOf}
use Rattle.otio_model.specs.declared.compositions.ItemOf.{ItemOf}
use Rattle.otio_model.specs.declared.compositions.ItemOf.TheVariants.{Clip, Gap, Transition, Stack, Track}
use Rattle.otio_model.specs.declared.compositions.Listed.{Listed}
use Rattle.otio_model.specs.declared.timelines.Timeline.{Timeline}
use Rattle.otio_model.specs.Trees.{items_of}
use Rattle.edl_list.specs.declared.list.Channel.{Channel}
use Rattle.edl_list.specs.declared.list.Channel.TheVariants.{V, A, A2}
use Rattle.edl_list.specs.declared.list.Event.{Event}
use Rattle.edl_list.specs.declared.list.EventList.{EventList}
use Rattle.edl_list.specs.Formed.{AreInOrder}
use Rattle.coord.specs.Keys.{frame_rate}
use Rattle.coord.specs.Programs.{record_rate}
use Rattle.edl_frames.specs.Shown.{on_channel}
use Rattle.media_rows.specs.Rows.{MediaRows}
use Rattle.edl_frames.specs.Channels.{channel_track}
use Rattle.edl_list.specs.Layouts.{most_events}
use Rattle.edl_frames.specs.declared.reasons.Why.{Why}
use Rattle.edl_frames.specs.declared.reasons.NotCarried.{NotCarried}
use Rattle.edl_frames.specs.declared.reasons.NotCarried.TheVariants.{At, Memory}
use Rattle.edl_frames.specs.Jobs.{Job, job_of, mode_in}
use Rattle.edl_frames.specs.Seats.{Seat, seats, head, is_there}
use Rattle.edl_frames.specs.ChildEvents.{events_on, unnumbered, events_count}
use Rattle.edl_frames.specs.ChildReasons.{reason_of}
use Rattle.edl_frames.specs.declared.reasons.Why.TheVariants as W

-- how many tracks of a kind stand among these
abbrev pub count_of_kind : List ℕ → List (ItemOf Listed) → ℕ
count_of_kind kind [] = 0
count_of_kind kind ((Clip c) ∷ l) = count_of_kind kind l
count_of_kind kind ((Gap g) ∷ l) = count_of_kind kind l
count_of_kind kind ((Transition t) ∷ l) = count_of_kind kind l
count_of_kind kind ((Stack s) ∷ l) = count_of_kind kind l
count_of_kind kind ((Track t) ∷ l) = cond (bytes_eq t.kind kind) 1 0 + count_of_kind kind l

-- the channel of a track behind these
abbrev pub channel_of : List (ItemOf Listed) → TrackOf Listed → Option Channel
channel_of past t =
    cond (bytes_eq t.kind (codes "Video"))
    (cond (count_of_kind (codes "Video") past == 0) (Some V) None)
    (cond (bytes_eq t.kind (codes "Audio"))
    (cond (count_of_kind (codes "Audio") past == 0) (Some A)
    (cond (count_of_kind (codes "Audio") past == 1) (Some A2) None)) None)

-- the track has neither a source range nor effects
abbrev pub is_plain : TrackOf Listed → Bool
is_plain t = not (is_there t.source_range) && nat_le (length t.effects) 0

-- a place and what is said of it
abbrev pub Examined : Type 0
Examined = List ℕ × Option Why

-- the children of a track, each with its reason
abbrev pub examine_seats : Job → Channel → ℕ → ℕ → List Seat → List Examined
examine_seats j c k i [] = []
examine_seats j c k i (s ∷ ss) = (k ∷ i ∷ [], reason_of j c s) ∷ examine_seats j c k (suc i) ss

-- a track and its children; a track that is disabled isn't looked into
abbrev pub examine_track : Job → ℕ → TrackOf Listed → Option Channel → List Examined
examine_track j k t None = (k ∷ [], Some W.Tracks) ∷ []
examine_track j k t (Some c) =
    cond t.enabled ((k ∷ [], cond (is_plain t) None (Some W.Nested))
    ∷ examine_seats j c k 0 (seats (pos 0) head (items_of t.children))) []

-- a root child with all that is said of it and its children
abbrev pub examine : Job → ℕ → List (ItemOf Listed) → ItemOf Listed → List Examined
examine j k past (Clip c) = (k ∷ [], Some W.Tracks) ∷ []
examine j k past (Gap g) = (k ∷ [], Some W.Tracks) ∷ []
examine j k past (Transition t) = (k ∷ [], Some W.Tracks) ∷ []
examine j k past (Stack s) = (k ∷ [], Some W.Tracks) ∷ []
examine j k past (Track t) = examine_track j k t (channel_of past t)

-- all children in document order
abbrev pub examine_all : Job → ℕ → List (ItemOf Listed) → List (ItemOf Listed) → List Examined
examine_all j k past [] = []
examine_all j k past (x ∷ l) = examine j k past x ++ examine_all j (suc k) (past ++ (x ∷ [])) l

-- the first place of which something is said
abbrev pub first_said : List Examined → Option (List ℕ × Why)
first_said [] = None
first_said (p ∷ ps) = elim p.1 [ None ↦ first_said ps | Some why ↦ Some (p.0, why) ]

-- the layout has no numbers for so many events
abbrev pub too_many : Job → List (ItemOf Listed) → Option Why
too_many j items = cond (nat_lt (most_events j.layout) (events_count j items)) (Some W.Events) None

-- the first place that isn't carried, with its first reason; the empty place stands for the
-- timeline itself
abbrev pub not_carried : Timeline → MediaRows → (drop wide : Bool) → Option (List ℕ × Why)
not_carried t media drop wide =
    first_said (([], cond (is_there (mode_in (record_rate t) drop)) None (Some W.NoTimecode))
    ∷ (examine_all (job_of t media drop wide) 0 [] (items_of t.tracks.children)
    ++ (([], too_many (job_of t media drop wide) (items_of t.tracks.children)) ∷ [])))

-- the list of a timeline: on each channel the events of its track, all in order, numbered from 1
pub record IsListOf (t : Timeline) (media : MediaRows) (drop wide : Bool) (list : EventList)
    : Type 0 where
  pub title : list.title ≡ t.name
  pub rate : frame_rate list.rate ≡ record_rate t
  pub mode : list.drop ≡ drop
  pub events : (c : Channel) → map unnumbered (on_channel c list.events)
      ≡ events_on (job_of t media drop wide) c (channel_track c (items_of t.tracks.children))
  pub order : AllPairs AreInOrder list.events
  pub numbered : (i : ℕ) (e : Event) → slice_get list.events i ≡ Some e → e.line ≡ i + 1

-- what an answer says of a timeline that has no list: this is the first place that isn't carried,
-- and its first reason; want of memory says nothing
abbrev pub IsNotCarried : Timeline → MediaRows → (drop wide : Bool) → NotCarried → Type 0
IsNotCarried t media drop wide (At place why) =
    not_carried t media drop wide ≡ Some (place, why)
IsNotCarried t media drop wide Memory = Unit {0}
