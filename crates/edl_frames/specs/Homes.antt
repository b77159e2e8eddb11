-- The places of the items whose events a list has.
use Rattle.std.specs.Prelude.{◌≡◌, ℕ, suc, pos, Bool, cond, List, [], ◌∷◌, ◌++◌, Option, Some, None, length, filter}
use Rattle.otio_model.specs.declared.compositions.ItemOf.{ItemOf}
use Rattle.otio_model.specs.declared.compositions.ItemOf.TheVariants.{Clip, Gap, Transition, Stack, Track}
use Rattle.otio_model.specs.declared.compositions.Listed.{Listed}
use Rattle.otio_model.specs.declared.compositions.TrackOf.{TrackOf}
use Rattle.otio_model.specs.declared.timelines.Timeline.{Timeline}
use Rattle.otio_model.specs.Trees.{items_of}
use Rattle.media_rows.specs.Rows.{MediaRows}
use Rattle.edl_list.specs.declared.list.Channel.{Channel}
use Rattle.edl_list.specs.declared.list.Event.{Event}
use Rattle.edl_list.specs.declared.list.EventList.{EventList}
use Rattle.edl_frames.specs.Shown.{is_on}
use Rattle.edl_frames.specs.Jobs.{Job, job_of}
use Rattle.edl_frames.specs.Seats.{Seat, seats, head}
use Rattle.edl_frames.specs.ChildEvents.{event_of, unnumbered}
use Rattle.edl_frames.specs.Carried.{channel_of, not_carried, IsListOf}

-- an event without its line, and the place of the item whose event it is
pub record Homed : Type 0 where
  pub event : Event
  pub home : List ℕ

-- the events of the children of a track, the root child k, each with the child's place
abbrev pub homed_seats : Job → Channel → ℕ → ℕ → List Seat → List Homed
homed_seats j c k i [] = []
homed_seats j c k i (s ∷ ss) = elim (event_of j c s) [
  | None ↦ homed_seats j c k (suc i) ss
  | Some e ↦ record { event = e; home = k ∷ i ∷ [] } ∷ homed_seats j c k (suc i) ss
]

-- those of a track of a channel, none where it is disabled or has no channel
abbrev pub homed_track : Job → ℕ → TrackOf Listed → Option Channel → List Homed
homed_track j k t None = []
homed_track j k t (Some c) =
    cond t.enabled (homed_seats j c k 0 (seats (pos 0) head (items_of t.children))) []

-- those of a root child after these
abbrev pub homed_root : Job → ℕ → List (ItemOf Listed) → ItemOf Listed → List Homed
homed_root j k past (Clip c) = []
homed_root j k past (Gap g) = []
homed_root j k past (Transition t) = []
homed_root j k past (Stack s) = []
homed_root j k past (Track t) = homed_track j k t (channel_of past t)

-- those of root children after these
abbrev pub homed_all : Job → ℕ → List (ItemOf Listed) → List (ItemOf Listed) → List Homed
homed_all j k past [] = []
homed_all j k past (x ∷ l) = homed_root j k past x ++ homed_all j (suc k) (past ++ x ∷ []) l

-- events without their lines, each with a place
abbrev pub paired : List Event → List (List ℕ) → List Homed
paired [] homes = []
paired (e ∷ events) [] = []
paired (e ∷ events) (home ∷ homes) =
    record { event = unnumbered e; home = home } ∷ paired events homes

abbrev pub homed_on : Channel → List Homed → List Homed
homed_on c l = filter (λ h. is_on c h.event) l

-- these are the homes of the events of a timeline's list, with this media list, in this mode and
-- layout: on each channel each event has the place of the item whose event it is
pub record AreHomesBy (t : Timeline) (media : MediaRows) (drop wide : Bool)
    (events : List Event) (homes : List (List ℕ)) : Type 0 where
  pub each : length homes ≡ length events
  pub on : (c : Channel) → homed_on c (paired events homes)
      ≡ homed_on c (homed_all (job_of t media drop wide) 0 [] (items_of t.tracks.children))

-- the list is that of the timeline, which a list carries, for some media list, mode and layout
pub record HasList (t : Timeline) (list : EventList) : Type 0 where
  pub media : MediaRows
  pub drop : Bool
  pub wide : Bool
  pub carried : not_carried t media drop wide ≡ None
  pub is : IsListOf t media drop wide list

-- the homes of the events, whichever media list, mode and layout the list is for
abbrev pub AreHomes : Timeline → EventList → List (List ℕ) → Type 0
AreHomes t list homes = (media : MediaRows) (drop wide : Bool) →
    not_carried t media drop wide ≡ None → IsListOf t media drop wide list →
    AreHomesBy t media drop wide list.events homes
