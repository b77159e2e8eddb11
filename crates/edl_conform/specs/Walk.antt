-- Words of the walk over a timeline; no public clause cites them.
use Rattle.std.specs.Prelude.{◌≡◌, ℕ, ◌==◌, pos, ◌≤ℤ◌, cond, ℤ, List, [], ◌∷◌, ◌++◌, Option, Some, None, AllPairs, codes, take, drop, map, filter_map, slice_get, ◌+◌}
use Rattle.std.specs.Str.{bytes_eq}
use Rattle.otio_model.specs.declared.compositions.TrackOf.{TrackOf}
use Rattle.otio_model.specs.declared.compositions.ItemOf.{ItemOf}
use Rattle.otio_model.specs.declared.compositions.ItemOf.TheVariants.{Track}
use Rattle.otio_model.specs.declared.compositions.Listed.{Listed}
use Rattle.edl_list.specs.declared.list.Channel.{Channel}
use Rattle.edl_list.specs.declared.list.Channel.TheVariants.{V, A, A2}
use Rattle.edl_list.specs.declared.list.Event.{Event}
use Rattle.edl_list.specs.Formed.{AreInOrder}
use Rattle.edl_frames.specs.declared.reasons.Why.{Why}
use Rattle.edl_frames.specs.declared.reasons.NotCarried.{NotCarried}
use Rattle.edl_frames.specs.declared.reasons.NotCarried.TheVariants.{At, Memory}
use Rattle.edl_frames.specs.Shown.{on_channel}
use Rattle.edl_frames.specs.Channels.{channel_track}
use Rattle.edl_frames.specs.Jobs.{Job}
use Rattle.edl_frames.specs.Seats.{Past, seats, head}
use Rattle.edl_frames.specs.ChildEvents.{event_of, track_events, events_on, unnumbered}
use Rattle.edl_frames.specs.Carried.{count_of_kind, examine_seats, examine_track, examine, examine_all, first_said}
use Rattle.edl_conform.specs.declared.children.Stop.{Stop}
use Rattle.edl_conform.specs.declared.events_from_tracks.Taken.{Taken}

-- no event begins before one that stands before it
abbrev pub AreRising : List Event → Type 0
AreRising = AllPairs (λ a b. a.rec_in ≤ℤ b.rec_in)

-- what is said first of the children of a track, the root child k
abbrev pub said_below : Job → Channel → ℕ → List (ItemOf Listed) → Option (List ℕ × Why)
said_below j c k items = first_said (examine_seats j c k 0 (seats (pos 0) head items))

-- whichever root child the track is: nothing is said of its children, and their events have come
-- behind the others; or this is said first
abbrev pub IsWalked
    : Job → Channel → List (ItemOf Listed) → (old new : List Event) → Option Stop → Type 0
IsWalked j c items old new None =
    ((k : ℕ) → said_below j c k items ≡ None) × (new ≡ old ++ track_events j c items)
IsWalked j c items old new (Some stop) =
    (k : ℕ) → said_below j c k items ≡ Some (k ∷ stop.index ∷ [], stop.why)

-- the channel of an Audio track behind so many Video and Audio tracks
abbrev pub sound_behind : Taken → Option Channel
sound_behind taken = cond (taken.audio == 0) (Some A) (cond (taken.audio == 1) (Some A2) None)

-- the channel of a track behind them
abbrev pub channel_behind : Taken → TrackOf Listed → Option Channel
channel_behind taken t =
    cond (bytes_eq t.kind (codes "Video")) (cond (taken.video == 0) (Some V) None)
    (cond (bytes_eq t.kind (codes "Audio")) (sound_behind taken) None)

-- so many, and a track on the channel
abbrev pub taken_after : Channel → Taken → Taken
taken_after V taken = record { video = 1; audio = taken.audio }
taken_after A taken = record { video = taken.video; audio = 1 }
taken_after A2 taken = record { video = taken.video; audio = 2 }

-- so many Video and Audio tracks stand among these
pub record AreTaken (past : List (ItemOf Listed)) (taken : Taken) : Type 0 where
  pub video : taken.video ≡ count_of_kind (codes "Video") past
  pub audio : taken.audio ≡ count_of_kind (codes "Audio") past

-- the events of these root children, on each channel in order of record in
pub record AreGathered (j : Job) (past : List (ItemOf Listed)) (events : List Event) : Type 0 where
  pub on : (c : Channel) → on_channel c events ≡ events_on j c (channel_track c past)
  pub rising : (c : Channel) → AreRising (events_on j c (channel_track c past))

-- nothing is said of a track, and its events have come behind the others
pub record AddsTrack (j : Job) (c : Channel) (k : ℕ) (t : TrackOf Listed) (old new : List Event)
    : Type 0 where
  pub said : first_said (examine_track j k t (Some c)) ≡ None
  pub added : new ≡ old ++ events_on j c (Some (Track t))
  pub rising : AreRising (events_on j c (Some (Track t)))

-- nothing is said of a root child behind these, and its events have come behind the others
pub record AddsRoot
    (j : Job) (k : ℕ) (past : List (ItemOf Listed)) (x : ItemOf Listed) (next : Taken)
    (old new : List Event) : Type 0 where
  pub taken : AreTaken (past ++ x ∷ []) next
  pub gathered : AreGathered j past old → AreGathered j (past ++ x ∷ []) new
  pub said : first_said (examine j k past x) ≡ None

-- the root children before i have come
pub record HasCome (j : Job) (items : List (ItemOf Listed)) (i : ℕ) (taken : Taken)
    (events : List Event) : Type 0 where
  pub taken_is : AreTaken (take i items) taken
  pub gathered : AreGathered j (take i items) events
  pub said : first_said (examine_all j 0 [] items)
      ≡ first_said (examine_all j i (take i items) (drop i items))

-- the children of a track before i have come, at an instant and behind what stands there
pub record IsWalking
    (j : Job) (c : Channel) (items : List (ItemOf Listed)) (i : ℕ) (at : ℤ) (past : Past)
    (old now : List Event) : Type 0 where
  pub said : (k : ℕ) → said_below j c k items
      ≡ first_said (examine_seats j c k i (seats at past (drop i items)))
  pub events : now ++ filter_map (event_of j c) (seats at past (drop i items))
      ≡ old ++ track_events j c items

-- the events that were gathered stand in order, with their places as lines; on a channel on which
-- they rise already they keep their order
pub record AreListed (gathered events : List Event) : Type 0 where
  pub order : AllPairs AreInOrder events
  pub channels : (c : Channel) → AreRising (on_channel c gathered)
      → map unnumbered (on_channel c events) ≡ map unnumbered (on_channel c gathered)
  pub lines : (i : ℕ) (e : Event) → slice_get events i ≡ Some e → e.line ≡ i + 1

-- what an answer says, where this is said first
abbrev pub IsSaid : Option (List ℕ × Why) → NotCarried → Type 0
IsSaid said (At place why) = said ≡ Some (place, why)
IsSaid said Memory = Unit {0}
