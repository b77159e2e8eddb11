-- What holds of each side that is written holds of all events of a timeline's list.
use Rattle.std.proofs.Common.{◌≡◌, refl, sym, ap, subst, ◌∙◌, ℤ, pos, ◌+ℤ◌, ◌-ℤ◌, Bool, true, false, cond, List, [], ◌∷◌, map, Option, Some, None, arith}
use Rattle.std.proofs.lemmas.Int.{ints}
use Rattle.tick_time.specs.declared.rates.Rate.{Rate}
use Rattle.otio_model.specs.declared.compositions.TrackOf.{TrackOf}
use Rattle.otio_model.specs.declared.compositions.ItemOf.{ItemOf}
use Rattle.otio_model.specs.declared.compositions.Listed.{Listed}
use Rattle.otio_model.specs.declared.timelines.Timeline.{Timeline}
use Rattle.otio_model.specs.Trees.{items_of}
use Rattle.coord.specs.Keys.{frame_rate}
use Rattle.coord.specs.Programs.{record_rate, start_frame}
use Rattle.coord.specs.Soundness.{IsCalm}
use Rattle.edl_list.specs.declared.list.Channel.{Channel}
use Rattle.edl_list.specs.declared.list.Side.{Side}
use Rattle.edl_list.specs.declared.list.Event.{Event}
use Rattle.edl_list.specs.declared.list.EventList.{EventList}
use Rattle.media_rows.specs.Rows.{MediaRows}
use Rattle.edl_frames.specs.Shown.{on_channel}
use Rattle.edl_frames.specs.Channels.{own_key, channel_track}
use Rattle.edl_frames.specs.Jobs.{frames_in, job_of}
use Rattle.edl_frames.specs.Seats.{head}
use Rattle.edl_frames.specs.ChildEvents.{track_events, events_on, unnumbered}
use Rattle.edl_frames.specs.Carried.{examine_all, first_said, not_carried, IsListOf}
use Rattle.edl_law.proofs.CalmItems.{AreCalm, calm_tracks}
use Rattle.edl_law.proofs.ItemLooks.{Watch}
use Rattle.edl_law.proofs.Stretches.{front_of, front_late, front_early}
use Rattle.edl_law.proofs.SideLooks.{job, same_job}
use Rattle.edl_law.proofs.ReasonFacts.{AreFree}
use Rattle.edl_law.proofs.FittedItems.{fitted}
use Rattle.edl_law.proofs.ListShows.{said_on, carried_all, placed}
use Rattle.edl_law.proofs.EventsFormed.{EventsHold, SidesHold, events_hold}
use Rattle.edl_law.proofs.EventsAccepted.{ChannelsHold}

-- the lines don't matter
numbered_hold : (Q : Bool → Side → ℤ → Type 0) (z : ℤ) (es : List Event)
    → EventsHold Q z (map unnumbered es) → EventsHold Q z es
numbered_hold Q z [] h = tt
numbered_hold Q z (e ∷ es) h = (
  record { begins = h.0.begins; some = h.0.some; to = h.0.to; cross = h.0.cross },
  numbered_hold Q e.rec_out es h.1,
)

-- the events of a track, from its start on
pub track_holds : (Q : Bool → Side → ℤ → Type 0) (rate : Rate) (first : ℤ) (media : MediaRows)
    (drop wide : Bool) → SidesHold Q (job rate first media drop wide) → (c : Channel)
    (l : List (ItemOf Listed)) → AreCalm l
    → AreFree (job rate first media drop wide) c (pos 0) head l
    → EventsHold Q first (track_events (job rate first media drop wide) c l)
track_holds Q rate first media drop wide sides c l calm free =
    let w : Watch = record { kind = []; key = own_key } in
    let f = fitted rate first media drop wide w c (pos 0) (pos 0) (pos 0) head l
    (omega (arith, ints)) refl (omega (arith, ints)) free calm in
    let late = front_late (pos 0) (pos 0) f.bits f.fit (omega (arith, ints)) in
    let early = front_early (pos 0) f.bits in
    let same : first +ℤ front_of (pos 0) f.bits ≡ first = omega (arith, ints, late, early) in
    subst (λ z. EventsHold Q z (track_events (job rate first media drop wide) c l)) same
    (events_hold Q rate first media drop wide w c sides (pos 0) (pos 0) (pos 0) head l f.bits
    (omega (arith, ints)) refl f.are f.fit free calm (omega (arith, ints))
    (λ lap e. sides.black_out (frames_in (job rate first media drop wide) (lap.end -ℤ lap.begin))))

-- what holds of the events of each track that may be written, and of none, holds of a channel's
pub per_channel : (t : Timeline) (rate : Rate) (media : MediaRows) (drop wide : Bool)
    → IsCalm t → not_carried t media drop wide ≡ None → frame_rate rate ≡ record_rate t
    → (P : List Event → Type 0) (c : Channel) → P []
    → ((l : List (ItemOf Listed)) → AreCalm l
    → AreFree (job rate (start_frame t) media drop wide) c (pos 0) head l
    → P (track_events (job rate (start_frame t) media drop wide) c l))
    → P (events_on (job_of t media drop wide) c (channel_track c (items_of t.tracks.children)))
per_channel t rate media drop wide calm carried same P c none track =
    by (channel_track c (items_of t.tracks.children)) refl
  where
    rate_is : job_of t media drop wide ≡ job rate (start_frame t) media drop wide
    rate_is = same_job t rate media drop wide same

    none_said : first_said (examine_all (job_of t media drop wide) 0 []
        (items_of t.tracks.children)) ≡ None
    none_said = (carried_all t media drop wide carried).said

    shut : (s : TrackOf Listed) → AreCalm (items_of s.children)
        → (s.enabled ≡ true → AreFree (job_of t media drop wide) c (pos 0) head
        (items_of s.children)) → (b : Bool) → s.enabled ≡ b
        → P (cond b (track_events (job_of t media drop wide) c (items_of s.children)) [])
    shut s a f true e = subst (λ j. P (track_events j c (items_of s.children))) (sym rate_is)
        (track (items_of s.children) a
        (subst (λ j. AreFree j c (pos 0) head (items_of s.children)) rate_is (f e)))
    shut s a f false e = none

    by : (o : Option (ItemOf Listed)) → channel_track c (items_of t.tracks.children) ≡ o
        → P (events_on (job_of t media drop wide) c o)
    by None e = none
    by (Some x) e =
        let s = said_on (job_of t media drop wide) c (items_of t.tracks.children) x none_said e in
        let p = placed c (items_of t.tracks.children) x e in
        subst (λ z. P (events_on (job_of t media drop wide) c (Some z))) (sym s.is)
        (shut s.track (calm_tracks t calm p.0 s.track (p.1 ∙ ap (λ z. Some z) s.is)) s.free
        s.track.enabled refl)

pub channels_hold : (Q : Bool → Side → ℤ → Type 0) (t : Timeline) (list : EventList)
    (media : MediaRows) (drop wide : Bool)
    → SidesHold Q (job list.rate (start_frame t) media drop wide)
    → IsCalm t → not_carried t media drop wide ≡ None → IsListOf t media drop wide list
    → ChannelsHold Q list.events
channels_hold Q t list media drop wide sides calm carried i = λ c. (
  start_frame t,
  numbered_hold Q (start_frame t) (on_channel c list.events)
      (subst (λ es. EventsHold Q (start_frame t) es) (sym (i.events c))
      (per_channel t list.rate media drop wide calm carried i.rate (λ es. EventsHold Q (start_frame t) es) c tt
      (λ l a f. track_holds Q list.rate (start_frame t) media drop wide sides c l a f))),
)
