-- The timeline of a well formed list is writable.
use Rattle.std.proofs.Common.{◌≡◌, refl, sym, ap, subst, ◌∙◌, ℕ, zero, suc, ◌≤◌, ◌*◌, pos, false, List, [], ◌∷◌, inl, inr, ◌⊎◌, Some, None, IsSome, slice_get, arith}
use Rattle.std.specs.Prelude.{All, option_and_then}
use Rattle.std.proofs.lemmas.Int.{ints}
use Rattle.std.proofs.lemmas.List.Elements.{All-filter}
use Rattle.tick_time.specs.declared.rates.Rate.{Rate}
use Rattle.tick_time.specs.Times.{IsSpeed}
use Rattle.smpte_tc.specs.Modes.{mode_of}
use Rattle.otio_model.specs.declared.compositions.ItemOf.{ItemOf}
use Rattle.otio_model.specs.declared.compositions.ItemOf.TheVariants.{Track}
use Rattle.otio_model.specs.declared.compositions.Listed.{Listed}
use Rattle.otio_model.specs.declared.timelines.Timeline.{Timeline}
use Rattle.otio_model.specs.declared.objects.Object.{Timeline as ObjectOfTimeline}
use Rattle.otio_model.specs.Trees.{items_of, below}
use Rattle.otio_model.specs.Misplaced.{has_misplaced}
use Rattle.schema_rows.specs.declared.schemas.Schema.TheVariants as S
use Rattle.schema_write.proofs.OldLemmas.{timeline_out}
use Rattle.edl_list.specs.declared.list.Channel.{Channel}
use Rattle.edl_list.specs.declared.list.Cross.{Cross}
use Rattle.edl_list.specs.declared.list.Cross.TheVariants.{Cut, Dissolve, Wipe}
use Rattle.edl_list.specs.declared.list.Event.{Event}
use Rattle.edl_list.specs.declared.list.EventList.{EventList}
use Rattle.edl_list.specs.declared.list.Side.{Side}
use Rattle.edl_list.specs.Formed.{IsSide, IsCross, IsEvent, IsWellFormed}
use Rattle.edl_list.specs.Speeds.{day_of, side_speed}
use Rattle.edl_list.proofs.DayLemmas.{side_slow}
use Rattle.coord.specs.Soundness.{IsCalm}
use Rattle.edl_frames.specs.Shown.{is_on, on_channel}
use Rattle.media_rows.specs.Rows.{MediaRows}
use Rattle.edl_frames.specs.Conformed.{Pair, pair_of, first_record, IsTrackOf, AreTracks, none, used, unused, IsTimelineOf}
use Rattle.edl_law.proofs.CalmTracks.{timeline_calm}
use Rattle.object_law.specs.Writable as W
use Rattle.object_law.specs.Writable.{AreOthers, AreEffects, AreMarkers, IsObject}
use Rattle.edl_law.proofs.WritableItems.{IsSpeedy, AreSpeedy, items_more, items_writable}

-- ---- speeds

in_range : (n : ℕ) → n ≤ 1000 * 1000000 → IsSpeed (pos n)
in_range n h = record { low = omega (arith, ints); high = omega (arith, ints, h) }

side_speedy : (rate : Rate) (side : Side) → IsSome (mode_of rate false)
    → IsSide (day_of rate) side → IsSpeedy rate side
side_speedy rate side timed i = in_range (side_speed rate side) (side_slow rate timed side i)

event_speedy : (rate : Rate) (e : Event) → IsSome (mode_of rate false)
    → IsEvent (day_of rate) e → AreSpeedy rate e
event_speedy rate e timed i = record {
  to = side_speedy rate e.to timed i.to;
  from = λ p f. by e.cross p i.cross f;
}
  where
    from_is : (side : Side) (p : Pair) → side ≡ p.from → IsSide (day_of rate) side
        → IsSpeedy rate p.from
    from_is side p same j = side_speedy rate p.from timed (subst (IsSide (day_of rate)) same j)

    by : (c : Cross) (p : Pair) → IsCross (day_of rate) e.rec_in e.rec_out c
        → pair_of c ≡ Some p → IsSpeedy rate p.from
    by Cut p j f = absurd (cc f)
    by (Dissolve frames from) p j f = from_is from p (cc f) j.1
    by (Wipe code frames from) p j f = from_is from p (cc f) j.2

events_speedy : (list : EventList) → IsWellFormed list
    → All (λ (e : Event). AreSpeedy list.rate e) list.events
events_speedy list i = by i.timecode
  where
    by : (list.events ≡ []) ⊎ IsSome (mode_of list.rate false)
        → All (λ (e : Event). AreSpeedy list.rate e) list.events
    by (inl empty) = subst (All (λ (e : Event). AreSpeedy list.rate e)) (sym empty)
        (λ k d l. absurd (omega (arith, l)))
    by (inr timed) = λ k d l. event_speedy list.rate _ timed (i.events k d l)

-- ---- tracks

track_writable : (list : EventList) (media : MediaRows) (c : Channel) (x : ItemOf Listed)
    → All (λ (e : Event). AreSpeedy list.rate e) list.events
    → ((place : List ℕ) (y : ItemOf Listed) → below place x ≡ Some y → has_misplaced y ≡ false)
    → IsTrackOf list media c x → W.IsItem x
track_writable list media c x h calm i = W.track x i.track i.is
    (W.track_of i.track (subst (AreOthers S.Track) (sym i.rest) refl)
    (subst AreEffects (sym i.effects) tt) (subst AreMarkers (sym i.markers) tt)
    (calm [] (Track i.track) (ap (λ (y : ItemOf Listed). Some y) i.is))
    (items_writable list.rate media None (first_record list.events) (on_channel c list.events)
    (items_of i.track.children)
    (All-filter (is_on c) (λ (e : Event). AreSpeedy list.rate e) list.events h)
    (λ k y e. calm (k ∷ []) y
    (ap (below (k ∷ [])) i.is ∙ ap (option_and_then (below [])) e))
    i.children))

tracks_writable : (list : EventList) (media : MediaRows) (cs : List Channel)
    (xs : List (ItemOf Listed)) → All (λ (e : Event). AreSpeedy list.rate e) list.events
    → ((k : ℕ) (place : List ℕ) (y : ItemOf Listed)
    → option_and_then (below place) (slice_get xs k) ≡ Some y → has_misplaced y ≡ false)
    → AreTracks list media cs xs → W.AreItems xs
tracks_writable list media cs xs h calm none = W.no_items [] refl
tracks_writable list media cs xs h calm (used c others x rest has i tracks) =
    items_more x rest (track_writable list media c x h (λ place y e. calm zero place y e) i)
    (tracks_writable list media others rest h (λ k place y e. calm (suc k) place y e) tracks)
tracks_writable list media cs xs h calm (unused c others rest has tracks) =
    tracks_writable list media others rest h calm tracks

-- ---- the whole timeline

root_writable : (list : EventList) (media : MediaRows) (t : Timeline) → IsWellFormed list
    → IsTimelineOf list media t → IsCalm t → W.IsTimeline t
root_writable list media t formed i calm = (
  subst (AreOthers S.Timeline) (sym i.rest) refl,
  W.stack_of t.tracks (subst (AreOthers S.Stack) (sym i.root_rest) refl)
      (subst AreEffects (sym i.root_effects) tt) (subst AreMarkers (sym i.root_markers) tt)
      calm.root
      (tracks_writable list media _ (items_of t.tracks.children) (events_speedy list formed)
      (λ k place y e. calm.items (k ∷ place) y e) i.tracks),
)

pub timeline_writable : (list : EventList) (media : MediaRows) (t : Timeline) → IsWellFormed list
    → IsTimelineOf list media t → IsObject (ObjectOfTimeline t)
timeline_writable list media t formed i = W.timeline (ObjectOfTimeline t) t (timeline_out t)
    (root_writable list media t formed i (timeline_calm list media t i))
