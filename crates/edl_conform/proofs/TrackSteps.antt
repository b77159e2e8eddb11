-- What is said of one track, and the events that it adds.
use Rattle.std.proofs.Common.{◌≡◌, refl, sym, ap, subst, ◌∙◌, ℕ, true, false, cond, List, [], ◌∷◌, ◌++◌, Some, None, pos, arith}
use Rattle.std.proofs.lemmas.List.{append-nil}
use Rattle.otio_model.specs.declared.compositions.TrackOf.{TrackOf}
use Rattle.otio_model.specs.declared.compositions.ItemOf.{ItemOf}
use Rattle.otio_model.specs.declared.compositions.ItemOf.TheVariants.{Clip, Gap, Transition, Stack, Track}
use Rattle.otio_model.specs.declared.compositions.Listed.{Listed}
use Rattle.otio_model.specs.Trees.{items_of}
use Rattle.edl_list.specs.declared.list.Channel.{Channel}
use Rattle.edl_list.specs.declared.list.Event.{Event}
use Rattle.edl_frames.specs.declared.reasons.Why.TheVariants as W
use Rattle.edl_frames.specs.declared.reasons.NotCarried.{NotCarried}
use Rattle.edl_frames.specs.Jobs.{Job}
use Rattle.edl_frames.specs.Seats.{seats, head}
use Rattle.edl_frames.specs.ChildEvents.{track_events}
use Rattle.edl_frames.specs.Carried.{Examined, examine_seats, examine_track, examine, first_said, is_plain}
use Rattle.edl_conform.specs.declared.children.Stop.{Stop}
use Rattle.edl_conform.specs.Walk.{AreRising, AddsTrack, IsWalked, IsSaid, said_below}
use Rattle.edl_conform.proofs.FirstSaid.{skipped, said_here}
use Rattle.edl_conform.proofs.EventTimes.{track_rises}

-- what is said of a track that is enabled
abbrev enabled_said : Job → ℕ → TrackOf Listed → Channel → List Examined
enabled_said j k t c = (k ∷ [], cond (is_plain t) None (Some W.Nested))
    ∷ examine_seats j c k 0 (seats (pos 0) head (items_of t.children))

-- of one that is disabled nothing is said, and it has no events
pub disabled_adds : (j : Job) (c : Channel) (k : ℕ) (t : TrackOf Listed) (old : List Event)
    → t.enabled ≡ false → AddsTrack j c k t old old
disabled_adds j c k t old off = record {
  said = ap (λ b. first_said (cond b (enabled_said j k t c) [])) off;
  added = sym (ap (λ b. old ++ cond b (track_events j c (items_of t.children)) []) off
      ∙ append-nil old);
  rising =
      subst AreRising (sym (ap (λ b. cond b (track_events j c (items_of t.children)) []) off))
      none_rises;
}
  where
    none_rises : AreRising []
    none_rises i k d low high = absurd (omega (arith, high))

enabled_is : (j : Job) (c : Channel) (k : ℕ) (t : TrackOf Listed) → t.enabled ≡ true
    → first_said (examine_track j k t (Some c)) ≡ first_said (enabled_said j k t c)
enabled_is j c k t on = ap (λ b. first_said (cond b (enabled_said j k t c) [])) on

pub nested_said : (j : Job) (c : Channel) (k : ℕ) (t : TrackOf Listed) (fault : NotCarried)
    → t.enabled ≡ true → is_plain t ≡ false → IsSaid (Some (k ∷ [], W.Nested)) fault
    → IsSaid (first_said (examine_track j k t (Some c))) fault
nested_said j c k t fault on nested said =
    subst (λ o. IsSaid o fault)
    (sym (enabled_is j c k t on
    ∙ said_here (k ∷ [], cond (is_plain t) None (Some W.Nested))
    (examine_seats j c k 0 (seats (pos 0) head (items_of t.children))) W.Nested
    (ap (λ b. cond b None (Some W.Nested)) nested))) said

plain_is : (j : Job) (c : Channel) (k : ℕ) (t : TrackOf Listed) → t.enabled ≡ true
    → is_plain t ≡ true
    → first_said (examine_track j k t (Some c)) ≡ said_below j c k (items_of t.children)
plain_is j c k t on plain =
    enabled_is j c k t on
    ∙ skipped (k ∷ [], cond (is_plain t) None (Some W.Nested))
    (examine_seats j c k 0 (seats (pos 0) head (items_of t.children)))
    (ap (λ b. cond b None (Some W.Nested)) plain)

pub walked_adds : (j : Job) (c : Channel) (k : ℕ) (t : TrackOf Listed) (old new : List Event)
    → t.enabled ≡ true → is_plain t ≡ true
    → IsWalked j c (items_of t.children) old new None → AddsTrack j c k t old new
walked_adds j c k t old new on plain walked = record {
  said = plain_is j c k t on plain ∙ walked.0 k;
  added = walked.1
      ∙ ap (λ b. old ++ cond b (track_events j c (items_of t.children)) []) (sym on);
  rising =
      subst AreRising (sym (ap (λ b. cond b (track_events j c (items_of t.children)) []) on))
      (track_rises j c k (items_of t.children) (walked.0 k));
}

pub stop_said : (j : Job) (c : Channel) (k : ℕ) (t : TrackOf Listed) (old new : List Event)
    (stop : Stop) (fault : NotCarried) → t.enabled ≡ true → is_plain t ≡ true
    → IsWalked j c (items_of t.children) old new (Some stop)
    → IsSaid (Some (k ∷ stop.index ∷ [], stop.why)) fault
    → IsSaid (first_said (examine_track j k t (Some c))) fault
stop_said j c k t old new stop fault on plain walked said =
    subst (λ o. IsSaid o fault) (sym (plain_is j c k t on plain ∙ walked k)) said

-- a root child that isn't a track
pub other_said : (j : Job) (k : ℕ) (past : List (ItemOf Listed)) (x : ItemOf Listed)
    (fault : NotCarried) → ((t : TrackOf Listed) → x ≡ Track t → ⊥)
    → IsSaid (Some (k ∷ [], W.Tracks)) fault → IsSaid (first_said (examine j k past x)) fault
other_said j k past (Clip c) fault n said = said
other_said j k past (Gap c) fault n said = said
other_said j k past (Transition c) fault n said = said
other_said j k past (Stack c) fault n said = said
other_said j k past (Track t) fault n said = absurd (n t refl)
