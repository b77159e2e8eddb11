-- Small tracks at 24 frames a second, and the events that are worked out of them by hand.
use mathlib.Core.Path.{refl}
use Rattle.std.specs.Prelude.{◌≡◌, ℕ, nat_le, pos, ◌≤ℤ◌, true, false, List, [], ◌∷◌, Option, Some, None, codes, option_map, slice_get}
use Rattle.tick_time.specs.declared.rates.Rate.{Rate}
use Rattle.tick_time.specs.declared.spans.Span.{Span}
use Rattle.tick_time.specs.declared.times.Time.{Time}
use Rattle.tick_time.proofs.SameValues.{RateFacts, built_rate, TimeFacts, built_time}
use Rattle.otio_model.specs.declared.effect_types.Effect.{Effect}
use Rattle.otio_model.specs.declared.compositions.ItemOf.{ItemOf}
use Rattle.otio_model.specs.declared.compositions.ItemOf.TheVariants.{Clip, Gap, Transition, Stack, Track}
use Rattle.otio_model.specs.declared.compositions.Listed.{Listed}
use Rattle.otio_model.specs.Trees.{listed}
use Rattle.edl_list.specs.declared.list.Channel.TheVariants.{V}
use Rattle.edl_list.specs.declared.list.Cross.TheVariants.{Cut, Dissolve}
use Rattle.edl_list.specs.declared.list.Event.{Event}
use Rattle.edl_list.specs.declared.layout.Layout.{Layout}
use Rattle.edl_list.specs.Layouts.{narrow, wide_layout}
use Rattle.coord.specs.Worked.{frames}
use Rattle.media_rows.specs.Rows.{MediaRows}
use Rattle.edl_frames.specs.Conformed.{external, warp}
use Rattle.edl_law.specs.PlainItems.{clip_with, gap_with, transition_with, track_with}
use Rattle.edl_frames.specs.declared.reasons.Why.{Why}
use Rattle.edl_frames.specs.Jobs.{Job, tenths_of}
use Rattle.edl_frames.specs.Sides.{black_side}
use Rattle.edl_frames.specs.Seats.{head, seats}
use Rattle.edl_frames.specs.ChildEvents.{track_events}
use Rattle.edl_frames.specs.Carried.{examine}
use Rattle.edl_frames.specs.ChildReasons.{reason_of}
use Rattle.edl_frames.specs.declared.reasons.Why.TheVariants as W
use Rattle.edl_law.specs.Worked.{side, event, row, rows}

-- 24 frames a second are a rate, at which each count of frames up to 1000 is a time
pub record Clock24 : Type 0 where
  pub facts : RateFacts (pos 24) (pos 1)
  pub timed : (n : ℕ) → nat_le n 1000 ≡ true
      → TimeFacts (pos (frames n)) (built_rate (pos 24) (pos 1) facts)
  pub forward : (n : ℕ) → pos 0 ≤ℤ pos (frames n)

abbrev pub rate_24 : Clock24 → Rate
rate_24 c = built_rate (pos 24) (pos 1) c.facts

abbrev pub time : Clock24 → (n : ℕ) → nat_le n 1000 ≡ true → Time
time c n few = built_time (pos (frames n)) (rate_24 c) (c.timed n few)

abbrev pub span : Clock24 → (start length : ℕ) → nat_le start 1000 ≡ true
    → nat_le length 1000 ≡ true → Span
span c start length early short = record {
  start = time c start early;
  len = time c length short;
  forward = c.forward length;
}

-- 48 frames of the first 1000 of a file
abbrev pub shot : Clock24 → List ℕ → List ℕ → (start : ℕ) → nat_le start 1000 ≡ true
    → List Effect → ItemOf Listed
shot c name url start early effects = clip_with [] name (Some (span c start 48 early refl)) effects
    (external url (span c 0 1000 refl refl))

-- 48 frames without a picture
abbrev pub empty_gap : Clock24 → ItemOf Listed
empty_gap c = gap_with (Some (span c 0 48 refl refl))

abbrev pub dissolve : Time → Time → ItemOf Listed
dissolve before after = transition_with (codes "SMPTE_Dissolve") (Some before) (Some after)

abbrev pub job : Clock24 → MediaRows → Job
job c media = record {
  rate = record { num = pos 24; den = pos 1 };
  first = pos 86400;
  media = media;
  drop = false;
  layout = narrow;
}

-- against the two files, of 1000 frames each
abbrev pub listed_job : Clock24 → Job
listed_job c = job c (Some (rows (rate_24 c) 1000))

-- a dissolve from 10 frames before a cut to 14 behind it, between two clips and to black
abbrev pub two_clips : Clock24 → List (ItemOf Listed)
two_clips c = shot c (codes "a") (codes "a.mov") 100 refl []
    ∷ dissolve (time c 10 refl) (time c 14 refl)
    ∷ shot c (codes "b") (codes "b.mov") 200 refl [] ∷ []

abbrev pub to_black : Clock24 → List (ItemOf Listed)
to_black c = shot c (codes "a") (codes "a.mov") 100 refl []
    ∷ dissolve (time c 10 refl) (time c 14 refl) ∷ empty_gap c ∷ []

-- a dissolve of 12 frames on both sides to a clip at a speed in millionths
abbrev pub to_sped : Clock24 → ℕ → List (ItemOf Listed)
to_sped c speed = shot c (codes "a") (codes "a.mov") 100 refl []
    ∷ dissolve (time c 12 refl) (time c 12 refl)
    ∷ shot c (codes "b") (codes "b.mov") 200 refl (warp speed ∷ []) ∷ []

abbrev pub video : ItemOf Listed
video = track_with V (listed [])

-- so many frames of the first reel, and the event that goes out of it
abbrev pub first_event : ℕ → ℕ → Event
first_event behind rec_out =
    event 0 (side (codes "A1") (Some (codes "a")) 100 behind None) Cut 86400 rec_out

-- why the child at an index isn't carried
abbrev pub reason_at : Job → List (ItemOf Listed) → ℕ → Option (Option Why)
reason_at j items i =
    option_map (reason_of j V) (slice_get (seats (pos 0) head items) i)

-- the same item, disabled
abbrev pub disabled : ItemOf Listed → ItemOf Listed
disabled (Clip r) = Clip (record r { enabled = false })
disabled (Gap r) = Gap (record r { enabled = false })
disabled (Transition r) = Transition r
disabled (Stack r) = Stack (record r { enabled = false })
disabled (Track r) = Track (record r { enabled = false })

-- a clip of a file that isn't listed
abbrev pub unlisted : Clock24 → ItemOf Listed
unlisted c = shot c (codes "c") (codes "c.mov") 100 refl []

-- against a file that is listed as a reel of 15 bytes
abbrev pub long_job : Clock24 → Layout → Job
long_job c layout = record
    (job c (Some (row (rate_24 c) (codes "A001C003_240101") (codes "a.mov") 1000 ∷ []))) {
      layout = layout;
    }

abbrev pub one_clip : Clock24 → List (ItemOf Listed)
one_clip c = shot c (codes "a") (codes "a.mov") 100 refl [] ∷ []

-- the events of these tracks, and what isn't carried
pub record AreWorkedTracks (c : Clock24) : Type 0 where
  pub pair : track_events (listed_job c) V (two_clips c) ≡ first_event 138 86438
      ∷ event 0 (side (codes "B1") (Some (codes "b")) 190 248 None)
      (Dissolve 24 (side (codes "A1") (Some (codes "a")) 138 138 None)) 86438 86496 ∷ []
  pub black : track_events (listed_job c) V (to_black c) ≡ first_event 138 86438
      ∷ event 0 (black_side (pos 24))
      (Dissolve 24 (side (codes "A1") (Some (codes "a")) 138 138 None)) 86438 86462 ∷ []
  pub sped : track_events (listed_job c) V (to_sped c 1500000) ≡ first_event 136 86436
      ∷ event 0 (side (codes "B1") (Some (codes "b")) 182 272 (Some 360))
      (Dissolve 24 (side (codes "A1") (Some (codes "a")) 136 136 None)) 86436 86496 ∷ []
  pub phase : reason_at (listed_job c) (to_sped c 1100000) 2 ≡ Some (Some W.Phase)
  pub tenths : tenths_of 24 (pos 1100000) ≡ Some 264
  pub no_reel : reason_at (job c None) (two_clips c) 0 ≡ Some (Some W.NoReel)
  pub second_video : examine (listed_job c) 1 (video ∷ []) video
      ≡ (1 ∷ [], Some W.Tracks) ∷ []
  pub gap : reason_at (listed_job c) (empty_gap c ∷ []) 0 ≡ Some None
  pub unlisted_clip : reason_at (listed_job c) (unlisted c ∷ []) 0 ≡ Some (Some W.NoReel)
  pub disabled_clip : reason_at (listed_job c) (disabled (unlisted c) ∷ []) 0 ≡ Some None
  pub disabled_track : examine (listed_job c) 0 [] (disabled video) ≡ []
  pub long_reel : reason_at (long_job c narrow) (one_clip c) 0 ≡ Some (Some W.NoReel)
  pub wide_reel : track_events (long_job c wide_layout) V (one_clip c)
      ≡ event 0 (side (codes "A001C003_240101") (Some (codes "a")) 100 148 None) Cut 86400 86448
      ∷ []
