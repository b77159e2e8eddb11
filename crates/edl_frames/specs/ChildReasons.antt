-- Why a child of a track isn't carried: tests in order.
use Rattle.std.specs.Prelude.{ℤ, pos, ◌+ℤ◌, ◌-ℤ◌, ◌*ℤ◌, int_lt, int_le, Bool, true, false, not, ◌&&◌, ◌||◌, cond, List, [], ◌∷◌, ◌++◌, Option, Some, None}
use Rattle.std.specs.Int.{int_div_euclid, int_rem_euclid}
use Rattle.std.specs.List.{list_any}
use Rattle.otio_model.specs.declared.effect_types.Effect.{Effect}
use Rattle.otio_model.specs.declared.compositions.Clip.{Clip as ClipRow}
use Rattle.otio_model.specs.declared.compositions.ItemOf.{ItemOf}
use Rattle.otio_model.specs.declared.compositions.ItemOf.TheVariants.{Clip}
use Rattle.otio_model.specs.declared.compositions.Listed.{Listed}
use Rattle.otio_model.specs.Lengths.{trimmed_start}
use Rattle.edl_list.specs.Limits.{most_number}
use Rattle.edl_list.specs.declared.list.Channel.{Channel}
use Rattle.edl_list.specs.declared.list.Event.{Event}
use Rattle.media_rows.specs.declared.row.MediaRow.{MediaRow}
use Rattle.coord.specs.Looks.{FrameRate, Overlap}
use Rattle.coord.specs.Keys.{media_rate, frame_rate}
use Rattle.coord.specs.Sights.{overlap_of}
use Rattle.coord.specs.Images.{Kind, Dissolve as IsDissolve, Wipe as IsWipe, Other, kind_of}
use Rattle.std.specs.Ordering.{int_eq}
use Rattle.edl_frames.specs.declared.reasons.Why.{Why}
use Rattle.edl_frames.specs.Jobs.{Job, ticks_of, frames_in, is_on_frame, mode_in, is_in_day, count_in, tenths_of}
use Rattle.edl_frames.specs.Seats.{Lap, Seat, lap_at, length_in, lap_behind, begin_of, end_of, clip_in, is_item, is_there}
use Rattle.edl_frames.specs.Sides.{clip_row, clip_reel, speed_in, source_at}
use Rattle.edl_frames.specs.ChildEvents.{event_of}
use Rattle.otio_model.specs.declared.effect_types.Effect.TheVariants as E
use Rattle.edl_frames.specs.declared.reasons.Why.TheVariants as W

-- the first of the tests that holds
abbrev pub first_that : List (Bool × Why) → Option Why
first_that [] = None
first_that (p ∷ ps) = cond p.0 (Some p.1) (first_that ps)

-- a side of a clip: the instant of the track at which it begins, how many record frames it has,
-- and after how many its source out stands
pub record Part : Type 0 where
  pub at : ℤ
  pub frames : ℤ
  pub counted : ℤ

-- the side of an event
abbrev pub event_side : Job → Seat → Part
event_side j s = record {
  at = begin_of s;
  frames = frames_in j (end_of s -ℤ begin_of s);
  counted = frames_in j (end_of s -ℤ begin_of s);
}

-- the side that a clip has in its event, where that has a length
abbrev pub event_part : Job → Seat → List Part
event_part j s = cond (int_lt (begin_of s) (end_of s)) (event_side j s ∷ []) []

-- the source out of a side that goes out is its source in
abbrev pub lap_part : Job → Option Lap → List Part
lap_part j None = []
lap_part j (Some lap) = record {
  at = lap.begin;
  frames = frames_in j (lap.end -ℤ lap.begin);
  counted = pos 0;
} ∷ []

-- the sides that a clip has: that of its event, and that which goes out at its end
abbrev pub parts_of : Job → Seat → List Part
parts_of j s = event_part j s ++ lap_part j (lap_behind s)

-- the effect neither warps nor freezes time
abbrev pub is_other_effect : Effect → Bool
is_other_effect (E.Warp w) = false
is_other_effect (E.Freeze f) = false
is_other_effect (E.Plain p) = true
is_other_effect (E.Kept k) = true

-- the two rates are equal
abbrev pub is_rate : FrameRate → FrameRate → Bool
is_rate a b = int_eq a.num b.num && int_eq a.den b.den

-- the media have the record rate
abbrev pub has_rate : Job → Option FrameRate → Bool
has_rate j None = false
has_rate j (Some r) = is_rate r j.rate

-- the listed rate isn't the record rate
abbrev pub row_differs : Job → Option MediaRow → Bool
row_differs j None = false
row_differs j (Some row) = not (is_rate (frame_rate row.rate) j.rate)

-- the source stands between two frames where the side begins
abbrev pub is_between : Job → ClipRow → ℤ → Part → Bool
is_between j c start p =
    not (int_eq (int_rem_euclid ((trimmed_start {C = Listed} (Clip c) *ℤ pos 1000000)
    +ℤ ((p.at -ℤ start) *ℤ speed_in c)) (ticks_of j *ℤ pos 1000000)) (pos 0))

-- the source in or the source out isn't a frame number of the day
abbrev pub is_past_day : Job → ClipRow → ℤ → Part → Bool
is_past_day j c start p = not (is_in_day j (source_at j c start p.at)
    && is_in_day j (source_at j c start p.at
    +ℤ int_div_euclid (p.counted *ℤ speed_in c) (pos 1000000)))

-- a frame that a side shows isn't listed
abbrev pub is_outside_row : Job → ClipRow → ℤ → Option MediaRow → Part → Bool
is_outside_row j c start None p = false
is_outside_row j c start (Some row) p =
    int_lt (source_at j c start p.at) row.start
    || int_le (row.start +ℤ row.count)
    (source_at j c start p.at +ℤ int_div_euclid ((p.frames -ℤ pos 1) *ℤ speed_in c)
    (pos 1000000))

-- the tests of a clip that is shown
abbrev pub clip_tests : Job → Seat → ClipRow → List (Bool × Why)
clip_tests j s c =
    (list_any is_other_effect c.effects, W.Effect)
    ∷ (not (is_there (tenths_of (count_in (mode_in j.rate false)) (speed_in c))), W.Speed)
    ∷ (not (is_there (clip_reel j.layout j.media c)), W.NoReel)
    ∷ (not (has_rate j (media_rate c)) || row_differs j (clip_row j.media c), W.RateDiffers)
    ∷ (
      not (int_eq (speed_in c) (pos 1000000)) && list_any (is_between j c s.start) (parts_of j s),
      W.Phase,
    )
    ∷ (list_any (is_past_day j c s.start) (parts_of j s), W.SourceDay)
    ∷ (list_any (is_outside_row j c s.start (clip_row j.media c)) (parts_of j s), W.Outside)
    ∷ []

-- a disabled clip and one that is shown in no frame have no tests of their own
abbrev pub shown_tests : Job → Seat → Option ClipRow → List (Bool × Why)
shown_tests j s None = []
shown_tests j s (Some c) = cond (int_lt (begin_of s) (end_of s) || is_there (lap_behind s))
    (clip_tests j s c) []

-- the record labels of the event that a child gives aren't both of the day
abbrev pub is_past_record : Job → Option Event → Bool
is_past_record j None = false
is_past_record j (Some e) = not (is_in_day j e.rec_in && is_in_day j e.rec_out)

-- the tests of a child that is no transition
abbrev pub item_tests : Job → Channel → Seat → List (Bool × Why)
item_tests j c s =
    (not (is_item s.item), W.Nested)
    ∷ (not (is_on_frame j s.start && is_on_frame j (s.start +ℤ length_in s.item)), W.OffFrame)
    ∷ (shown_tests j s (clip_in s.item) ++ ((is_past_record j (event_of j c s), W.RecordDay) ∷ []))

-- neither a dissolve nor a wipe
abbrev pub is_other_kind : Kind → Bool
is_other_kind IsDissolve = false
is_other_kind (IsWipe code) = false
is_other_kind (Other type) = true

-- where the item behind a transition ends, and where the track does without one
abbrev pub end_behind : ℤ → List (ItemOf Listed) → ℤ
end_behind at [] = at
end_behind at (x ∷ l) = at +ℤ length_in x

-- the overlap begins too early, ends too late or is too long
abbrev pub is_bad_lap : Job → Seat → Overlap → Bool
is_bad_lap j s o =
    int_lt (s.start -ℤ o.before) s.past.low
    || (int_lt (end_behind s.start s.next) (s.start +ℤ o.after)
    || int_lt (pos most_number *ℤ ticks_of j) (o.before +ℤ o.after))

-- the overlap begins and ends on record frames
abbrev pub is_lap_on_frame : Job → Seat → Overlap → Bool
is_lap_on_frame j s o = is_on_frame j (s.start -ℤ o.before) && is_on_frame j (s.start +ℤ o.after)

-- the tests of a transition
abbrev pub transition_tests : Job → Channel → Seat → Overlap → List (Bool × Why)
transition_tests j c s o =
    (not (is_on_frame j s.start && is_lap_on_frame j s o), W.OffFrame)
    ∷ (is_there (lap_at s.start o) && is_other_kind (kind_of o.kind), W.Kind)
    ∷ (is_bad_lap j s o, W.Overlap)
    ∷ (is_past_record j (event_of j c s), W.RecordDay)
    ∷ []

-- the first reason for which a child isn't carried
abbrev pub reason_of : Job → Channel → Seat → Option Why
reason_of j c s =
    first_that
    (elim (overlap_of s.item) [ None ↦ item_tests j c s | Some o ↦ transition_tests j c s o ])
