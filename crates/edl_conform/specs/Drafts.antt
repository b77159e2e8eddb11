-- What is tested of the sides of a clip, and events in ticks of their track.
use Rattle.std.specs.Prelude.{◌≡◌, ℕ, ℤ, pos, ◌-ℤ◌, ◌*◌, int_lt, nat_le, Bool, not, ◌&&◌, ◌||◌, cond, List, [], ◌∷◌, Option, Some, None, IfSome, length, option_map}
use Rattle.std.specs.List.{list_any}
use Rattle.limits.specs.Limits.{most_ticks}
use Rattle.otio_model.specs.declared.compositions.Clip.{Clip as ClipRow}
use Rattle.media_rows.specs.declared.row.MediaRow.{MediaRow}
use Rattle.text_lines.specs.ReelNames.{is_reel_name}
use Rattle.edl_list.specs.declared.layout.Layout.{Layout}
use Rattle.edl_list.specs.declared.list.Channel.{Channel}
use Rattle.edl_list.specs.declared.list.Event.{Event}
use Rattle.edl_list.specs.declared.list.Side.{Side}
use Rattle.edl_frames.specs.Jobs as D
use Rattle.edl_frames.specs.Jobs.{frames_in}
use Rattle.edl_frames.specs.Seats as T
use Rattle.edl_frames.specs.Sides.{side_of, black_side}
use Rattle.edl_frames.specs.ChildEvents.{event_by}
use Rattle.edl_frames.specs.ChildReasons as C
use Rattle.edl_frames.specs.declared.reasons.Why.{Why}
use Rattle.edl_frames.specs.declared.reasons.Why.TheVariants as W
use Rattle.std.specs.Ordering.{int_eq}
use Rattle.edl_conform.specs.declared.clip_sides.Tested.{Tested}
use Rattle.edl_conform.specs.declared.draft_events.Draft.{Draft}
use Rattle.edl_conform.specs.declared.draft_events.Shown.{Shown}
use Rattle.edl_conform.specs.Ranges.{IsNear}
use Rattle.edl_conform.specs.Seated.{IsOpen}
use Rattle.edl_conform.specs.Shots.{IsShot, clip_of}
use Rattle.edl_conform.specs.Stated.{stated_lap}

-- a name of a reel for which its column has room
abbrev pub fits_name : Layout → List ℕ → Bool
fits_name layout name = is_reel_name name && nat_le (length name) layout.reel_width

-- the side of an event from one instant to another, where it has a length
abbrev pub event_part_at : D.Job → ℤ → ℤ → Option C.Part
event_part_at j begin end = cond (int_lt begin end)
    (Some (record {
      at = begin;
      frames = frames_in j (end -ℤ begin);
      counted = frames_in j (end -ℤ begin);
    })) None

-- the side that goes out over an overlap
abbrev pub going_side : D.Job → T.Lap → C.Part
going_side j lap = record {
  at = lap.begin;
  frames = frames_in j (lap.end -ℤ lap.begin);
  counted = pos 0;
}

-- the tests of these sides of a clip
pub record IsTested
    (j : D.Job) (c : ClipRow) (start : ℤ) (row : Option MediaRow) (parts : List C.Part)
    (t : Tested) : Type 0 where
  pub between : t.is_between ≡ list_any (C.is_between j c start) parts
  pub past_day : t.is_past_day ≡ list_any (C.is_past_day j c start) parts
  pub outside : t.is_outside ≡ list_any (C.is_outside_row j c start row) parts

abbrev pub tested_either : Tested → Tested → Tested
tested_either a b = record {
  is_between = a.is_between || b.is_between;
  is_past_day = a.is_past_day || b.is_past_day;
  is_outside = a.is_outside || b.is_outside;
}

-- the side that comes in: that of a clip that is shown, else black
abbrev pub side_in : D.Job → Option Shown → ℤ → ℤ → Side
side_in j None begin end = black_side (frames_in j (end -ℤ begin))
side_in j (Some s) begin end =
    side_of j (clip_of s.shot) s.start begin (frames_in j (end -ℤ begin))

-- the event that a draft stands for, behind what stands before its child
abbrev pub drafted : D.Job → Channel → T.Past → Draft → Event
drafted j c past d = event_by j c past (option_map stated_lap d.lap)
    (side_in j d.shown d.begin d.end) d.begin d.end

-- why a clip isn't carried that has this speed, by what was tested of its sides
abbrev pub source_reason_by : ℤ → Tested → Option Why
source_reason_by speed t = C.first_that (
    (not (int_eq speed (pos 1000000)) && t.is_between, W.Phase)
    ∷ (t.is_past_day, W.SourceDay)
    ∷ (t.is_outside, W.Outside)
    ∷ [])

-- the reason, or where there is none that of record labels past the day
abbrev pub or_record_day : Option Why → Bool → Option Why
or_record_day None is_past = cond is_past (Some W.RecordDay) None
or_record_day (Some why) is_past = Some why

-- a clip that is shown, as the code and as the definitions have it
pub record ClipAt : Type 0 where
  pub clip : ClipRow
  pub start : ℤ

abbrev pub clip_at : ClipRow → ℤ → ClipAt
clip_at c start = record { clip = c; start = start }

abbrev pub stated_shown : Shown → ClipAt
stated_shown s = clip_at (clip_of s.shot) s.start

abbrev pub shown_at : Option T.ItemAt → Option ClipAt
shown_at None = None
shown_at (Some s) = option_map (λ c. clip_at c s.start) (T.clip_in s.item)

-- a clip without a fault that starts within a million seconds
pub record IsShown (s : Shown) : Type 0 where
  pub shot : IsShot s.shot
  pub start : IsNear most_ticks s.start

-- a draft within the instants that there are
pub record IsDraft (d : Draft) : Type 0 where
  pub begin : IsNear (2 * most_ticks) d.begin
  pub end : IsNear (2 * most_ticks) d.end
  pub shown : IfSome d.shown IsShown
  pub lap : IfSome d.lap IsOpen
