-- Which events a media list doesn't hold, and why.
use Rattle.std.specs.Prelude.{◌≡◌, ℤ, pos, ◌+ℤ◌, ◌-ℤ◌, int_lt, int_le, Bool, true, false, not, ◌&&◌, ◌||◌, cond, List, [], ◌∷◌, ◌++◌, Option, Some, None}
use Rattle.std.specs.List.{list_any}
use Rattle.std.specs.Ordering.{int_eq}
use Rattle.tick_time.specs.declared.rates.Rate.{Rate}
use Rattle.edl_list.specs.declared.list.Reel.{Reel}
use Rattle.edl_list.specs.declared.list.Reel.TheVariants.{Black, Named}
use Rattle.edl_list.specs.declared.list.Side.{Side}
use Rattle.edl_list.specs.declared.list.Cross.{Cross}
use Rattle.edl_list.specs.declared.list.Cross.TheVariants.{Cut, Dissolve, Wipe}
use Rattle.edl_list.specs.declared.list.Event.{Event}
use Rattle.edl_list.specs.declared.list.EventList.{EventList}
use Rattle.media_rows.specs.declared.row.MediaRow.{MediaRow}
use Rattle.media_rows.specs.Rows.{by_reel, MediaRows, row_of}
use Rattle.edl_frames.specs.declared.faults.ConformFault.{ConformFault}
use Rattle.edl_frames.specs.declared.faults.ConformFault.TheVariants as F
use Rattle.edl_frames.specs.Shown.{source_frame}

-- a side, and in how many frames of the record it is shown
pub record Use : Type 0 where
  pub side : Side
  pub frames : ℤ

abbrev pub use_of : Side → ℤ → Use
use_of side frames = record { side = side; frames = frames }

-- the outgoing side of an event that begins in this way, where it has one
abbrev pub outgoing_use : Cross → List Use
outgoing_use Cut = []
outgoing_use (Dissolve frames from) = use_of from (pos frames) ∷ []
outgoing_use (Wipe code frames from) = use_of from (pos frames) ∷ []

-- the sides of an event, the outgoing one first
abbrev pub uses_of : Event → List Use
uses_of e = outgoing_use e.cross ++ (use_of e.to (e.rec_out -ℤ e.rec_in) ∷ [])

-- the row of a reel; black has none
abbrev pub reel_row : MediaRows → Reel → Option MediaRow
reel_row media Black = None
reel_row media (Named reel) = row_of media reel

-- what a test says of a row, and no where there is none
abbrev pub if_listed : (MediaRow → Bool) → Option MediaRow → Bool
if_listed test None = false
if_listed test (Some row) = test row

abbrev pub is_none : Option MediaRow → Bool
is_none None = true
is_none (Some row) = false

-- these rows don't list the reel; black needs no row
abbrev pub is_unlisted_in : List MediaRow → Reel → Bool
is_unlisted_in rows Black = false
is_unlisted_in rows (Named reel) = is_none (by_reel reel rows)

-- there is a media list, and it doesn't list the side's reel
abbrev pub is_unlisted : MediaRows → Use → Bool
is_unlisted None u = false
is_unlisted (Some rows) u = is_unlisted_in rows u.side.reel

abbrev pub is_same_rate : Rate → Rate → Bool
is_same_rate a b = int_eq a.num b.num && int_eq a.den b.den

-- the listed rate is another one than the list's
abbrev pub has_other_rate : Rate → MediaRows → Use → Bool
has_other_rate rate media u =
    if_listed (λ row. not (is_same_rate row.rate rate)) (reel_row media u.side.reel)

-- of frames in rising order, the first one lies before the media, or the last one behind them
abbrev pub is_row_outside : ℤ → ℤ → MediaRow → Bool
is_row_outside first last row = int_lt first row.start || int_le (row.start +ℤ row.count) last

-- a frame that is shown lies outside the listed media
abbrev pub is_outside : Rate → MediaRows → Use → Bool
is_outside rate media u =
    if_listed (is_row_outside (source_frame rate u.side (pos 0))
    (source_frame rate u.side (u.frames -ℤ pos 1))) (reel_row media u.side.reel)

-- why a media list doesn't hold an event: the first test that holds of one of its sides
abbrev pub event_fault : Rate → MediaRows → Event → Option ConformFault
event_fault rate media e =
    cond (list_any (is_unlisted media) (uses_of e)) (Some (F.NoReel e.line))
    (cond (list_any (has_other_rate rate media) (uses_of e)) (Some (F.Rate e.line))
    (cond (list_any (is_outside rate media) (uses_of e)) (Some (F.Outside e.line)) None))

-- that of the first event that has one
abbrev pub first_fault : Rate → MediaRows → List Event → Option ConformFault
first_fault rate media [] = None
first_fault rate media (e ∷ es) = elim (event_fault rate media e)
    [ None ↦ first_fault rate media es | Some fault ↦ Some fault ]

-- the media list holds all events
abbrev pub IsAccepted : EventList → MediaRows → Type 0
IsAccepted list media = first_fault list.rate media list.events ≡ None
