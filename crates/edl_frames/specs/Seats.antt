-- The children of a track as they stand, with the overlaps beside them.
use Rattle.std.specs.Prelude.{ℕ, ℤ, pos, ◌+ℤ◌, ◌-ℤ◌, int_lt, Bool, true, false, cond, List, [], ◌∷◌, Option, Some, None, option_and_then}
use Rattle.otio_model.specs.declared.compositions.Clip.{Clip as ClipRow}
use Rattle.otio_model.specs.declared.compositions.ItemOf.{ItemOf}
use Rattle.otio_model.specs.declared.compositions.ItemOf.TheVariants.{Clip, Gap, Transition, Stack, Track}
use Rattle.otio_model.specs.declared.compositions.Listed.{Listed}
use Rattle.otio_model.specs.Lengths.{length_of, or_zero}
use Rattle.coord.specs.Looks.{Overlap}
use Rattle.coord.specs.Sights.{overlap_of}

-- an overlap that isn't empty, in ticks of the track, by its transition's type
pub record Lap : Type 0 where
  pub type : List ℕ
  pub begin : ℤ
  pub end : ℤ

-- an item, and where it starts
pub record ItemAt : Type 0 where
  pub item : ItemOf Listed
  pub start : ℤ

-- what stands before a child: the nearest item, the overlap between it and the child, and where
-- an overlap may begin at the earliest
pub record Past : Type 0 where
  pub item : Option ItemAt
  pub lap : Option Lap
  pub low : ℤ

-- a child, where it starts, what stands before it and what behind it
pub record Seat : Type 0 where
  pub item : ItemOf Listed
  pub start : ℤ
  pub past : Past
  pub next : List (ItemOf Listed)

-- the overlap of a transition at its cut, where it isn't empty
abbrev pub lap_at : ℤ → Overlap → Option Lap
lap_at at o = cond (int_lt (pos 0) (o.before +ℤ o.after))
    (Some (record { type = o.kind; begin = at -ℤ o.before; end = at +ℤ o.after })) None

-- the ticks of a child in its track
abbrev pub length_in : ItemOf Listed → ℤ
length_in x = pos (or_zero (length_of x))

-- where an overlap ends, else another instant
abbrev pub end_or : Option Lap → ℤ → ℤ
end_or None other = other
end_or (Some lap) other = lap.end

-- where an overlap begins, else another instant
abbrev pub begin_or : Option Lap → ℤ → ℤ
begin_or None other = other
begin_or (Some lap) other = lap.begin

-- what stands before the child behind x
abbrev pub past_by : Option Overlap → ItemOf Listed → ℤ → Past → Past
past_by None x at past = record {
  item = Some (record { item = x; start = at });
  lap = None;
  low = end_or past.lap at;
}
past_by (Some o) x at past = record { item = past.item; lap = lap_at at o; low = past.low }

-- the children of a track from an instant on
abbrev pub seats : ℤ → Past → List (ItemOf Listed) → List Seat
seats at past [] = []
seats at past (x ∷ l) = record { item = x; start = at; past = past; next = l }
    ∷ seats (at +ℤ length_in x) (past_by (overlap_of x) x at past) l

-- nothing stands before the first child, and no overlap begins before it
abbrev pub head : Past
head = record { item = None; lap = None; low = pos 0 }

-- the overlap of the next child, where that is a transition at this cut
abbrev pub next_lap : ℤ → List (ItemOf Listed) → Option Lap
next_lap at [] = None
next_lap at (x ∷ l) = option_and_then (lap_at at) (overlap_of x)

-- the overlap behind an item
abbrev pub lap_behind : Seat → Option Lap
lap_behind s = next_lap (s.start +ℤ length_in s.item) s.next

-- where the event of an item begins: at its start, or at the start of the overlap before it
abbrev pub begin_of : Seat → ℤ
begin_of s = begin_or s.past.lap s.start

-- where it ends: at the item's end, or at the start of the overlap behind it
abbrev pub end_of : Seat → ℤ
end_of s = begin_or (lap_behind s) (s.start +ℤ length_in s.item)

-- the clip that an item shows: a gap and a disabled clip show black
abbrev pub clip_in : ItemOf Listed → Option ClipRow
clip_in (Clip c) = cond c.enabled (Some c) None
clip_in (Gap g) = None
clip_in (Transition t) = None
clip_in (Stack s) = None
clip_in (Track t) = None

-- the child is a clip or a gap
abbrev pub is_item : ItemOf Listed → Bool
is_item (Clip c) = true
is_item (Gap g) = true
is_item (Transition t) = false
is_item (Stack s) = false
is_item (Track t) = false

-- the clip that stands before a child, where one is shown
abbrev pub clip_before : Option ItemAt → Option ClipRow
clip_before None = None
clip_before (Some s) = clip_in s.item

-- whether there is a value
abbrev pub is_there : {X : Type 0} → Option X → Bool
is_there None = false
is_there (Some x) = true
