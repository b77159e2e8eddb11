-- The held item by its index, and what a shape asks of what stands beside it.
use Rattle.std.specs.Prelude.{◌≡◌, ℕ, ◌+◌, ℤ, pos, ◌-ℤ◌, ◌≤ℤ◌, Bool, false, cond, List, ◌++◌}
use Rattle.std.specs.Prelude.{Some, None, IfSome, ◌⊎◌, take, drop, slice_get}
use Rattle.otio_model.specs.declared.compositions.ItemOf.{ItemOf}
use Rattle.otio_model.specs.declared.compositions.Listed.{Listed}
use Rattle.otio_model.specs.declared.seeks.Seat.{Seat}
use Rattle.otio_model.specs.Trees.{is_transition}
use Rattle.edits.specs.Children.{Child}
use Rattle.edits.specs.Cuts.{olds}
use Rattle.edits.specs.Edges.{Held, Zone, start, end, first_item, last_item}
use Rattle.edit_trim.specs.Changes.{changed, IsChange, Leaves}
use Rattle.edit_trim.specs.declared.resized_items.Change.{Change}
use Rattle.edit_trim.specs.declared.resized_items.Change.TheVariants as C
use Rattle.edit_trim.specs.declared.replacements.Shape.{Shape}
use Rattle.edit_trim.specs.declared.replacements.Interval.{Interval}

-- the item stands at the seat
pub record IsAt (l : List (ItemOf Listed)) (s : Seat) (h : Held) : Type 0 where
  pub item : slice_get l s.index ≡ Some h.item
  pub before : h.before ≡ take s.index l
  pub behind : h.behind ≡ drop (s.index + 1) l
  pub start : s.start ≡ start h

abbrev pub zone_of : Interval → Zone
zone_of z = record { from = z.from; to = z.to }

-- as it was
abbrev pub keep : Change
keep = C.Move (pos 0) (pos 0)

-- an instant that is as far away as a move can be
pub record IsInstant (z : ℤ) : Type 0 where
  pub low : (pos 0 -ℤ pos 100000000000000000000000000000000000000) ≤ℤ z
  pub high : z ≤ℤ pos 100000000000000000000000000000000000000

-- the item begins in the zone, and ends in it where what stands behind it changes
pub record IsRound (h : Held) (z : Interval) (s : Shape) : Type 0 where
  pub from : z.from ≤ℤ start h
  pub to : start h ≤ℤ z.to
  pub end : (end h ≤ℤ z.to) ⊎ (s.behind ≡ keep)
  pub near_from : IsInstant z.from
  pub near_to : IsInstant z.to

-- the item at the index is the last that is no transition
pub record IsLast (l : List (ItemOf Listed)) (i : ℕ) : Type 0 where
  pub item : ItemOf Listed
  pub there : slice_get l i ≡ Some item
  pub thing : is_transition item ≡ false
  pub last : last_item (drop (i + 1) l) ≡ None

-- the item at the index is the first that is no transition
pub record IsFirst (l : List (ItemOf Listed)) (i : ℕ) : Type 0 where
  pub item : ItemOf Listed
  pub there : slice_get l i ≡ Some item
  pub thing : is_transition item ≡ false
  pub first : first_item (take i l) ≡ None

-- the list with what becomes of the item at an index
abbrev pub changed_at : Change → List (ItemOf Listed) → ℕ → List Child
changed_at c l i =
    elim (slice_get l i) [
      | None ↦ olds l
      | Some x ↦ olds (take i l) ++ (changed c x ++ olds (drop (i + 1) l))
    ]

-- the numbers of a shape are moves
pub record IsShape (s : Shape) : Type 0 where
  pub before : IsChange s.before
  pub item : IsChange s.item
  pub behind : IsChange s.behind

-- a length is left of each item that changes
pub record LeavesAll (s : Shape) (l : List (ItemOf Listed)) (x : ItemOf Listed)
    (r : List (ItemOf Listed)) : Type 0 where
  pub before : IfSome (last_item l) (Leaves s.before)
  pub item : Leaves s.item x
  pub behind : IfSome (first_item r) (Leaves s.behind)

-- the shapes of the five edits but a slip, which changes no edge
abbrev pub slide_shape : ℤ → Shape
slide_shape d = record {
  before = C.Move (pos 0) d;
  gap_before = pos 0;
  item = keep;
  gap_behind = pos 0;
  behind = keep;
}

abbrev pub ripple_shape : ℤ → ℤ → Shape
ripple_shape head tail = record {
  before = keep;
  gap_before = pos 0;
  item = C.Move head tail;
  gap_behind = pos 0;
  behind = keep;
}

-- where a gap stands before the item, or behind it, it grows; else a new one comes
abbrev pub trim_shape : Bool → Bool → ℤ → ℤ → Shape
trim_shape before behind head tail = record {
  before = cond before (C.Grow head) keep;
  gap_before = cond before (pos 0) head;
  item = C.Move head tail;
  gap_behind = cond behind (pos 0) (pos 0 -ℤ tail);
  behind = cond behind (C.Grow (pos 0 -ℤ tail)) keep;
}

abbrev pub roll_shape : ℤ → ℤ → Shape
roll_shape head tail = record {
  before = C.Move (pos 0) head;
  gap_before = pos 0;
  item = C.Move head tail;
  gap_behind = pos 0;
  behind = C.Move tail (pos 0);
}

-- the item stands at the seat, the zone lies round it, and the shape leaves what it has to
pub record IsShaped (l : List (ItemOf Listed)) (s : Seat) (z : Interval) (k : Shape) : Type 0 where
  pub held : Held
  pub seat : IsAt l s held
  pub shape : IsShape k
  pub leaves : LeavesAll k held.before held.item held.behind
  pub round : IsRound held z k
