-- Stretches of one clip or of none, as the code finds them.
use Rattle.std.specs.Prelude.{◌≡◌, ℕ, ◌+◌, ℤ, pos, ◌<ℤ◌, ◌≤ℤ◌, int_le, int_lt, ◌&&◌, cond, List, [], ◌∷◌, ◌++◌, Option, Some, None, option_map, slice_get, take}
use Rattle.std.specs.Option.{option_or}
use Rattle.otio_model.specs.declared.compositions.ItemOf.{ItemOf}
use Rattle.otio_model.specs.declared.compositions.Listed.{Listed}
use Rattle.edits.specs.Children.{plain_gap, ticks}
use Rattle.edits.specs.Edges.{added}
use Rattle.flat.specs.Roots.{is_layer, items_in}
use Rattle.flat.specs.Pieces.{Giver, Piece, gives, holder}
use Rattle.flat.specs.Built.{IsOne}
use Rattle.flat_stack.specs.declared.stretches.Given.{Given}
use Rattle.flat_stack.specs.declared.stretches.Stretch.{Stretch}
use Rattle.flat_stack.specs.declared.same_clips.Part.{Part}

-- the item at these indexes
abbrev pub item_in : Option (ItemOf Listed) → ℕ → ItemOf Listed
item_in None child = plain_gap
item_in (Some x) child = elim (slice_get (items_in x) child) [ None ↦ plain_gap | Some y ↦ y ]

abbrev pub giver_of : List (ItemOf Listed) → Given → Giver
giver_of roots g = record {
  track = g.track;
  child = g.child;
  start = g.start;
  item = item_in (slice_get roots g.track) g.child;
}

abbrev pub given_of : List (ItemOf Listed) → Option Given → Option Giver
given_of roots o = option_map (giver_of roots) o

-- stretches of one giver each, from an instant up to the end
abbrev pub AreRuns : List (ItemOf Listed) → (ℤ → Option Giver) → ℤ → ℤ → List Stretch → Type 0
AreRuns roots g end at [] = at ≡ end
AreRuns roots g end at (s ∷ l) =
    (at <ℤ s.to) × (s.to ≤ℤ end) × IsOne g at s.to (given_of roots s.given)
    × AreRuns roots g end s.to l

-- a part of the flat track
abbrev pub piece_of : List (ItemOf Listed) → Part → Piece
piece_of roots p = record { from = p.from; to = p.to; of = given_of roots p.given }

-- what an item gives that starts at an instant
abbrev pub given_by : ItemOf Listed → ℕ → ℕ → ℤ → Option Given
given_by x track child start =
    cond (gives x) (Some (record { track = track; child = child; start = start })) None

-- what the first of two stretches gives, else the second, up to where one of them ends
abbrev pub upper_first : Stretch → Stretch → Stretch
upper_first s t =
    record { to = cond (int_le s.to t.to) s.to t.to; given = option_or s.given t.given }

-- the next stretch of a list, where another ends
abbrev pub behind : ℕ → Stretch → ℤ → ℕ
behind i s to = cond (int_le s.to to) (i + 1) i

-- with these the stretches from an instant on are all of them
abbrev pub LeavesRuns : List (ItemOf Listed) → (ℤ → Option Giver) → ℤ → List Stretch → ℤ → Type 0
LeavesRuns l g end done at = (rest : List Stretch) → AreRuns l g end at rest
    → AreRuns l g end (pos 0) (done ++ rest)

-- the stretches of a track's first children, up to an instant before the end
pub record IsAlong (k : ℕ) (l : List (ItemOf Listed)) (end : ℤ) (all : List Stretch) (at : ℤ)
    (i : ℕ)
    : Type 0 where
  pub leaves : (roots : List (ItemOf Listed)) (x : ItemOf Listed) → slice_get roots k ≡ Some x
      → items_in x ≡ l → LeavesRuns roots (holder k 0 (pos 0) l) end all at
  pub start : at ≡ added (take i l)
  pub low : pos 0 ≤ℤ at
  pub high : at <ℤ end

-- the longer of a length and an item's, where that is an enabled track of the kind
abbrev pub longer : List ℕ → ItemOf Listed → ℤ → ℤ
longer kind x end = cond (is_layer kind x && int_lt end (ticks x)) (ticks x) end
