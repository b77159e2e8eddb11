-- The tracks of a kind as one flat track.
use Rattle.std.specs.Prelude.{◌≡◌, ℕ, suc, ℤ, pos, Bool, true, false, ◌||◌, not, cond, List, [], ◌∷◌, ◌++◌, length, filter, Some, None, codes}
use Rattle.otio_model.specs.declared.compositions.ItemOf.{ItemOf}
use Rattle.otio_model.specs.declared.compositions.ItemOf.TheVariants.{Track}
use Rattle.otio_model.specs.declared.compositions.Listed.{Listed}
use Rattle.otio_model.specs.declared.timelines.Timeline.{Timeline}
use Rattle.otio_model.specs.Trees.{listed}
use Rattle.otio_model.specs.Timelines.{bare}
use Rattle.coord.specs.Looks.{Show, Blank, FrameRate, is_blank}
use Rattle.coord.specs.Programs.{child_shows}
use Rattle.edits.specs.After.{rate_of}
use Rattle.flat.specs.Roots.{is_of, is_layer, roots, with_roots}
use Rattle.flat.specs.Pieces.{giver, longest, Piece, AreLongest, piece_items}

-- the new track
abbrev pub flat_track : List ℕ → List (ItemOf Listed) → ItemOf Listed
flat_track kind items = Track (record {
  metadata = [];
  name = codes "Flattened";
  source_range = None;
  effects = [];
  markers = [];
  enabled = true;
  children = listed items;
  kind = kind;
  rest = [];
})

abbrev pub has_kind : List ℕ → List (ItemOf Listed) → Bool
has_kind kind [] = false
has_kind kind (x ∷ l) = is_of kind x || has_kind kind l

-- in place of the first track of the kind, and the others go
abbrev pub in_place : List ℕ → ItemOf Listed → List (ItemOf Listed) → List (ItemOf Listed)
in_place kind flat [] = []
in_place kind flat (x ∷ l) =
    cond (is_of kind x) (flat ∷ filter (λ y. not (is_of kind y)) l) (x ∷ in_place kind flat l)

-- where that is
abbrev pub first_of_kind : List ℕ → List (ItemOf Listed) → ℕ
first_of_kind kind [] = 0
first_of_kind kind (x ∷ l) = cond (is_of kind x) 0 (suc (first_of_kind kind l))

-- the index of the flat track
abbrev pub flat_index : Bool → List ℕ → List (ItemOf Listed) → ℕ
flat_index true kind l = length l
flat_index false kind l = first_of_kind kind l

-- with the new track, last where all stay; without a track of the kind nothing changes
abbrev pub put_flat : Bool → List ℕ → ItemOf Listed → List (ItemOf Listed) → List (ItemOf Listed)
put_flat true kind flat l = l ++ flat ∷ []
put_flat false kind flat l = in_place kind flat l

-- the pieces are the longest stretches of one clip or of none, and the items are what they become
pub record AreFlat (t : Timeline) (kind : List ℕ) (items : List (ItemOf Listed)) : Type 0 where
  pub pieces : List Piece
  pub are : AreLongest (giver 0 kind (roots t)) (longest kind (roots t)) (pos 0) pieces
  pub made : piece_items (rate_of t) pieces ≡ Some items

-- a timeline, flattened
pub data IsFlattened (t : Timeline) (kind : List ℕ) (keep : Bool) (r : Timeline) : Type 0 where
  unchanged : has_kind kind (roots t) ≡ false → bare r ≡ bare t → IsFlattened t kind keep r
  changed : (items : List (ItemOf Listed)) → has_kind kind (roots t) ≡ true → AreFlat t kind items
      → bare r ≡ bare (with_roots (put_flat keep kind (flat_track kind items) (roots t)) t)
      → IsFlattened t kind keep r

-- what the topmost enabled track of the kind that isn't Blank shows; the last one is the topmost
abbrev pub top_shows : (FrameRate → FrameRate) → List ℕ → List (ItemOf Listed) → ℤ → Show
top_shows rate_kept kind [] u = Blank
top_shows rate_kept kind (x ∷ l) u =
    cond (is_blank (top_shows rate_kept kind l u))
    (cond (is_layer kind x) (child_shows rate_kept x u) Blank) (top_shows rate_kept kind l u)
