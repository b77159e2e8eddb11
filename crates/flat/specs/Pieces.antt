-- Which clip gives each instant of a flat track, and the longest stretches of one clip or of none.
use Rattle.std.specs.Prelude.{◌≡◌, ◌≢◌, ℕ, suc, ℤ, pos, ◌+ℤ◌, ◌-ℤ◌, ◌≤ℤ◌, ◌<ℤ◌, int_lt, Bool, false, ◌&&◌, ◌||◌, int_le, cond, List, [], ◌∷◌, Option, Some, None, option_and_then}
use Rattle.std.specs.Option.{option_or}
use Rattle.tick_time.specs.declared.rates.Rate.{Rate}
use Rattle.otio_model.specs.declared.compositions.ItemOf.{ItemOf}
use Rattle.otio_model.specs.declared.compositions.ItemOf.TheVariants.{Clip, Gap, Transition, Stack, Track}
use Rattle.otio_model.specs.declared.compositions.Listed.{Listed}
use Rattle.otio_model.specs.Overlaps.{within}
use Rattle.edits.specs.Children.{ticks, made, new_gap, with_first}
use Rattle.edits.specs.Cuts.{left_piece, right_piece, is_whole_at}
use Rattle.flat.specs.Roots.{is_layer, items_in}

-- a clip, the indexes of its track and of itself there, and where it starts
pub record Giver : Type 0 where
  pub track : ℕ
  pub child : ℕ
  pub start : ℤ
  pub item : ItemOf Listed

-- an enabled clip
abbrev pub gives : ItemOf Listed → Bool
gives (Clip c) = c.enabled
gives (Gap g) = false
gives (Transition t) = false
gives (Stack s) = false
gives (Track t) = false

-- the enabled clip that holds w in track k, from child i on, which starts at s
abbrev pub holder : ℕ → ℕ → ℤ → List (ItemOf Listed) → ℤ → Option Giver
holder k i s [] w = None
holder k i s (x ∷ l) w =
    cond (within (pos 0) (ticks x) w)
    (cond (gives x) (Some (record { track = k; child = i; start = s; item = x })) None)
    (holder k (suc i) (s +ℤ ticks x) l (w -ℤ ticks x))

-- the enabled clip that holds w in the topmost enabled track of the kind that has one there; the
-- last track is the topmost, and these begin with the one at k
abbrev pub giver : ℕ → List ℕ → List (ItemOf Listed) → ℤ → Option Giver
giver k kind [] w = None
giver k kind (x ∷ l) w =
    option_or (giver (suc k) kind l w)
    (cond (is_layer kind x) (holder k 0 (pos 0) (items_in x) w) None)

-- how long the longest enabled track of the kind is
abbrev pub longest : List ℕ → List (ItemOf Listed) → ℤ
longest kind [] = pos 0
longest kind (x ∷ l) =
    cond (is_layer kind x && int_lt (longest kind l) (ticks x)) (ticks x) (longest kind l)

-- what one clip, or none, gives from one instant up to another
pub record Piece : Type 0 where
  pub from : ℤ
  pub to : ℤ
  pub of : Option Giver

-- the longest stretches of one clip or of none, from an instant up to the end
pub data AreLongest (g : ℤ → Option Giver) (end : ℤ) : ℤ → List Piece → Type 0 where
  no_more : (at : ℤ) (l : List Piece) → at ≡ end → l ≡ [] → AreLongest g end at l
  one_more : (at to : ℤ) (p : Option Giver) (rest l : List Piece) → at <ℤ to → to ≤ℤ end
      → ((w : ℤ) → at ≤ℤ w → w <ℤ to → g w ≡ p) → (to <ℤ end → g to ≢ p)
      → AreLongest g end to rest → l ≡ record { from = at; to = to; of = p } ∷ rest
      → AreLongest g end at l

-- a clip up to t ticks from its start, and from there on; all of it where that cuts nothing off
abbrev pub up_to : Rate → ℤ → ItemOf Listed → Option (ItemOf Listed)
up_to r t x = cond (int_lt t (ticks x)) (made r (left_piece x t)) (Some x)

abbrev pub from_on : Rate → ℤ → ItemOf Listed → Option (ItemOf Listed)
from_on r t x = cond (int_lt (pos 0) t) (made r (right_piece x t)) (Some x)

-- the item that a piece becomes: the clip, cut at the piece's end and then at its start, or a gap
abbrev pub piece_item : Rate → Piece → Option (ItemOf Listed)
piece_item r p = elim p.of [
  | None ↦ made r (new_gap (p.to -ℤ p.from))
  | Some g ↦ option_and_then (from_on r (p.from -ℤ g.start)) (up_to r (p.to -ℤ g.start) g.item)
]

abbrev pub piece_items : Rate → List Piece → Option (List (ItemOf Listed))
piece_items r [] = Some []
piece_items r (p ∷ l) = with_first (piece_item r p) (piece_items r l)

-- the clip can be cut t ticks from its start, or needn't be
abbrev pub cuts_at : ItemOf Listed → ℤ → Bool
cuts_at x t = (int_le t (pos 0) || int_le (ticks x) t) || is_whole_at x t

-- the piece can be cut from the clip
abbrev pub is_cut : Piece → Giver → Bool
is_cut p g = cuts_at g.item (p.from -ℤ g.start) && cuts_at g.item (p.to -ℤ g.start)
