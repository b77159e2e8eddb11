-- How the stretches of a flat track are found one after another.
use Rattle.std.specs.Prelude.{◌≡◌, ℕ, ℤ, pos, ◌-ℤ◌, ◌≤ℤ◌, ◌<ℤ◌, int_lt, cond, List, [], ◌∷◌, ◌++◌, Option, Some, None}
use Rattle.otio_model.specs.declared.compositions.ItemOf.{ItemOf}
use Rattle.otio_model.specs.declared.compositions.Listed.{Listed}
use Rattle.otio_model.specs.Overlaps.{within}
use Rattle.edits.specs.Children.{ticks}
use Rattle.flat.specs.Roots.{is_layer, items_in}
use Rattle.flat.specs.Pieces.{Giver, Piece, AreLongest}

-- how many ticks are left, from w on, of the item that holds w
abbrev pub left_of : List (ItemOf Listed) → ℤ → Option ℤ
left_of [] w = None
left_of (x ∷ l) w =
    cond (within (pos 0) (ticks x) w) (Some (ticks x -ℤ w)) (left_of l (w -ℤ ticks x))

-- the lesser of two, where there are any
abbrev pub nearer : Option ℤ → Option ℤ → Option ℤ
nearer None o = o
nearer (Some a) None = Some a
nearer (Some a) (Some b) = cond (int_lt b a) (Some b) (Some a)

-- how many ticks are left, from w on, of the item that ends first among those of the layers that
-- hold w
abbrev pub steady_for : List ℕ → List (ItemOf Listed) → ℤ → Option ℤ
steady_for kind [] w = None
steady_for kind (x ∷ l) w =
    nearer (cond (is_layer kind x) (left_of (items_in x) w) None) (steady_for kind l w)

-- an instant that isn't past the nearest end
abbrev pub IsBefore : Option ℤ → ℤ → Type 0
IsBefore None d = Unit {0}
IsBefore (Some a) d = d <ℤ a

-- with these pieces the stretches from `at` on are all of them
abbrev pub Leaves : (ℤ → Option Giver) → ℤ → List Piece → ℤ → Type 0
Leaves g end done at = (rest : List Piece) → AreLongest g end at rest
    → AreLongest g end (pos 0) (done ++ rest)

-- one giver from `at` up to `to`
abbrev pub IsOne : (ℤ → Option Giver) → ℤ → ℤ → Option Giver → Type 0
IsOne g at to p = (w : ℤ) → at ≤ℤ w → w <ℤ to → g w ≡ p
