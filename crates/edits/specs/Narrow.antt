-- Which children of a list an edit touches.
use Rattle.std.specs.Prelude.{ℤ, pos, ◌-ℤ◌, int_lt, int_le, Bool, ◌&&◌, ◌||◌, cond, List, [], ◌∷◌}
use Rattle.otio_model.specs.declared.compositions.ItemOf.{ItemOf}
use Rattle.otio_model.specs.declared.compositions.Listed.{Listed}
use Rattle.coord.specs.Sights.{overlap_of}
use Rattle.edits.specs.Splices.{is_stripped}
use Rattle.edits.specs.Children.{ticks}
use Rattle.edits.specs.Edges.{added}

-- a child that begins at 0 is stripped for the zone from a to b, or meets it, ends included
abbrev pub is_met : ItemOf Listed → ℤ → ℤ → Bool
is_met x a b = is_stripped a b (overlap_of x) || (int_le (pos 0) b && int_le a (ticks x))

-- some child is met, or the zone begins after the list's end
abbrev pub any_met : List (ItemOf Listed) → ℤ → ℤ → Bool
any_met [] a b = int_lt (pos 0) a
any_met (x ∷ l) a b = is_met x a b || any_met l (a -ℤ ticks x) (b -ℤ ticks x)

-- the children before the first that is met, and those from there on
abbrev pub ahead : List (ItemOf Listed) → ℤ → ℤ → List (ItemOf Listed)
ahead [] a b = []
ahead (x ∷ l) a b = cond (is_met x a b) [] (x ∷ ahead l (a -ℤ ticks x) (b -ℤ ticks x))

abbrev pub onward : List (ItemOf Listed) → ℤ → ℤ → List (ItemOf Listed)
onward [] a b = []
onward (x ∷ l) a b = cond (is_met x a b) (x ∷ l) (onward l (a -ℤ ticks x) (b -ℤ ticks x))

-- the children up to the last that is met, and those after it
abbrev pub up_to_met : List (ItemOf Listed) → ℤ → ℤ → List (ItemOf Listed)
up_to_met [] a b = []
up_to_met (x ∷ l) a b =
    cond (any_met (x ∷ l) a b) (x ∷ up_to_met l (a -ℤ ticks x) (b -ℤ ticks x)) []

abbrev pub past_met : List (ItemOf Listed) → ℤ → ℤ → List (ItemOf Listed)
past_met [] a b = []
past_met (x ∷ l) a b = cond (any_met (x ∷ l) a b) (past_met l (a -ℤ ticks x) (b -ℤ ticks x)) (x ∷ l)

-- the children from the first to the last that is met
abbrev pub touched : List (ItemOf Listed) → ℤ → ℤ → List (ItemOf Listed)
touched l a b = up_to_met (onward l a b) (a -ℤ added (ahead l a b)) (b -ℤ added (ahead l a b))

-- and the ones after them
abbrev pub beyond : List (ItemOf Listed) → ℤ → ℤ → List (ItemOf Listed)
beyond l a b = past_met (onward l a b) (a -ℤ added (ahead l a b)) (b -ℤ added (ahead l a b))
