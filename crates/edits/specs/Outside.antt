-- Instants at which no overlap that is stripped was.
use Rattle.std.specs.Prelude.{◌≡◌, ℤ, pos, ◌-ℤ◌, Bool, true, false, List, [], ◌∷◌, Option, Some, None}
use Rattle.otio_model.specs.declared.compositions.ItemOf.{ItemOf}
use Rattle.otio_model.specs.declared.compositions.Listed.{Listed}
use Rattle.coord.specs.Looks.{Overlap}
use Rattle.otio_model.specs.Overlaps.{within}
use Rattle.coord.specs.Sights.{overlap_of}
use Rattle.edits.specs.Splices.{is_stripped}
use Rattle.edits.specs.Children.{ticks}

-- the overlap, its cut at 0, holds the instant
abbrev pub holds : Option Overlap → ℤ → Bool
holds None w = false
holds (Some o) w = within (pos 0 -ℤ o.before) o.after w

-- no overlap of a transition that the zone from a to b strips holds w
abbrev pub IsOutside : List (ItemOf Listed) → ℤ → ℤ → ℤ → Type 0
IsOutside [] a b w = Unit {0}
IsOutside (x ∷ l) a b w =
    (is_stripped a b (overlap_of x) ≡ true → holds (overlap_of x) w ≡ false)
    × IsOutside l (a -ℤ ticks x) (b -ℤ ticks x) (w -ℤ ticks x)
