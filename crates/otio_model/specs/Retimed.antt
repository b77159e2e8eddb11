-- Children of a list that get other source ranges, and nothing else.
use Rattle.std.specs.Prelude.{ℕ, zero, suc, List, [], ◌∷◌, Option, map}
use Rattle.tick_time.specs.declared.spans.Span.{Span}
use Rattle.otio_model.specs.declared.compositions.ItemOf.{ItemOf}
use Rattle.otio_model.specs.declared.compositions.ItemOf.TheVariants.{Clip, Gap, Transition, Stack}
use Rattle.otio_model.specs.declared.compositions.ItemOf.TheVariants.{Track}
use Rattle.otio_model.specs.declared.compositions.Listed.{Listed}
use Rattle.otio_model.specs.Lengths.{source_of}

-- the item with this source range; a transition has none
abbrev pub with_source : Option Span → ItemOf Listed → ItemOf Listed
with_source r (Clip c) = Clip (record c { source_range = r })
with_source r (Gap g) = Gap (record g { source_range = r })
with_source r (Transition t) = Transition t
with_source r (Stack s) = Stack (record s { source_range = r })
with_source r (Track t) = Track (record t { source_range = r })

-- the list whose first items have these source ranges
abbrev pub with_sources : List (Option Span) → List (ItemOf Listed) → List (ItemOf Listed)
with_sources [] xs = xs
with_sources (r ∷ rs) [] = []
with_sources (r ∷ rs) (x ∷ xs) = with_source r x ∷ with_sources rs xs

-- the list whose items from an index on have these source ranges
abbrev pub retimed : ℕ → List (Option Span) → List (ItemOf Listed) → List (ItemOf Listed)
retimed zero rs xs = with_sources rs xs
retimed (suc at) rs [] = []
retimed (suc at) rs (x ∷ xs) = x ∷ retimed at rs xs

-- the source ranges of items
abbrev pub sources : List (ItemOf Listed) → List (Option Span)
sources = map source_of
