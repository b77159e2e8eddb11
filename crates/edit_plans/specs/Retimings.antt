-- Children that get other source ranges, as what comes in place of so many.
use Rattle.std.specs.Prelude.{◌≡◌, ℕ, List, Option, Some, None, length, take, drop, slice_get}
use Rattle.tick_time.specs.declared.spans.Span.{Span}
use Rattle.otio_model.specs.declared.compositions.ItemOf.{ItemOf}
use Rattle.otio_model.specs.declared.compositions.Listed.{Listed}
use Rattle.otio_model.specs.Lengths.{source_of}
use Rattle.otio_model.specs.Retimed.{with_sources}

-- the items of a list from an index on that get source ranges, with these
abbrev pub ranged_from : ℕ → List (Option Span) → List (ItemOf Listed) → List (ItemOf Listed)
ranged_from at rs xs = with_sources rs (take (length rs) (drop at xs))

-- an item that gets no source range has none
abbrev pub KeepsUnranged : List (Option Span) → List (ItemOf Listed) → Type 0
KeepsUnranged rs xs = (i : ℕ) (x : ItemOf Listed) → slice_get rs i ≡ Some None
    → slice_get xs i ≡ Some x → source_of x ≡ None
