-- Children of which something is known, and those children alone.
use Rattle.std.proofs.Common.{List}
use Rattle.otio_model.specs.declared.compositions.ItemOf.{ItemOf}
use Rattle.otio_model.specs.declared.compositions.Listed.{Listed}
use Rattle.otio_model.specs.declared.compositions.Listed.TheFolds.{map-Listed}

-- children of which P is known
abbrev pub Known : (Listed → Type 0) → Type 0
Known P = (l : Listed) × P l

-- the items, what is known of their children left out
abbrev pub forgotten : (P : Listed → Type 0) → List (ItemOf (Known P)) → List (ItemOf Listed)
forgotten P ys = (map-Listed (Known P) Listed (λ e. e.0) (record { list = ys })).list
