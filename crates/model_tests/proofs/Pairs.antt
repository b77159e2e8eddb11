-- How many items two children are.
use Rattle.std.proofs.Common.{◌≡◌, ◌+◌, [], ◌∷◌, arith}
use Rattle.otio_model.specs.declared.compositions.ItemOf.{ItemOf}
use Rattle.otio_model.specs.declared.compositions.Listed.{Listed}
use Rattle.otio_model.specs.Trees.{listed}
use Rattle.otio_model.specs.Counts.{count, count_of}
use Rattle.otio_model.specs.Falls.{count-listed}

pub two_count : (x y : ItemOf Listed) → count (listed (x ∷ y ∷ [])) ≡ count_of x + count_of y
two_count x y = let e = count-listed (x ∷ y ∷ []) in omega (arith, e)
