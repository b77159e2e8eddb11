-- An instant that lies within bounds.
use Rattle.std.proofs.Common.{◌≡◌, ℤ, ◌≤ℤ◌, ◌<ℤ◌, true, arith}
use Rattle.std.proofs.lemmas.Int.{ints}
use Rattle.otio_model.specs.Overlaps.{within}

pub within_is : (a b w : ℤ) → within a b w ≡ true → (a ≤ℤ w) × (w <ℤ b)
within_is a b w e = (grind (arith, ints), grind (arith, ints))
