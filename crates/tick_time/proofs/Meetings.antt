-- When two half-open spans have an instant in common.
use Rattle.std.proofs.Common.{ℤ, ◌<ℤ◌, ◌+ℤ◌, arith}
use Rattle.std.specs.Prelude.{IsTrue}
use lib.Signed.{lt_z}
use mir.Syntax.{w128}
use mir.Val.{to_z, of_z, SFits}
use Rattle.std.specs.Int.{int_max, int_min}
use Rattle.std.proofs.lemmas.Int.{ints, clamps, to_z-of_z}
use Rattle.tick_time.specs.Times.{Holds}

pub meets_at : (a l b m : ℤ) → int_max a b <ℤ int_min (a +ℤ l) (b +ℤ m) → (t : ℤ) × Holds a l t × Holds b m t
meets_at a l b m h = (
  int_max a b,
  record { from = omega (arith, ints, clamps); to = omega (arith, ints, clamps) },
  record { from = omega (arith, ints, clamps); to = omega (arith, ints, clamps) },
)

pub at_meets : (a l b m t : ℤ) → Holds a l t → Holds b m t → int_max a b <ℤ int_min (a +ℤ l) (b +ℤ m)
at_meets a l b m t p q = omega (arith, ints, clamps)

-- what the code's test of two bounded numbers says
pub below_from-test : (a b : ℤ) → SFits w128 a → SFits w128 b → IsTrue (lt_z (to_z w128 (of_z w128 a)) (to_z w128 (of_z w128 b))) → a <ℤ b
below_from-test a b fits here h = let t = simp to_z-of_z at h in grind (arith, ints)

pub test_from-below : (a b : ℤ) → SFits w128 a → SFits w128 b → a <ℤ b → IsTrue (lt_z (to_z w128 (of_z w128 a)) (to_z w128 (of_z w128 b)))
test_from-below a b fits here h = simp to_z-of_z (grind (arith, ints))
