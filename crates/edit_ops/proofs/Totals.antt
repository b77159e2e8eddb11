-- How long a track is.
use Rattle.std.proofs.Common.{◌≡◌, ap, ◌∙◌, ℕ, ◌<◌, ◌^◌, ℤ, pos, ◌+ℤ◌, ◌-ℤ◌, ◌≤ℤ◌, ◌<ℤ◌, arith}
use Rattle.std.specs.Int.{int_max}
use Rattle.std.proofs.lemmas.Int.{ints, clamps}
use Rattle.otio_model.specs.declared.compositions.Listed.{Listed}
use Rattle.otio_model.specs.Counts.{count}
use Rattle.otio_model.specs.Lengths.{lengths}
use Rattle.otio_model.specs.Lengths as model
use Rattle.otio_model.specs.Trees.{items_of}
use Rattle.otio_model.proofs.LengthLimits.{short_enough}
use Rattle.edits.specs.Edges.{added}
use Rattle.edit_ops.specs.Zoned.{change}
use Rattle.edit_plans.proofs.Holding.{all_ticks}

pub is_added : (l : Listed) (n : ℕ) → n ≡ model.added (lengths l) → pos n ≡ added (items_of l)
is_added l n e = ap pos e ∙ all_ticks l

pub is_short : (l : Listed) (n : ℕ) → count l < 2 ^ 32 → n ≡ model.added (lengths l) → n < 2 ^ 127
is_short l n h e = let k = short_enough l h in omega (arith, k, e)

pub ruleset totals = (is_added, is_short)

-- ---- what stands before an instant

pub before_end : (total to : ℤ) → to <ℤ total → to ≡ total -ℤ int_max (pos 0) (total -ℤ to)
before_end total to h =
    let e : int_max (pos 0) (total -ℤ to) ≡ total -ℤ to = omega (arith, ints, clamps) in
    omega (arith, ints, e)

pub before_all : (total to : ℤ) → total ≤ℤ to → total ≡ total -ℤ int_max (pos 0) (total -ℤ to)
before_all total to h =
    let e : int_max (pos 0) (total -ℤ to) ≡ pos 0 = omega (arith, ints, clamps) in
    omega (arith, ints, e)

pub ruleset befores = (before_end, before_all)

pub change_as : (total from ticks to a b x r : ℤ) → x ≡ a -ℤ int_max (pos 0) (a -ℤ b) → a ≡ total
    → b ≡ to → r ≡ (from +ℤ ticks) -ℤ x → r ≡ change total from ticks to
change_as total from ticks to a b x r e f g h =
    let k : x ≡ total -ℤ int_max (pos 0) (total -ℤ to) =
    e ∙ ap (λ y. y -ℤ int_max (pos 0) (y -ℤ b)) f
    ∙ ap (λ y. total -ℤ int_max (pos 0) (total -ℤ y)) g in
    by (int_max (pos 0) (total -ℤ to)) k
  where
    by : (m : ℤ) → x ≡ total -ℤ m → r ≡ ((from +ℤ ticks) +ℤ m) -ℤ total
    by m k = omega (arith, ints, h, k)
