use Rattle.std.proofs.Common.{FitsSigned, w64, arith, ◌≡◌, ap, ℤ, pos, ◌*ℤ◌, ◌≤ℤ◌, ◌^◌, ◌≤◌}
use Rattle.std.specs.Prelude.{unsigned_abs}
use Rattle.std.specs.Int.{w128}
use Rattle.std.proofs.Math.Nat.{mul-le-mul}
use Rattle.std.proofs.lemmas.Int.{ints, to_z-of_z, fits_signed_from_abs, unsigned_abs-mul}
use Rattle.edit_trim.proofs.edge_moves.in_ticks.Goals as goal

-- a count as a wider number, times the ticks of a frame
record IsCounted (count from ticks : ℤ) : Type 0 where
  same : from ≡ count
  near : unsigned_abs (from *ℤ ticks) ≤ 10 ^ 37
  fit : FitsSigned w128 from × FitsSigned w128 (from *ℤ ticks)

counted-near : (from ticks : ℤ) → unsigned_abs from ≤ 2 ^ 63
    → unsigned_abs ticks ≤ 705600000000000000 → unsigned_abs (from *ℤ ticks) ≤ 10 ^ 37
counted-near from ticks few long =
    let size = mul-le-mul few long in omega (arith, unsigned_abs-mul from ticks, size)

counted : (count from ticks : ℤ) → FitsSigned w64 count → pos 1 ≤ℤ ticks
    → ticks ≤ℤ pos 705600000000000000 → from ≡ count → IsCounted count from ticks
counted count from ticks fits low high same =
    let near = counted-near from ticks (omega (arith, ints, same, fits.sfits))
    (omega (arith, ints, low, high)) in
    record {
      same = same;
      near = near;
      fit = (
        omega (arith, ints, same, fits.sfits),
        fits_signed_from_abs w128 (from *ℤ ticks) (omega (arith, near)),
      );
    }

pub overflow_mul-result : goal.overflow_mul-result
overflow_mul-result c =
    let count : FitsSigned w64 c.args.count = c.ranges.count in
    let ticks : FitsSigned w128 c.args.frame = c.ranges.frame in
    let p = counted _ c.from.result _ count c.requires.low c.requires.high
    (simp to_z-of_z at c.from.ensures) in
    let wide = p.fit.0 in simp to_z-of_z p.fit.1

pub returns-clause-value : goal.returns-clause-value
returns-clause-value c =
    let count : FitsSigned w64 c.args.count = c.ranges.count in
    let ticks : FitsSigned w128 c.args.frame = c.ranges.frame in
    let p = counted _ c.from.result _ count c.requires.low c.requires.high
    (simp to_z-of_z at c.from.ensures) in
    let (wide, fits) = p.fit in simp to_z-of_z (ap (λ n. n *ℤ c.args.frame) p.same)

pub returns-clause-near : goal.returns-clause-near
returns-clause-near c =
    let count : FitsSigned w64 c.args.count = c.ranges.count in
    let ticks : FitsSigned w128 c.args.frame = c.ranges.frame in
    let p = counted _ c.from.result _ count c.requires.low c.requires.high
    (simp to_z-of_z at c.from.ensures) in
    let (wide, fits) = p.fit in
    let near = p.near in
    simp to_z-of_z (record { low = omega (arith, ints, near); high = omega (arith, ints, near) })
