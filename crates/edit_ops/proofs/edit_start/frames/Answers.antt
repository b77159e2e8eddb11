use Rattle.std.proofs.Common.{FitsSigned, w64, arith, ◌≡◌, ap, ℤ, pos, negsuc}
use Rattle.std.proofs.Common.{◌*ℤ◌, ◌≤ℤ◌, ◌^◌, ◌≤◌}
use mir.Syntax.{w128}
use Rattle.std.specs.Prelude.{unsigned_abs}
use Rattle.std.proofs.Math.Nat.{mul-le-mul}
use Rattle.std.proofs.lemmas.Int.{ints, to_z-of_z, unsigned_abs-mul}
use Rattle.tick_time.proofs.Products.{frame_positive, frames_fit}
use Rattle.edit_ops.proofs.edit_start.frames.Goals as goal

-- a frame as a wider number, times the ticks of one
record IsProduct (at from ticks : ℤ) : Type 0 where
  same : from ≡ at
  near : unsigned_abs (from *ℤ ticks) ≤ 10 ^ 37
  fit : FitsSigned w128 from × FitsSigned w128 (from *ℤ ticks)

product-near : (from ticks : ℤ) → unsigned_abs from ≤ 2 ^ 63
    → unsigned_abs ticks ≤ 705600000000000000 → unsigned_abs (from *ℤ ticks) ≤ 10 ^ 37
product-near from ticks few long =
    let size = mul-le-mul few long in omega (arith, unsigned_abs-mul from ticks, size)

product : (at from ticks : ℤ) → FitsSigned w64 at → from ≡ at → pos 1000000 ≤ℤ ticks
    → ticks ≤ℤ pos 705600000000000000 → IsProduct at from ticks
product at from ticks fits same least most =
    let near = product-near from ticks (omega (arith, ints, same, fits.sfits))
    (omega (arith, ints, least, most)) in
    record {
      same = same;
      near = near;
      fit = (
        omega (arith, ints, same, fits.sfits),
        frames_fit from ticks (omega (arith, ints, same, fits.sfits))
            (omega (arith, ints, same, fits.sfits)) (frame_positive ticks least) most,
      );
    }

product-low : (a b : ℤ) → pos 0 ≤ℤ a → pos 0 ≤ℤ b → pos 0 ≤ℤ (a *ℤ b)
product-low (pos a) (pos b) h k = omega (arith, ints)
product-low (negsuc a) b h k = absurd (omega (arith, ints, h))
product-low (pos a) (negsuc b) h k = absurd (omega (arith, ints, k))

pub overflow_mul-result : goal.overflow_mul-result
overflow_mul-result c =
    let at : FitsSigned w64 c.args.at = c.ranges.at in
    let ticks : FitsSigned w128 c.args.frame = c.ranges.frame in
    let p = product _ c.from.result _ at (simp to_z-of_z at c.from.ensures) c.requires.least
    c.requires.most in
    let wide = p.fit.0 in simp to_z-of_z p.fit.1

pub returns-clause-value : goal.returns-clause-value
returns-clause-value c =
    let at : FitsSigned w64 c.args.at = c.ranges.at in
    let ticks : FitsSigned w128 c.args.frame = c.ranges.frame in
    let p = product _ c.from.result _ at (simp to_z-of_z at c.from.ensures) c.requires.least
    c.requires.most in
    let (wide, fits) = p.fit in simp to_z-of_z (ap (λ n. n *ℤ c.args.frame) p.same)

pub returns-clause-low : goal.returns-clause-low
returns-clause-low c =
    let at : FitsSigned w64 c.args.at = c.ranges.at in
    let ticks : FitsSigned w128 c.args.frame = c.ranges.frame in
    let p = product _ c.from.result _ at (simp to_z-of_z at c.from.ensures) c.requires.least
    c.requires.most in
    let (wide, fits) = p.fit in
    let same = p.same in
    simp to_z-of_z (product-low c.from.result c.args.frame
    (omega (arith, ints, same, c.requires.late)) (omega (arith, ints, c.requires.least)))

pub returns-clause-high : goal.returns-clause-high
returns-clause-high c =
    let at : FitsSigned w64 c.args.at = c.ranges.at in
    let ticks : FitsSigned w128 c.args.frame = c.ranges.frame in
    let p = product _ c.from.result _ at (simp to_z-of_z at c.from.ensures) c.requires.least
    c.requires.most in
    let (wide, fits) = p.fit in
    let near = p.near in simp to_z-of_z (omega (arith, ints, near))
