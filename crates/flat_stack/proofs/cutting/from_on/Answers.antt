use Rattle.std.proofs.Common.{arith, refl, ◌∙◌, pos, ◌<ℤ◌}
use Rattle.std.proofs.lemmas.Int.{to_z-of_z, ints}
use Rattle.flat_stack.proofs.PartLemmas.{back_all, back_cut}
use Rattle.flat_stack.proofs.cutting.from_on.Goals as goal

pub returns-then-ticks-le0 : goal.returns-then-ticks-le0
returns-then-ticks-le0 c = back_all c.args.rate c.args.item c.args.item c.args.ticks (omega (arith, ints)) refl

pub parted-requires-clause-high : goal.parted-requires-clause-high
parted-requires-clause-high c =
    let fits = c.ranges.ticks in
    let low : pos 0 <ℤ c.args.ticks = omega (arith, ints) in simp to_z-of_z (c.requires.high low)

pub returns-in-Ok : goal.returns-in-Ok
returns-in-Ok c =
    let fits = c.ranges.ticks in
    let made = simp to_z-of_z at c.in-Ok.ensures.right in
    back_cut c.args.rate c.args.item c.in-Ok.back c.args.ticks (omega (arith, ints)) ∙ made
