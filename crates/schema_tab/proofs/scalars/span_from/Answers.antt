use Rattle.std.proofs.Common.{◌<ℤ◌, pos, refl, rules, arith, FitsSigned}
use Rattle.std.specs.Int.{w128}
use Rattle.std.proofs.lemmas.Int.{ints, to_z-of_z}
use Rattle.schema_tab.proofs.scalars.span_from.Goals as goal

pub returns-then-len-lt0-clause-fault : goal.returns-then-len-lt0-clause-fault
returns-then-len-lt0-clause-fault c =
    let fits : FitsSigned w128 c.range_in.result.0.ticks = search rules in
    let test = simp to_z-of_z at c.if-len-lt0.true in
    let below : c.range_in.result.0.ticks <ℤ pos 0 = grind (arith, ints) in
    λ n. ((c.range_in.result.1, c.range_in.result.0, c.range_in.ensures, below), c.range_fault.ensures n)

pub returns-clause-value : goal.returns-clause-value
returns-clause-value c = (_, c.range_in.ensures, refl)
