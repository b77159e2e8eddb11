use Rattle.std.proofs.Common.{rules, ◌+ℤ◌, FitsSigned, arith}
use Rattle.std.proofs.lemmas.Int.{ints, to_z-of_z}
use mir.Syntax.{w128}
use Rattle.tick_time.proofs.times.Time.add.Goals as goal

pub returns-clause-sum : goal.returns-clause-sum
returns-clause-sum c =
    let one : FitsSigned w128 c.args.self.ticks = search rules in
    let other : FitsSigned w128 c.args.other.ticks = search rules in
    let both : FitsSigned w128 (c.args.self.ticks +ℤ c.args.other.ticks) = omega (arith, ints) in
    rw (← c.larger.ensures) (simp to_z-of_z at c.near.ensures.near)

pub returns-clause-fault : goal.returns-clause-fault
returns-clause-fault c =
    let one : FitsSigned w128 c.args.self.ticks = search rules in
    let other : FitsSigned w128 c.args.other.ticks = search rules in
    let both : FitsSigned w128 (c.args.self.ticks +ℤ c.args.other.ticks) = omega (arith, ints) in
    simp to_z-of_z at c.near.ensures.fault
