use Rattle.std.proofs.Common.{FitsSigned, arith}
use Rattle.std.proofs.lemmas.Int.{to_z-of_z, ints}
use mir.Syntax.{w128}
use Rattle.tick_time.proofs.SpelledRates.{fine_none, millionths_apart, spelled_match, huge_none}
use Rattle.tick_time.proofs.rates.spelled_rate.Goals as goal

pub returns-then-exp-ltminus6 : goal.returns-then-exp-ltminus6
returns-then-exp-ltminus6 c = λ num den s. fine_none c.args.digits c.args.exp num den c.requires.last (omega (arith, ints, c.ranges.exp, c.if-exp-ltminus6.true)) s

pub lowest_rate-requires-clause-apart : goal.lowest_rate-requires-clause-apart
lowest_rate-requires-clause-apart c =
    let fits : FitsSigned w128 c.args.exp = c.ranges.exp in
    millionths_apart c.args.digits c.raised_shift.result c.in-Some.millionths c.args.exp (simp to_z-of_z at c.raised_shift.ensures) c.in-Some.ensures.0 c.requires.apart

pub returns-in-Some : goal.returns-in-Some
returns-in-Some c =
    let fits : FitsSigned w128 c.args.exp = c.ranges.exp in
    spelled_match c.lowest_rate.result c.args.digits c.raised_shift.result c.in-Some.millionths c.args.exp (simp to_z-of_z at c.raised_shift.ensures) c.in-Some.ensures.0 c.lowest_rate.ensures

pub returns-in-None : goal.returns-in-None
returns-in-None c = λ num den s.
    let fits : FitsSigned w128 c.args.exp = c.ranges.exp in
    huge_none c.args.digits c.raised_shift.result c.args.exp num den (simp to_z-of_z at c.raised_shift.ensures) c.in-None.ensures s
