use Rattle.std.proofs.Common.{◌≡◌, ◌*ℤ◌, pos, FitsSigned, rules, refl, arith}
use Rattle.std.proofs.lemmas.Int.{to_z-of_z, ints}
use mir.Syntax.{w128}
use Rattle.tick_time.specs.Rates.{unit}
use Rattle.tick_time.proofs.Readings.{time_read, fault_read, huge_read}
use Rattle.tick_time.proofs.Wholes.{whole-product}
use Rattle.tick_time.proofs.times.Time.of.Goals as goal

pub time_of_ticks-requires : goal.time_of_ticks-requires
time_of_ticks-requires c =
    let units : FitsSigned w128 c.in-Some.units = omega (arith, ints, c.in-Some.ensures.1) in
    let ticks : FitsSigned w128 c.unit_ticks.result = search rules in
    let e : c.unit_ticks.result ≡ c.in-Some.units *ℤ pos (unit c.args.rate.num c.args.rate.den) = simp to_z-of_z at c.unit_ticks.ensures in
    simp to_z-of_z (rw e (whole-product c.in-Some.units (unit c.args.rate.num c.args.rate.den)))

pub returns-in-Some-clause-time : goal.returns-in-Some-clause-time
returns-in-Some-clause-time c =
    let units : FitsSigned w128 c.in-Some.units = omega (arith, ints, c.in-Some.ensures.1) in
    let ticks : FitsSigned w128 c.unit_ticks.result = search rules in
    let e : c.unit_ticks.result ≡ c.in-Some.units *ℤ pos (unit c.args.rate.num c.args.rate.den) = simp to_z-of_z at c.unit_ticks.ensures in
    time_read c.time_of_ticks.result _ c.in-Some.units c.unit_ticks.result c.args.rate (simp to_z-of_z at c.time_of_ticks.ensures.time) e c.in-Some.ensures.0

pub returns-in-Some-clause-fault : goal.returns-in-Some-clause-fault
returns-in-Some-clause-fault c =
    let units : FitsSigned w128 c.in-Some.units = omega (arith, ints, c.in-Some.ensures.1) in
    let ticks : FitsSigned w128 c.unit_ticks.result = search rules in
    let e : c.unit_ticks.result ≡ c.in-Some.units *ℤ pos (unit c.args.rate.num c.args.rate.den) = simp to_z-of_z at c.unit_ticks.ensures in
    fault_read c.time_of_ticks.result _ c.in-Some.units c.unit_ticks.result c.args.rate (simp to_z-of_z at c.time_of_ticks.ensures.fault) e c.in-Some.ensures.0

pub returns-in-None-clause-fault : goal.returns-in-None-clause-fault
returns-in-None-clause-fault c = (refl, huge_read _ c.args.rate c.in-None.ensures)
