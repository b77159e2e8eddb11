use Rattle.std.proofs.Common.{arith, rules, FitsSigned, ◌≤ℤ◌, pos}
use mir.Syntax.{w128}
use Rattle.std.proofs.lemmas.Int.{to_z-of_z, ints}
use Rattle.flat_stack.proofs.WindowLemmas.{window_named, window_done}
use Rattle.flat_stack.proofs.windowing.window.Goals as goal

pub zone_of-requires : goal.zone_of-requires
zone_of-requires c = record { start = c.requires.sound.faultless.start }

pub window_fault-requires-clause-faultless : goal.window_fault-requires-clause-faultless
window_fault-requires-clause-faultless c = c.requires.sound.faultless.items

pub cut_to-requires-clause-faultless : goal.cut_to-requires-clause-faultless
cut_to-requires-clause-faultless c = c.requires.sound.faultless.items

pub cut_to-requires-clause-free : goal.cut_to-requires-clause-free
cut_to-requires-clause-free c =
    let fits_a = c.ranges.a in
    let fits_b = c.ranges.b in
    let fits_from : FitsSigned w128 c.in-Some.from = search rules in
    let fits_to : FitsSigned w128 c.in-Some.to = search rules in
    let free = simp to_z-of_z at c.in-None-window_fault.ensures.none in
    simp to_z-of_z free

pub returns-in-Some-window_fault-clause-fault : goal.returns-in-Some-window_fault-clause-fault
returns-in-Some-window_fault-clause-fault c =
    let fits_a = c.ranges.a in
    let fits_b = c.ranges.b in
    let zone = simp to_z-of_z at c.in-Some.ensures.some in
    let fits_from : FitsSigned w128 c.in-Some.from = search rules in
    let fits_to : FitsSigned w128 c.in-Some.to = search rules in
    let first = simp to_z-of_z at c.in-Some-window_fault.ensures.some in
    window_named c.args.timeline c.args.a c.args.b c.in-Some.start c.in-Some.from c.in-Some.to c.in-Some-window_fault.spot c.fault_of.result zone first c.fault_of.ensures

pub returns-in-Ok-clause-cut : goal.returns-in-Ok-clause-cut
returns-in-Ok-clause-cut c =
    let fits_a = c.ranges.a in
    let fits_b = c.ranges.b in
    let zone = simp to_z-of_z at c.in-Some.ensures.some in
    let fits_from : FitsSigned w128 c.in-Some.from = search rules in
    let fits_to : FitsSigned w128 c.in-Some.to = search rules in
    let free = simp to_z-of_z at c.in-None-window_fault.ensures.none in
    let cut = simp to_z-of_z at c.in-Ok.ensures in
    window_done c.args.timeline c.args.a c.args.b c.in-Some.start c.in-Some.from c.in-Some.to c.in-Ok.cut zone free cut

pub returns-in-None-clause-fault : goal.returns-in-None-clause-fault
returns-in-None-clause-fault c =
    let fits_a = c.ranges.a in
    let fits_b = c.ranges.b in
    simp to_z-of_z at c.in-None.ensures.none

pub window_fault-requires-clause-from_high : goal.window_fault-requires-clause-from_high
window_fault-requires-clause-from_high c =
    let fits_a = c.ranges.a in
    let fits_b = c.ranges.b in
    let zone = simp to_z-of_z at c.in-Some.ensures.some in
    let fits_from : FitsSigned w128 c.in-Some.from = search rules in
    let fits_to : FitsSigned w128 c.in-Some.to = search rules in
    let k : c.in-Some.from ≤ℤ pos 1411200000000000000000000 = omega (arith, ints, zone.wide, zone.high) in
    simp to_z-of_z k

pub window_fault-requires-clause-to_low : goal.window_fault-requires-clause-to_low
window_fault-requires-clause-to_low c =
    let fits_a = c.ranges.a in
    let fits_b = c.ranges.b in
    let zone = simp to_z-of_z at c.in-Some.ensures.some in
    let fits_from : FitsSigned w128 c.in-Some.from = search rules in
    let fits_to : FitsSigned w128 c.in-Some.to = search rules in
    let k : pos 0 ≤ℤ c.in-Some.to = omega (arith, ints, zone.low, zone.wide) in
    simp to_z-of_z k
