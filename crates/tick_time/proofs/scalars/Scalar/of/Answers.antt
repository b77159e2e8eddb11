use Rattle.std.proofs.Common.{FitsSigned, w64, refl}
use Rattle.std.proofs.lemmas.Int.{to_z-of_z}
use mir.Syntax.{w128}
use Rattle.tick_time.specs.Times.{IsSpeed}
use Rattle.tick_time.proofs.Readings.{fast_speed, huge_speed}
use Rattle.tick_time.proofs.Products.{rounded_fit, speed_fits}
use Rattle.tick_time.proofs.NearTimes.{test_false}
use Rattle.tick_time.proofs.scalars.Scalar.of.Goals as goal

pub overflow_cast-result : goal.overflow_cast-result
overflow_cast-result c =
    let speed : FitsSigned w128 c.in-Some.speed =
    rounded_fit c.in-Some.speed c.in-Some.ensures.1 in
    let test = simp to_z-of_z at c.is_speed.ensures.speed in
    simp to_z-of_z (speed_fits c.in-Some.speed (test.0 c.if-is_speed.true))

pub invariant_of-result : goal.invariant_of-result
invariant_of-result c =
    let speed : FitsSigned w128 c.in-Some.speed =
    rounded_fit c.in-Some.speed c.in-Some.ensures.1 in
    let test = simp to_z-of_z at c.is_speed.ensures.speed in
    let is : IsSpeed c.in-Some.speed = test.0 c.if-is_speed.true in
    let small : FitsSigned w64 c.in-Some.speed = speed_fits c.in-Some.speed is in
    simp to_z-of_z is

pub returns-then-is_speed-clause-speed : goal.returns-then-is_speed-clause-speed
returns-then-is_speed-clause-speed c =
    let speed : FitsSigned w128 c.in-Some.speed =
    rounded_fit c.in-Some.speed c.in-Some.ensures.1 in
    let test = simp to_z-of_z at c.is_speed.ensures.speed in
    let is : IsSpeed c.in-Some.speed = test.0 c.if-is_speed.true in
    let small : FitsSigned w64 c.in-Some.speed = speed_fits c.in-Some.speed is in
    simp to_z-of_z c.in-Some.ensures.0

pub returns-else-is_speed-clause-fault : goal.returns-else-is_speed-clause-fault
returns-else-is_speed-clause-fault c =
    let speed : FitsSigned w128 c.in-Some.speed =
    rounded_fit c.in-Some.speed c.in-Some.ensures.1 in
    let test = simp to_z-of_z at c.is_speed.ensures.speed in
    let not = test_false c.is_speed.result (IsSpeed c.in-Some.speed) c.if-is_speed.false test in
    (refl, fast_speed _ c.in-Some.speed c.in-Some.ensures.0 not)

pub returns-in-None-clause-fault : goal.returns-in-None-clause-fault
returns-in-None-clause-fault c = (refl, huge_speed _ c.in-None.ensures)
