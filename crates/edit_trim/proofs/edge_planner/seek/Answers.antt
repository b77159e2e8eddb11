use Rattle.std.proofs.Common.{rules, arith, ◌≡◌, FitsSigned, ◌*ℤ◌}
use mir.Syntax.{w128}
use Rattle.std.proofs.lemmas.Int.{to_z-of_z, ints}
use Rattle.otio_model.specs.Trees.{items_of}
use Rattle.edit_trim.proofs.Seeking.{found_is, index_there, start_high, start_low}
use Rattle.edit_trim.proofs.edge_planner.seek.Goals as goal

pub motion_at-requires-clause-there : goal.motion_at-requires-clause-there
motion_at-requires-clause-there c = index_there (items_of c.args.children.now) c.in-Some.seat.index
    _ c.in-Some.ensures.held.item

pub motion_at-requires-clause-start_low : goal.motion_at-requires-clause-start_low
motion_at-requires-clause-start_low c = start_low (items_of c.args.children.now) _ c.in-Some.seat
    c.in-Some.ensures.held

pub motion_at-requires-clause-start_high : goal.motion_at-requires-clause-start_high
motion_at-requires-clause-start_high c =
    let n = c.in_ticks.ensures.near in
    let fits : FitsSigned w128 c.in_ticks.result = search rules in
    let k = start_high (items_of c.args.children.now) c.in_ticks.result c.in-Some.seat
    (simp to_z-of_z at c.in-Some.ensures.held) in
    omega (arith, ints, n.high, k)

pub returns-in-Some-motion_at-clause-found : goal.returns-in-Some-motion_at-clause-found
returns-in-Some-motion_at-clause-found c =
    let frame = c.ranges.frame in
    let at = c.ranges.at in
    let fits : FitsSigned w128 c.in_ticks.result = search rules in
    let e : c.in_ticks.result ≡ (c.args.at *ℤ c.args.frame) =
    simp to_z-of_z at c.in_ticks.ensures.value in
    found_is c.args.frame c.in_ticks.result (c.args.at *ℤ c.args.frame) c.args.edges
    (items_of c.args.children.now) c.in-Some.seat c.in-Some-motion_at.motion e
    (simp to_z-of_z at c.in-Some.ensures.held)
    (simp to_z-of_z at c.in-Some-motion_at.ensures.motion)
    c.in-Some-motion_at.ensures.beside

pub returns-in-Some-motion_at-clause-near : goal.returns-in-Some-motion_at-clause-near
returns-in-Some-motion_at-clause-near c =
    let n = c.in_ticks.ensures.near in
    let fits : FitsSigned w128 c.in_ticks.result = search rules in
    let k = start_high (items_of c.args.children.now) c.in_ticks.result c.in-Some.seat
    (simp to_z-of_z at c.in-Some.ensures.held) in
    omega (arith, ints, n.high, k)
