use Rattle.std.proofs.Common.{rules, arith, ◌≡◌, FitsSigned, pos, ◌*ℤ◌}
use mir.Syntax.{w128}
use Rattle.std.proofs.lemmas.Int.{to_z-of_z, ints}
use Rattle.edit_trim.proofs.Asking.{IsZone, ripple_as, zone-is}
use Rattle.edit_trim.proofs.edge_moves.ripple.Goals as goal

pub returns : goal.returns
returns c =
    let frame = c.ranges.frame in
    let start = c.ranges.start in
    let head = c.ranges.head in
    let tail = c.ranges.tail in
    let n1 = c.ripple_by-moves.ensures.near_head in
    let n2 = c.ripple_by-moves.ensures.near_tail in
    let f4 : FitsSigned w128 c.ripple_by-moves.result.head = omega (arith, ints, n1.low, n1.high) in
    let f5 : FitsSigned w128 c.ripple_by-moves.result.tail = omega (arith, ints, n2.low, n2.high) in
    let f3 : FitsSigned w128 c.end_of.result = search rules in
    let f7 : FitsSigned w128 c.ripple_growth.result = search rules in
    let e1 : c.edges_in_ticks.result.head ≡ (c.args.head *ℤ c.args.frame) =
    simp to_z-of_z at c.edges_in_ticks.ensures.head in
    let e2 : c.edges_in_ticks.result.tail ≡ (c.args.tail *ℤ c.args.frame) =
    simp to_z-of_z at c.edges_in_ticks.ensures.tail in
    let z : IsZone c.zone_between.result c.args.start (pos 0) c.end_of.result (pos 0) =
    zone-is (simp to_z-of_z at c.zone_between.ensures.from)
    (simp to_z-of_z at c.zone_between.ensures.to) c.zone_between.ensures.near_from
    c.zone_between.ensures.near_to in
    simp to_z-of_z (ripple_as c.args.frame c.args.start c.args.head c.args.tail
    c.edges_in_ticks.result.head
    c.edges_in_ticks.result.tail c.ripple_growth.result c.end_of.result c.args.item.now
    c.ripple_by-moves.result c.zone_between.result c.ripple_shape.result
    c.requires.low e1 e2 (simp to_z-of_z at c.ripple_by-moves.ensures.value) n1 n2 z
    (simp to_z-of_z at c.end_of.ensures.value) c.ripple_shape.ensures c.ripple_growth.ensures)
