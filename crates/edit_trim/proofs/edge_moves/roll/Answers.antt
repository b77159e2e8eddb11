use Rattle.std.proofs.Common.{rules, arith, ◌≡◌, FitsSigned, ◌*ℤ◌}
use mir.Syntax.{w128}
use Rattle.std.specs.Prelude.{option_copied}
use Rattle.std.proofs.lemmas.Int.{to_z-of_z, ints}
use Rattle.otio_model.specs.Trees.{items_of}
use Rattle.edit_trim.specs.declared.edge_edits.EdgeEdit.TheVariants as M
use Rattle.edit_trim.proofs.Asking.{IsZone, roll_as, zone-is}
use Rattle.edit_trim.proofs.Neighbours.{between_at, neighbours_at}
use Rattle.edit_trim.proofs.edge_moves.roll.Goals as goal

pub roll_by-moves-requires-clause-item : goal.roll_by-moves-requires-clause-item
roll_by-moves-requires-clause-item c = c.requires.faultless c.args.seat.index
    c.child-item.result.now c.child-item.ensures

pub end_of-requires-clause-item : goal.end_of-requires-clause-item
end_of-requires-clause-item c = c.requires.faultless c.args.seat.index c.child-item.result.now
    c.child-item.ensures

pub returns-clause-motion : goal.returns-clause-motion
returns-clause-motion c =
    let frame = c.ranges.frame in
    let start : FitsSigned w128 c.args.seat.start = search rules in
    let head = c.ranges.head in
    let tail = c.ranges.tail in
    let n1 = c.roll_by-moves.ensures.near_head in
    let n2 = c.roll_by-moves.ensures.near_tail in
    let f1 : FitsSigned w128 c.roll_by-moves.result.head = omega (arith, ints, n1.low, n1.high) in
    let f2 : FitsSigned w128 c.roll_by-moves.result.tail = omega (arith, ints, n2.low, n2.high) in
    let f3 : FitsSigned w128 c.end_of.result = search rules in
    let e1 : c.edges_in_ticks-asked.result.head ≡ (c.args.head *ℤ c.args.frame) =
    simp to_z-of_z at c.edges_in_ticks-asked.ensures.head in
    let e2 : c.edges_in_ticks-asked.result.tail ≡ (c.args.tail *ℤ c.args.frame) =
    simp to_z-of_z at c.edges_in_ticks-asked.ensures.tail in
    let z : IsZone c.zone_between.result c.args.seat.start c.roll_by-moves.result.head
    c.end_of.result c.roll_by-moves.result.tail = zone-is (simp to_z-of_z at
    c.zone_between.ensures.from)
    (simp to_z-of_z at c.zone_between.ensures.to) c.zone_between.ensures.near_from
    c.zone_between.ensures.near_to in
    between_at (items_of c.args.children.now) c.args.seat
    (option_copied c.item_before-before.result) c.child-item.result.now
    (option_copied c.item_after-after.result) c.args.frame (M.Roll c.args.head c.args.tail) _
    c.item_before-before.ensures.item c.child-item.ensures c.item_after-after.ensures.item
    (roll_as c.args.frame c.args.seat.start c.args.head c.args.tail
    c.edges_in_ticks-asked.result.head c.edges_in_ticks-asked.result.tail c.end_of.result
    (option_copied c.item_before-before.result) (option_copied c.item_after-after.result)
    c.child-item.result.now c.roll_by-moves.result c.zone_between.result c.roll_shape.result
    c.requires.low e1 e2 (simp to_z-of_z at c.roll_by-moves.ensures.value) n1 n2 z
    (simp to_z-of_z at c.end_of.ensures.value) c.roll_shape.ensures)

pub returns-clause-beside : goal.returns-clause-beside
returns-clause-beside c = λ h at place instant.
    let head = c.ranges.head in
    let tail = c.ranges.tail in
    neighbours_at (items_of c.args.children.now) c.args.seat
    (option_copied c.item_before-before.result) (option_copied c.item_after-after.result)
    c.args.head c.args.tail _ c.item_before-before.ensures.item c.item_after-after.ensures.item
    (simp to_z-of_z at c.lacks.ensures) c.if-lacks.false h at
