use Rattle.std.proofs.Common.{rules, ◌≡◌, refl, FitsSigned, ◌*ℤ◌}
use mir.Syntax.{w128}
use Rattle.std.proofs.lemmas.Int.{to_z-of_z}
use Rattle.edits.specs.Edges as edges
use Rattle.edit_trim.specs.Seats as seats
use Rattle.edit_trim.proofs.Asking.{IsZone, slide_as, zone-is}
use Rattle.edit_trim.proofs.edge_moves.slide.Goals as goal

pub returns : goal.returns
returns c =
    let frame = c.ranges.frame in
    let start = c.ranges.start in
    let by = c.ranges.by in
    let f1 : FitsSigned w128 c.in_ticks.result = search rules in
    let f2 : FitsSigned w128 c.slide_by-by.result = search rules in
    let e1 : c.in_ticks.result ≡ (c.args.by *ℤ c.args.frame) =
    simp to_z-of_z at c.in_ticks.ensures.value in
    let e2 : c.slide_by-by.result ≡ edges.slide_by c.args.frame c.args.before.now
    c.in_ticks.result = simp to_z-of_z at c.slide_by-by.ensures.value in
    let z : IsZone c.zone_between.result c.args.start c.slide_by-by.result c.args.start
    c.slide_by-by.result =
    zone-is (simp to_z-of_z at c.zone_between.ensures.from)
    (simp to_z-of_z at c.zone_between.ensures.to) c.zone_between.ensures.near_from
    c.zone_between.ensures.near_to in
    let s : c.slide_shape.result ≡ seats.slide_shape c.slide_by-by.result =
    simp to_z-of_z at c.slide_shape.ensures in
    simp to_z-of_z (slide_as c.args.frame c.args.start c.args.by c.in_ticks.result
    c.slide_by-by.result c.slide_by-by.result c.args.before.now c.zone_between.result
    c.slide_shape.result
    c.requires.low e1 e2 c.slide_by-by.ensures.near z s refl)
