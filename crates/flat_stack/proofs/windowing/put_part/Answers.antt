use Rattle.std.proofs.Common.{refl, rules, FitsSigned}
use mir.Syntax.{w128}
use Rattle.std.proofs.lemmas.Int.{to_z-of_z}
use Rattle.flat_stack.proofs.PartLemmas.{front_of}
use Rattle.flat_stack.proofs.PassedLemmas.{none_put, not_over, part_put}
use Rattle.flat_stack.proofs.windowing.put_part.Goals as goal

pub returns-then-is_over : goal.returns-then-is_over
returns-then-is_over c =
    let fits : FitsSigned w128 c.args.zone.from = search rules in
    let over = simp to_z-of_z at c.is_over.ensures in
    none_put c.args.rate c.args.zone.from c.args.zone.to c.args.item.now c.is_over.result _ _ over c.if-is_over.true c.requires.wide refl

pub part-requires-clause-high : goal.part-requires-clause-high
part-requires-clause-high c =
    let fits : FitsSigned w128 c.args.zone.from = search rules in
    let over = simp to_z-of_z at c.is_over.ensures in
    simp to_z-of_z (not_over c.args.zone.from c.args.item.now c.is_over.result over c.if-is_over.false)

pub returns : goal.returns
returns c =
    let fits : FitsSigned w128 c.args.zone.from = search rules in
    let fits_to : FitsSigned w128 c.args.zone.to = search rules in
    let over = simp to_z-of_z at c.is_over.ensures in
    let piece = simp to_z-of_z at c.in_ok-piece.ensures in
    part_put c.args.rate c.args.zone.from c.args.zone.to c.args.item.now c.in_ok-piece.piece _ _
    (λ y e. (front_of c.args.rate c.args.item.now y c.args.zone.from c.args.zone.to c.requires.cuttable c.requires.low c.requires.wide (not_over c.args.zone.from c.args.item.now c.is_over.result over c.if-is_over.false) c.requires.first e).high)
    piece c.in_ok-push.ensures.items
