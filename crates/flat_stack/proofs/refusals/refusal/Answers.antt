use Rattle.std.proofs.Common.{arith, FitsSigned, pos, ◌≤ℤ◌}
use mir.Syntax.{w128}
use Rattle.std.proofs.lemmas.Int.{to_z-of_z, ints}
use Rattle.otio_model.specs.Trees.{items_of}
use Rattle.flat_stack.proofs.RefusalLemmas.{child_cuttable, child_near, part_refused}
use Rattle.flat_stack.proofs.refusals.refusal.Goals as goal
use Rattle.flat.specs.declared.faults.Cause.TheVariants as C

pub item_at-item-requires : goal.item_at-item-requires
item_at-item-requires c =
    let g = c.requires.part.given c.in-Some.given c.in-Some.is in (g.item, g.at)

pub is_cut-requires-clause-cuttable : goal.is_cut-requires-clause-cuttable
is_cut-requires-clause-cuttable c = child_cuttable c.args.children.now c.in-Some.given.track c.in-Some.given.child c.item_at-item.result.now c.item_at-item.ensures c.requires.faultless c.requires.few

pub is_cut-requires-clause-low : goal.is_cut-requires-clause-low
is_cut-requires-clause-low c =
    let g = c.requires.part.given c.in-Some.given c.in-Some.is in
    let low = g.low in
    let from = g.from in
    let fits : FitsSigned w128 c.in-Some.given.start = omega (arith, ints, low, from, c.requires.part.wide, c.requires.part.high) in
    simp to_z-of_z low

pub is_cut-requires-clause-high : goal.is_cut-requires-clause-high
is_cut-requires-clause-high c =
    let g = c.requires.part.given c.in-Some.given c.in-Some.is in
    let low = g.low in
    let from = g.from in
    let fits : FitsSigned w128 c.in-Some.given.start = omega (arith, ints, low, from, c.requires.part.wide, c.requires.part.high) in
    let high : c.in-Some.given.start ≤ℤ pos 100000000000000000000000000000000000000 = omega (arith, ints, from, c.requires.part.wide, c.requires.part.high) in
    simp to_z-of_z high

pub returns-else-is_cut-clause-near : goal.returns-else-is_cut-clause-near
returns-else-is_cut-clause-near c = child_near c.args.children.now c.in-Some.given.track c.in-Some.given.child c.item_at-item.result.now C.Phase c.item_at-item.ensures c.requires.few

pub returns-else-is_cut-clause-sought : goal.returns-else-is_cut-clause-sought
returns-else-is_cut-clause-sought c =
    let g = c.requires.part.given c.in-Some.given c.in-Some.is in
    let low = g.low in
    let from = g.from in
    let fits : FitsSigned w128 c.in-Some.given.start = omega (arith, ints, low, from, c.requires.part.wide, c.requires.part.high) in
    let fits_from : FitsSigned w128 c.args.part.from = omega (arith, ints, c.requires.part.low, c.requires.part.wide, c.requires.part.high) in
    let fits_to : FitsSigned w128 c.args.part.to = omega (arith, ints, c.requires.part.low, c.requires.part.wide, c.requires.part.high) in
    let cut = simp to_z-of_z at c.is_cut.ensures in
    part_refused (items_of c.args.children.now) c.args.part c.in-Some.given c.item_at-item.result.now c.is_cut.result c.in-Some.is c.item_at-item.ensures cut c.if-is_cut.false
