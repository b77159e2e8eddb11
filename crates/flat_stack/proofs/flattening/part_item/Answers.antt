use Rattle.std.proofs.Common.{◌≡◌, arith, rules, refl, ap, FitsSigned, pos, ◌-ℤ◌, ◌<ℤ◌, ◌≤ℤ◌, Some}
use mir.Syntax.{w128}
use Rattle.std.proofs.lemmas.Int.{to_z-of_z, ints}
use Rattle.otio_model.specs.Trees.{items_of}
use Rattle.edits.specs.Children.{ticks, made, new_gap}
use Rattle.flat_stack.proofs.RefusalLemmas.{child_cuttable, child_one}
use Rattle.flat_stack.proofs.PieceLemmas.{both_cut, clip_is, ends_fit, gap_is, length_fits}
use Rattle.flat_stack.proofs.flattening.part_item.Goals as goal

pub item_at-item-requires : goal.item_at-item-requires
item_at-item-requires c =
    let g = c.requires.part.given c.in-Some.given c.in-Some.is in (g.item, g.at)

pub overflow_sub-from : goal.overflow_sub-from
overflow_sub-from c =
    let g = c.requires.part.given c.in-Some.given c.in-Some.is in
    let fits : FitsSigned w128 c.in-Some.given.start = search rules in
    let fits_from : FitsSigned w128 c.args.part.from = search rules in
    simp to_z-of_z (ends_fit c.requires.part g).0

pub overflow_sub-to : goal.overflow_sub-to
overflow_sub-to c =
    let g = c.requires.part.given c.in-Some.given c.in-Some.is in
    let fits : FitsSigned w128 c.in-Some.given.start = search rules in
    let fits_to : FitsSigned w128 c.args.part.to = search rules in
    simp to_z-of_z (ends_fit c.requires.part g).1

pub part-requires-clause-cuttable : goal.part-requires-clause-cuttable
part-requires-clause-cuttable c =
    child_cuttable c.args.children.now c.in-Some.given.track c.in-Some.given.child c.item_at-item.result.now c.item_at-item.ensures c.requires.faultless c.requires.few

pub part-requires-clause-low : goal.part-requires-clause-low
part-requires-clause-low c =
    let g = c.requires.part.given c.in-Some.given c.in-Some.is in
    let fits : FitsSigned w128 c.in-Some.given.start = search rules in
    let fits_to : FitsSigned w128 c.args.part.to = search rules in
    let fits_last = (ends_fit c.requires.part g).1 in
    let k : pos 0 <ℤ (c.args.part.to -ℤ c.in-Some.given.start) =
    omega (arith, ints, g.from, c.requires.part.wide) in
    simp to_z-of_z k

pub part-requires-clause-wide : goal.part-requires-clause-wide
part-requires-clause-wide c =
    let g = c.requires.part.given c.in-Some.given c.in-Some.is in
    let ends = ends_fit c.requires.part g in
    let fits : FitsSigned w128 c.in-Some.given.start = search rules in
    let fits_from : FitsSigned w128 c.args.part.from = search rules in
    let fits_to : FitsSigned w128 c.args.part.to = search rules in
    let fits_first = ends.0 in
    let fits_last = ends.1 in
    let k : (c.args.part.from -ℤ c.in-Some.given.start) <ℤ (c.args.part.to -ℤ c.in-Some.given.start) =
    omega (arith, ints, c.requires.part.wide) in
    simp to_z-of_z k

pub part-requires-clause-high : goal.part-requires-clause-high
part-requires-clause-high c =
    let g = c.requires.part.given c.in-Some.given c.in-Some.is in
    let fits : FitsSigned w128 c.in-Some.given.start = search rules in
    let fits_from : FitsSigned w128 c.args.part.from = search rules in
    let fits_first = (ends_fit c.requires.part g).0 in
    let same = child_one (items_of c.args.children.now) c.in-Some.given.track c.in-Some.given.child g.item c.item_at-item.result.now g.at c.item_at-item.ensures in
    let len : ticks g.item ≡ ticks c.item_at-item.result.now = ap ticks same in
    let k : pos 0 <ℤ (c.args.part.from -ℤ c.in-Some.given.start) → (c.args.part.from -ℤ c.in-Some.given.start) <ℤ ticks c.item_at-item.result.now =
    (λ h. omega (arith, ints, g.to, len, c.requires.part.wide)) in
    simp to_z-of_z k

pub part-requires-clause-first : goal.part-requires-clause-first
part-requires-clause-first c =
    let g = c.requires.part.given c.in-Some.given c.in-Some.is in
    let fits : FitsSigned w128 c.in-Some.given.start = search rules in
    let fits_from : FitsSigned w128 c.args.part.from = search rules in
    let fits_first = (ends_fit c.requires.part g).0 in
    let cut = both_cut (items_of c.args.children.now) c.args.part c.in-Some.given
    c.item_at-item.result.now c.in-Some.is c.item_at-item.ensures c.requires.cut in
    simp to_z-of_z cut.0

pub part-requires-clause-last : goal.part-requires-clause-last
part-requires-clause-last c =
    let cut = both_cut (items_of c.args.children.now) c.args.part c.in-Some.given
    c.item_at-item.result.now c.in-Some.is c.item_at-item.ensures c.requires.cut in
    let g = c.requires.part.given c.in-Some.given c.in-Some.is in
    let fits : FitsSigned w128 c.in-Some.given.start = search rules in
    let fits_to : FitsSigned w128 c.args.part.to = search rules in
    let fits_last = (ends_fit c.requires.part g).1 in
    simp to_z-of_z cut.1

pub overflow_sub-part : goal.overflow_sub-part
overflow_sub-part c =
    let fits_from : FitsSigned w128 c.args.part.from = search rules in
    let fits_to : FitsSigned w128 c.args.part.to = search rules in
    simp to_z-of_z (length_fits c.requires.part)

pub short_gap-requires-clause-low : goal.short_gap-requires-clause-low
short_gap-requires-clause-low c =
    let fits_from : FitsSigned w128 c.args.part.from = search rules in
    let fits_to : FitsSigned w128 c.args.part.to = search rules in
    let fits_ticks = length_fits c.requires.part in
    let k : pos 0 ≤ℤ (c.args.part.to -ℤ c.args.part.from) =
    omega (arith, ints, c.requires.part.wide) in
    simp to_z-of_z k

pub short_gap-requires-clause-high : goal.short_gap-requires-clause-high
short_gap-requires-clause-high c =
    let fits_from : FitsSigned w128 c.args.part.from = search rules in
    let fits_to : FitsSigned w128 c.args.part.to = search rules in
    let fits_ticks = length_fits c.requires.part in
    let k : (c.args.part.to -ℤ c.args.part.from) ≤ℤ pos 705600000000000000000000 =
    omega (arith, ints, c.requires.part.low, c.requires.part.high) in
    simp to_z-of_z k

pub returns-in_ok-piece-in-Some : goal.returns-in_ok-piece-in-Some
returns-in_ok-piece-in-Some c =
    let is =
    (let g = c.requires.part.given c.in-Some.given c.in-Some.is in
    let ends = ends_fit c.requires.part g in
    let fits : FitsSigned w128 c.in-Some.given.start = search rules in
    let fits_from : FitsSigned w128 c.args.part.from = search rules in
    let fits_to : FitsSigned w128 c.args.part.to = search rules in
    let fits_first = ends.0 in
    let fits_last = ends.1 in
    simp to_z-of_z at c.in_ok-piece-in-Some.ensures) in
    clip_is c.args.rate (items_of c.args.children.now) c.args.part c.in-Some.given
    c.item_at-item.result.now c.in_ok-piece-in-Some.piece c.in-Some.is c.item_at-item.ensures is

pub returns-in-None : goal.returns-in-None
returns-in-None c =
    let fits_from : FitsSigned w128 c.args.part.from = search rules in
    let fits_to : FitsSigned w128 c.args.part.to = search rules in
    let fits_ticks = length_fits c.requires.part in
    let is : made c.args.rate (new_gap (c.args.part.to -ℤ c.args.part.from))
    ≡ Some c.short_gap.result = simp to_z-of_z at c.short_gap.ensures in
    gap_is c.args.rate (items_of c.args.children.now) c.args.part
    (c.args.part.to -ℤ c.args.part.from) c.short_gap.result c.in-None.is refl is
