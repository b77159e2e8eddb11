use Rattle.std.proofs.Common.{arith, length}
use Rattle.std.proofs.lemmas.Int.{to_z-of_z}
use Rattle.otio_model.specs.Trees.{items_of}
use Rattle.coord.proofs.Members.{child_few, index_few, got_below}
use Rattle.flat.specs.Windowed.{WindowBlocks}
use Rattle.flat_stack.proofs.FirstLemmas.{free_more}
use Rattle.flat_stack.proofs.SoughtLemmas.{free_from, first_at}
use Rattle.flat_stack.proofs.WindowFaults.{none_first, roots_low}
use Rattle.pieces.proofs.Inner.{root_faultless}
use Rattle.flat_stack.proofs.window_faults.window_fault.Goals as goal

pub children-init : goal.children-init
children-init c =
    let fits_from = c.ranges.from in
    let fits_to = c.ranges.to in
    simp to_z-of_z (none_first (items_of c.args.children.now) c.args.from c.args.to)

pub track_fault-requires-clause-few : goal.track_fault-requires-clause-few
track_fault-requires-clause-few c = child_few c.args.children.now c.children.index c.child.result.now c.child.ensures c.requires.few

pub track_fault-requires-clause-faultless : goal.track_fault-requires-clause-faultless
track_fault-requires-clause-faultless c = root_faultless c.args.children.now c.children.index c.child.result.now c.requires.faultless c.child.ensures

pub track_fault-requires-clause-near : goal.track_fault-requires-clause-near
track_fault-requires-clause-near c = index_few c.args.children.now c.children.index (got_below (items_of c.args.children.now) c.children.index c.child.result.now c.child.ensures) c.requires.few

pub returns-in-Some-clause-some : goal.returns-in-Some-clause-some
returns-in-Some-clause-some c =
    let fits_from = c.ranges.from in
    let fits_to = c.ranges.to in
    let first = simp to_z-of_z at (c.in-Some.ensures.some (items_of c.args.children.now) c.child.ensures) in
    let known = simp to_z-of_z at c.children.invariant in
    first_at (WindowBlocks (items_of c.args.children.now) c.args.from c.args.to) c.children.index c.in-Some.spot.track c.in-Some.spot.child c.in-Some.spot.cause c.in-Some.ensures.track known first

pub children-preserved : goal.children-preserved
children-preserved c =
    let fits_from = c.ranges.from in
    let fits_to = c.ranges.to in
    let free = simp to_z-of_z at (c.in-None.ensures.none (items_of c.args.children.now) c.child.ensures) in
    let known = simp to_z-of_z at c.children.invariant in
    simp to_z-of_z (free_more (WindowBlocks (items_of c.args.children.now) c.args.from c.args.to) c.children.index known free)

pub returns-clause-none : goal.returns-clause-none
returns-clause-none c =
    let fits_from = c.ranges.from in
    let fits_to = c.ranges.to in
    let known = simp to_z-of_z at c.children.invariant in
    free_from (WindowBlocks (items_of c.args.children.now) c.args.from c.args.to) (length (items_of c.args.children.now)) c.children.index (omega arith) known (roots_low (items_of c.args.children.now) c.args.from c.args.to)
