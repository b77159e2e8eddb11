use Rattle.std.proofs.Common.{arith, length}
use Rattle.otio_model.specs.Trees.{items_of}
use Rattle.coord.proofs.Members.{child_few, index_few, got_below}
use Rattle.flat_stack.specs.Misfits.{Misfits}
use Rattle.flat_stack.proofs.FirstLemmas.{free_more}
use Rattle.flat_stack.proofs.SoughtLemmas.{free_from, first_at}
use Rattle.flat_stack.proofs.MisfitLemmas.{none_first, roots_low}
use Rattle.flat_stack.proofs.flat_faults.root_misfit.Goals as goal

pub children-init : goal.children-init
children-init c = none_first c.args.kind.now (items_of c.args.children.now)

pub layer_fault-requires-clause-few : goal.layer_fault-requires-clause-few
layer_fault-requires-clause-few c = child_few c.args.children.now c.children.index c.child.result.now c.child.ensures c.requires.few

pub layer_fault-requires-clause-near : goal.layer_fault-requires-clause-near
layer_fault-requires-clause-near c = index_few c.args.children.now c.children.index (got_below (items_of c.args.children.now) c.children.index c.child.result.now c.child.ensures) c.requires.few

pub returns-in-Some-clause-sought : goal.returns-in-Some-clause-sought
returns-in-Some-clause-sought c = first_at (Misfits c.args.kind.now (items_of c.args.children.now)) c.children.index c.in-Some.spot.track c.in-Some.spot.child c.in-Some.spot.cause c.in-Some.ensures.track c.children.invariant (c.in-Some.ensures.some (items_of c.args.children.now) c.child.ensures)

pub children-preserved : goal.children-preserved
children-preserved c = free_more (Misfits c.args.kind.now (items_of c.args.children.now)) c.children.index c.children.invariant (c.in-None.ensures.none (items_of c.args.children.now) c.child.ensures)

pub returns-clause-sought : goal.returns-clause-sought
returns-clause-sought c = free_from (Misfits c.args.kind.now (items_of c.args.children.now)) (length (items_of c.args.children.now)) c.children.index (omega arith) c.children.invariant (roots_low c.args.kind.now (items_of c.args.children.now))
