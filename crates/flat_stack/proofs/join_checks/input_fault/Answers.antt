use Rattle.std.proofs.Common.{arith}
use Rattle.otio_model.specs.Trees.{items_of}
use Rattle.coord.proofs.Members.{child_few, index_few, got_below}
use Rattle.pieces.proofs.Inner.{root_faultless}
use Rattle.flat_stack.proofs.BlockLemmas.{roots_free}
use Rattle.flat_stack.proofs.join_checks.input_fault.Goals as goal

pub track_fault-requires-clause-few : goal.track_fault-requires-clause-few
track_fault-requires-clause-few c = child_few c.args.children.now c.children.index c.child.result.now c.child.ensures c.requires.few

pub track_fault-requires-clause-faultless : goal.track_fault-requires-clause-faultless
track_fault-requires-clause-faultless c = root_faultless c.args.children.now c.children.index c.child.result.now c.requires.faultless c.child.ensures

pub track_fault-requires-clause-near : goal.track_fault-requires-clause-near
track_fault-requires-clause-near c = index_few c.args.children.now c.children.index (got_below (items_of c.args.children.now) c.children.index c.child.result.now c.child.ensures) c.requires.few

pub returns-clause-none : goal.returns-clause-none
returns-clause-none c = roots_free c.args.is_first c.args.is_last (items_of c.args.children.now) c.children.index (omega arith) c.children.invariant
