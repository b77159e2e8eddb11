use Rattle.std.proofs.Common.{arith}
use Rattle.flat_stack.proofs.MoveLemmas.{root_left, root_taken}
use Rattle.flat_stack.proofs.joined_tracks.take_root.Goals as goal

pub returns-then-input-len-clause-taken : goal.returns-then-input-len-clause-taken
returns-then-input-len-clause-taken c = λ inputs are.
    root_taken c.args.all.now.items c.args.input c.args.child c.index_mut.result.now
    c.take_child.result inputs
    (omega (arith, c.if-input-len.true, c.len.ensures, c.args.all.now.ok.0))
    c.index_mut.ensures.value c.take_child.ensures.taken are

pub returns-then-input-len-clause-left : goal.returns-then-input-len-clause-left
returns-then-input-len-clause-left c = λ inputs are.
    root_left c.args.all.now.items c.args.input c.index_mut.result.now c.take_child.new.roots inputs
    (omega (arith, c.if-input-len.true, c.len.ensures, c.args.all.now.ok.0))
    c.index_mut.ensures.value c.take_child.ensures.left are
