use Rattle.std.proofs.Common.{arith, sym, ◌∙◌}
use Rattle.edit_plans.proofs.Reached.{before_here, before_side, before_start}
use Rattle.edit_plans.proofs.child_at.child_before.Goals as goal

pub returns-then-not-is_transition : goal.returns-then-not-is_transition
returns-then-not-is_transition c =
    before_here c.args.children.now c.args.end c.children.index _ c.child.result.now (omega arith)
    c.child.ensures (sym c.is_transition.ensures ∙ c.if-not-is_transition.true)
    c.children.invariant.side c.children.invariant.start

pub children-preserved : goal.children-preserved
children-preserved c =
    let is = sym c.is_transition.ensures ∙ c.if-not-is_transition.false in record {
      side = λ k. c.children.invariant.side k
          ∙ before_side c.args.children.now c.children.index _ c.child.result.now (omega arith)
          c.child.ensures is k;
      start = c.children.invariant.start
          ∙ before_start c.args.children.now c.children.index _ c.child.result.now (omega arith)
          c.child.ensures is;
    }
