use Rattle.std.proofs.Common.{arith, sym, ◌∙◌}
use Rattle.edit_plans.proofs.Reached.{behind_here, behind_side, behind_start, behind_none}
use Rattle.edit_plans.proofs.child_at.child_behind.Goals as goal

pub returns-then-not-is_transition : goal.returns-then-not-is_transition
returns-then-not-is_transition c =
    behind_here c.args.children.now c.args.from c.children.index c.child.result.now
    c.child.ensures (sym c.is_transition.ensures ∙ c.if-not-is_transition.true)
    c.children.invariant.side c.children.invariant.start

pub children-preserved : goal.children-preserved
children-preserved c =
    let is = sym c.is_transition.ensures ∙ c.if-not-is_transition.false in record {
      side = λ v k. c.children.invariant.side v k
          ∙ behind_side c.args.children.now c.children.index c.child.result.now c.child.ensures is v k;
      start = behind_start c.args.children.now c.children.index c.child.result.now c.child.ensures is
          ∙ c.children.invariant.start;
    }

pub returns : goal.returns
returns c = behind_none c.args.children.now c.args.from c.children.index (omega arith) c.children.invariant.side
