use Rattle.std.proofs.Common.{◌-◌, arith, sym, ◌∙◌}
use Rattle.otio_model.specs.Trees.{items_of}
use Rattle.edit_plans.proofs.Beside.{before_begins, before_found, before_next, before_none}
use Rattle.edit_plans.proofs.neighbours.before_item.Goals as goal

pub children-init : goal.children-init
children-init c = before_begins (items_of c.args.children.now) c.args.index

pub returns-then-not-is_transition-clause-some : goal.returns-then-not-is_transition-clause-some
returns-then-not-is_transition-clause-some c =
    before_found (items_of c.args.children.now) c.args.index (c.children.candidate - 1)
    c.children.candidate c.child.result.now (omega arith) (omega arith) c.children.invariant
    c.child.ensures
    (sym c.is_transition.ensures ∙ c.if-not-is_transition.true)

pub children-preserved : goal.children-preserved
children-preserved c =
    before_next (items_of c.args.children.now) c.args.index (c.children.candidate - 1)
    c.children.candidate c.child.result.now (omega arith) c.children.invariant c.child.ensures
    (sym c.is_transition.ensures ∙ c.if-not-is_transition.false)

pub returns-clause-none : goal.returns-clause-none
returns-clause-none c =
    before_none (items_of c.args.children.now) c.args.index _ (omega arith) c.children.invariant
