use Rattle.std.proofs.Common.{arith, refl, sym, ◌∙◌}
use Rattle.otio_model.specs.Trees.{items_of}
use Rattle.edit_plans.proofs.Beside.{after_begins, after_found, after_next, after_none}
use Rattle.edit_plans.proofs.neighbours.after_item.Goals as goal

pub children-init : goal.children-init
children-init c = after_begins (items_of c.args.children.now) c.args.index _ refl

pub returns-then-not-is_transition-clause-some : goal.returns-then-not-is_transition-clause-some
returns-then-not-is_transition-clause-some c =
    after_found (items_of c.args.children.now) c.args.index c.children.candidate
    c.child.result.now (omega arith) c.children.invariant c.child.ensures
    (sym c.is_transition.ensures ∙ c.if-not-is_transition.true)

pub children-preserved : goal.children-preserved
children-preserved c =
    after_next (items_of c.args.children.now) c.args.index c.children.candidate
    c.child.result.now c.children.invariant c.child.ensures
    (sym c.is_transition.ensures ∙ c.if-not-is_transition.false)

pub returns-clause-none : goal.returns-clause-none
returns-clause-none c =
    after_none (items_of c.args.children.now) c.args.index _ (omega arith) c.children.invariant
