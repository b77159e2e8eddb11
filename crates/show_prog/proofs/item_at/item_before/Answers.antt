use Rattle.std.proofs.Common.{arith, sym, ◌∙◌}
use Rattle.otio_model.specs.Trees.{items_of}
use Rattle.show_prog.proofs.ReachedItems.{before_here, before_next}
use Rattle.show_prog.proofs.item_at.item_before.Goals as goal

pub returns-then-not-is_transition : goal.returns-then-not-is_transition
returns-then-not-is_transition c =
    sym (c.children.invariant ∙ before_here (items_of c.args.children.now) _ c.children.index
    c.child.result.now (omega arith) c.child.ensures
    (sym c.is_transition.ensures ∙ c.if-not-is_transition.true))

pub children-preserved : goal.children-preserved
children-preserved c =
    c.children.invariant ∙ before_next (items_of c.args.children.now) _ c.children.index
    c.child.result.now (omega arith) c.child.ensures
    (sym c.is_transition.ensures ∙ c.if-not-is_transition.false)
