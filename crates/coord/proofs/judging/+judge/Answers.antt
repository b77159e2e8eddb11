use Rattle.std.proofs.Common.{◌≡◌, Some, sym, ◌∙◌, arith, rules}
use Rattle.otio_model.specs.Trees.{children_of, items_of}
use Rattle.otio_model.specs.Falls.{child_counts}
use Rattle.coord.proofs.Members.{child_few, index_few, got_below}
use Rattle.coord.proofs.JudgingLemmas.{sound_all, sound_with}
use Rattle.coord.proofs.judging.+judge.Goals as goal

pub judge_children-judge_item-requires : goal.judge_children-judge_item-requires
judge_children-judge_item-requires t c =
    let k = child_counts c.args.children.now c.children.index c.child.result.now c.child.ensures in
    (omega (arith, k, c.decreases), child_few c.args.children.now c.children.index c.child.result.now c.child.ensures c.requires.few)

pub judge_children-under-requires : goal.judge_children-under-requires
judge_children-under-requires t c =
    index_few c.args.children.now c.children.index (got_below (items_of c.args.children.now) c.children.index c.child.result.now c.child.ensures) c.requires.few

pub judge_children-returns-clause-ok : goal.judge_children-returns-clause-ok
judge_children-returns-clause-ok t c = sound_all c.args.children.now c.children.index (omega arith) c.children.invariant

pub judge_item-returns-in-Ok-clause-ok : goal.judge_item-returns-in-Ok-clause-ok
judge_item-returns-in-Ok-clause-ok t c =
    let e : children_of c.args.item.now ≡ Some c.in-Some-children.children.now = first_of (cc (c.in-Some-children.ensures), search rules) in
    sound_with c.args.item.now c.in-Some-children.children.now e (sym c.item_fault.ensures ∙ c.in-None.is) c.in-Ok.ensures.ok
