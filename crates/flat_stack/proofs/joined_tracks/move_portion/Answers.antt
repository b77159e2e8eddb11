use Rattle.std.proofs.Common.{◌≡◌, Some, subst, sym, ap, ◌++◌, ◌∙◌}
use Rattle.std.specs.Prelude.{IfSome}
use Rattle.flat_stack.specs.Portions.{items_or, portion_items, root_at}
use Rattle.flat_stack.proofs.joined_tracks.move_portion.Goals as goal

pub returns-in_ok-move_children-in-Some-clause-moved : goal.returns-in_ok-move_children-in-Some-clause-moved
returns-in_ok-move_children-in-Some-clause-moved c = λ l are.
    let got : root_at l c.in-Moved.input c.in-Moved.child ≡ Some c.in-Some.track =
    subst (λ o. IfSome o (λ x. root_at l c.in-Moved.input c.in-Moved.child ≡ Some x))
    c.in-Some.is (c.take_root.ensures.taken l are) in
    c.in_ok-move_children-in-Some.ensures
    ∙ ap (λ z. c.args.all.now.items ++ z)
    (sym (ap (portion_items l) c.in-Moved.is ∙ ap items_or got))
