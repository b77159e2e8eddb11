use Rattle.std.proofs.Common.{arith, refl, sym, ap, ◌∙◌, ◌++◌, ◌∷◌, [], drop, vec_items}
use Rattle.otio_model.specs.Trees.{items_of}
use Rattle.coord.proofs.Members.{next, none_left}
use Rattle.flat_stack.proofs.TrackPlaces.{others_kept, others_less, others_all}
use Rattle.flat_stack.proofs.flat_tracks.copy_others.Goals.{then-not-is_of+in_ok-copy_item+in_ok-push, else-not-is_of}
use Rattle.flat_stack.proofs.flat_tracks.copy_others.Goals as goal

pub children-init : goal.children-init
children-init c = refl

pub children-preserved : goal.children-preserved
children-preserved c =
    let step = next (items_of c.args.children.now) c.children.index c.child-item.result.now c.child-item.ensures in
    elim c.if-not-is_of.branch [
      | then-not-is_of+in_ok-copy_item+in_ok-push w ↦
          others_kept c.args.kind.now (drop c.args.from (items_of c.args.children.now)) c.args.all.now.items c.children.all.items c.if-not-is_of.all.items _ _ c.child-item.result.now c.children.invariant step (sym c.is_of.ensures ∙ w.if-not-is_of.true)
          (ap vec_items w.all-is ∙ w.in_ok-push.ensures.items ∙ ap (λ z. c.children.all.items ++ z ∷ []) w.in_ok-copy_item.ensures)
      | else-not-is_of w ↦
          others_less c.args.kind.now (drop c.args.from (items_of c.args.children.now)) c.args.all.now.items c.children.all.items c.if-not-is_of.all.items _ _ c.child-item.result.now c.children.invariant step (sym c.is_of.ensures ∙ w.if-not-is_of.false) (ap vec_items w.all-is)
    ]

pub returns : goal.returns
returns c = others_all c.args.kind.now (drop c.args.from (items_of c.args.children.now)) c.args.all.now.items c.children.all.items (drop c.children.index (items_of c.args.children.now)) c.children.invariant (none_left (items_of c.args.children.now) c.children.index (omega arith))
