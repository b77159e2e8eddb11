use Rattle.std.proofs.Common.{ap, sym, take, vec_items, cond, [], ◌∷◌, ◌++◌, ◌∙◌}
use Rattle.std.proofs.lemmas.List.{append-nil}
use Rattle.flat_stack.specs.Givers.{is_long, places}
use Rattle.flat_stack.proofs.OwnerLemmas.{places_next}
use Rattle.flat_stack.proofs.givers.long_inputs.Goals as goal
use Rattle.flat_stack.proofs.givers.long_inputs.Goals.{then-is_long+in_ok-push, else-is_long}

pub parts-preserved : goal.parts-preserved
parts-preserved c =
    let so_far = places is_long 0 (take c.parts.index c.args.parts.now) in
    let step = sym (places_next is_long c.args.parts.now c.parts.index c.part_at.result.now c.part_at.ensures) in
    elim c.if-is_long.branch [
      | then-is_long+in_ok-push w ↦ ap vec_items w.longs-is ∙ w.in_ok-push.ensures.items
          ∙ ap (λ z. z ++ c.parts.index ∷ []) c.parts.invariant
          ∙ ap (λ b. so_far ++ cond b (c.parts.index ∷ []) [])
          (sym (sym c.is_long.ensures ∙ w.if-is_long.true))
          ∙ step
      | else-is_long w ↦ ap vec_items w.longs-is ∙ c.parts.invariant ∙ sym (append-nil so_far)
          ∙ ap (λ b. so_far ++ cond b (c.parts.index ∷ []) [])
          (sym (sym c.is_long.ensures ∙ w.if-is_long.false))
          ∙ step
    ]
