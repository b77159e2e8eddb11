use Rattle.std.proofs.Common.{ap, cond, [], ◌∷◌, ◌++◌, ◌==◌, ◌∙◌}
use Rattle.flat_stack.proofs.OwnerLemmas.{row_more}
use Rattle.flat_stack.proofs.owners.add_to_row.Goals as goal

pub returns : goal.returns
returns c = λ n.
    row_more c.add_rows.new.rows.items c.args.index n c.args.input c.index_mut.result.now
    c.push.new.self c.in_ok-add_rows.ensures.there c.index_mut.ensures.value
    c.in_ok-push.ensures.items
    ∙ ap (λ z. z ++ cond (n == c.args.index) (c.args.input ∷ []) []) (c.in_ok-add_rows.ensures.same n)
