use Rattle.std.proofs.Common.{◌∙◌}
use Rattle.flat_stack.proofs.OwnerLemmas.{row_empty}
use Rattle.flat_stack.proofs.owners.add_rows.Goals as goal

pub rows-preserved : goal.rows-preserved
rows-preserved c = λ n.
    row_empty c.rows.rows.items c.push.new.self.items c.new.result n c.new.ensures.items
    c.in_ok-push.ensures.items ∙ c.rows.invariant n
