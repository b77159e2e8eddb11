use Rattle.std.proofs.lemmas.Map.Text.{btree_map_updates_str}
use Rattle.flat_stack.proofs.owners.rows_taken.Goals as goal

pub returns-in-Some-clause-gone : goal.returns-in-Some-clause-gone
returns-in-Some-clause-gone c =
    btree_map_updates_str c.args.kind.now c.args.owners.now c.remove.new.self _
    c.remove.ensures.updates
