-- The items from the index on are transitions.
use Rattle.std.proofs.Common.{◌≡◌, None, drop}
use Rattle.edits.specs.Edges.{last_item}
use Rattle.edit_trim.proofs.replacements.last_index.Given as goal

abbrev pub invariant-items : goal.invariant-items
invariant-items l = last_item (drop l.index l.list) ≡ None
