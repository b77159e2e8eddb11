-- The items so far are transitions.
use Rattle.std.proofs.Common.{◌≡◌, None, take}
use Rattle.edits.specs.Edges.{first_item}
use Rattle.edit_trim.proofs.replacements.first_index.Given as goal

abbrev pub invariant-items : goal.invariant-items
invariant-items l = first_item (take l.index l.list) ≡ None
