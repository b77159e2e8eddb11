use Rattle.edits_law.proofs.NarrowEdges.{last_before, olds_before, first_behind, olds_behind}
use Rattle.edits_law.proofs.TouchedHeld.{ahead_is, touched_held, last_few, first_few}
use Rattle.edits_law.proofs.patches.edge_patches_are_narrow.Goals as goal

pub returns : goal.returns
returns c = record { before = last_before; before_kept = olds_before; behind = first_behind; behind_kept = olds_behind; ahead = ahead_is; touched = touched_held; few_before = last_few; few_behind = first_few }
