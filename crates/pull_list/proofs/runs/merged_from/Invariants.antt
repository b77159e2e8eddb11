use Rattle.std.proofs.Common.{◌∷◌, drop}
use Rattle.pull_list.proofs.Merging.{IsMerging}
use Rattle.pull_list.proofs.runs.merged_from.Given as goal

abbrev pub invariant-runs : goal.invariant-runs
invariant-runs l = IsMerging (l.fn.first ∷ l.more) l.all.items l.last (drop l.run-index l.more)
