use Rattle.std.proofs.Common.{drop}
use Rattle.pull_list.proofs.PutRuns.{IsOrdering}
use Rattle.pull_list.proofs.runs.are_apart.Given as goal

abbrev pub invariant-runs : goal.invariant-runs
invariant-runs l = IsOrdering l.fn.runs l.last (drop l.run-index l.more)
