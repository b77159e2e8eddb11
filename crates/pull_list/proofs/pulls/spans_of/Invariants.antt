-- The spans that were given, and the runs that are still to come.
use Rattle.std.proofs.Common.{drop}
use Rattle.pull_list.proofs.Giving.{IsGiving}
use Rattle.pull_list.proofs.pulls.spans_of.Given as goal

abbrev pub invariant-runs : goal.invariant-runs
invariant-runs l = IsGiving l.groups l.runs l.spans.items (drop l.run-index l.runs)
