use Rattle.std.proofs.Common.{drop}
use Rattle.pull_list.proofs.PutRuns.{IsAdding}
use Rattle.pull_list.proofs.runs.with_more.Given as goal

abbrev pub invariant-more : goal.invariant-more
invariant-more l = IsAdding l.initial.all.items l.all.items l.more (drop l.run-index l.more)
