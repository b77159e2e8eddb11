use Rattle.std.proofs.Common.{drop}
use Rattle.pull_list.proofs.Nearness.{IsWidening}
use Rattle.pull_list.proofs.wanted.widened.Given as goal

abbrev pub invariant-runs : goal.invariant-runs
invariant-runs l = IsWidening l.fn.handles l.runs l.near.items (drop l.run-index l.runs)
