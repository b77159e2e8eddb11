use Rattle.pull_list.proofs.PutRuns.{ordering_at}
use Rattle.pull_list.proofs.runs.are_apart.Goals as goal

pub runs-preserved : goal.runs-preserved
runs-preserved c =
    ordering_at _ c.in-Some.more.now c.runs.last c.runs.run-index _ c.runs-test.true
    c.runs.invariant (c.precedes.ensures c.if-not-precedes.false)
