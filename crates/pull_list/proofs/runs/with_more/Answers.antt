use Rattle.pull_list.proofs.PutRuns.{adding_at}
use Rattle.pull_list.proofs.runs.with_more.Goals as goal

pub more-preserved : goal.more-preserved
more-preserved c =
    adding_at c.args.runs.items c.more.all.items c.put_uncovered.new.runs.items c.args.more.now
    c.more.run-index _ c.more-test.true c.more.invariant c.in_ok-put_uncovered.ensures

pub returns-clause-within : goal.returns-clause-within
returns-clause-within c = λ n h j. (c.more.invariant.within n h j).0
