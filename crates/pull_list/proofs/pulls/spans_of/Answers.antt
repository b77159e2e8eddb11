use Rattle.std.proofs.Common.{arith, drop}
use Rattle.std.proofs.lemmas.List.{drop_all}
use Rattle.pull_list.proofs.Giving.{giving_ends}
use Rattle.pull_list.proofs.pulls.spans_of.Goals as goal

-- src/pulls.rt:74:1
pub returns : goal.returns
returns c =
    let f = c.runs-test.false in
    giving_ends c.args.groups.now c.args.runs.now c.runs.spans.items
    (drop c.runs.run-index c.args.runs.now)
    (drop_all c.runs.run-index c.args.runs.now (omega (arith, f))) c.runs.invariant
