use Rattle.pull_list.proofs.PutRuns.{puts_after}
use Rattle.pull_list.proofs.runs.put_uncovered.Goals as goal

pub returns : goal.returns
returns c =
    puts_after c.args.runs.now.items c.push.new.self.items c.args.run c.in_ok-push.ensures.items
