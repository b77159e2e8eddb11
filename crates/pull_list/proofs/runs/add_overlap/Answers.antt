use Rattle.pull_list.proofs.Common.{added_none, added_some}
use Rattle.pull_list.proofs.runs.add_overlap.Goals as goal

pub returns-in_ok-push-in-Some-clause-has : goal.returns-in_ok-push-in-Some-clause-has
returns-in_ok-push-in-Some-clause-has c =
    added_some c.args.both.now.items c.push.new.self.items c.in-Some.run' c.args.one c.args.other
    c.in_ok-push-in-Some.ensures.items c.in-Some.ensures.has

pub returns-in-None-clause-has : goal.returns-in-None-clause-has
returns-in-None-clause-has c =
    added_none c.args.both.now.items c.args.one c.args.other c.in-None.ensures.has
