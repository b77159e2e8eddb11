use Rattle.pull_list.proofs.Nearness.{apart_runs}
use Rattle.pull_list.proofs.wanted.near_runs.Goals as goal

pub widened-requires-clause-runs : goal.widened-requires-clause-runs
widened-requires-clause-runs c = apart_runs c.args.runs.now c.requires.runs
