use Rattle.pull_list.proofs.Nearness.{widening_at}
use Rattle.pull_list.proofs.wanted.widened.Goals as goal

pub runs-preserved : goal.runs-preserved
runs-preserved c =
    widening_at c.args.handles c.args.runs.now c.runs.near.items c.put_run.new.runs.items
    c.args.runs.now c.widen.result c.runs.run-index _ c.runs-test.true c.runs.invariant
    (record {
      group = c.widen.ensures.group;
      first = c.widen.ensures.first;
      past = c.widen.ensures.past;
    }) c.widen.ensures.within c.in_ok-put_run.ensures
