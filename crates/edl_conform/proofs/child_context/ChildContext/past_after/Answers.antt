use Rattle.edl_conform.proofs.ShortLemmas.{carried_short}
use Rattle.edl_conform.proofs.child_context.ChildContext.past_after.Goals as goal

pub returns-clause-range : goal.returns-clause-range
returns-clause-range c = record {
  stands = c.past_behind.ensures.range;
  short = c.past_behind.ensures.short c.args.job.now.ticks
      (carried_short c.args.job.now c.args.self.now c.requires.carried c.requires.past);
}
