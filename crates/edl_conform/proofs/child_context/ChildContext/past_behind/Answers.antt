use Rattle.edl_conform.proofs.ShortLemmas.{after_short}
use Rattle.edl_conform.proofs.child_context.ChildContext.past_behind.Goals as goal

pub returns-in-Some-clause-short : goal.returns-in-Some-clause-short
returns-in-Some-clause-short c = λ ticks h.
    after_short ticks c.args.self.now c.in-Some.overlap c.lap_at.result
    c.in-Some.ensures.overlap c.lap_at.ensures.long h
