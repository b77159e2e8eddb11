use Rattle.edl_conform.proofs.ShortLemmas.{carried_short}
use Rattle.edl_conform.proofs.event_of_child.event_of.Goals as goal

pub write-requires-clause-short : goal.write-requires-clause-short
write-requires-clause-short c = c.in-Some.ensures.short c.args.job.now.ticks
    (carried_short c.args.job.now c.args.seat.now c.requires.carried c.requires.past)
