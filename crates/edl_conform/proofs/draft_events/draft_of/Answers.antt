use Rattle.edl_conform.proofs.ShortLemmas.{tail_short}
use Rattle.edl_conform.proofs.draft_events.draft_of.Goals as goal

pub returns-in-None-next-clause-short : goal.returns-in-None-next-clause-short
returns-in-None-next-clause-short c = λ ticks h.
    tail_short ticks c.args.seat.now c.in-Some.overlap c.black_draft.result c.lap_at.result
    c.in-Some.ensures.overlap c.lap_at.ensures.long c.black_draft.ensures.lap h
