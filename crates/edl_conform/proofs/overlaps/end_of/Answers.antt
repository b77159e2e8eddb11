use Rattle.std.proofs.Common.{◌*◌, arith}
use Rattle.limits.specs.Limits.{most_ticks}
use Rattle.edl_conform.proofs.CastLemmas.{near_in}
use Rattle.edl_conform.proofs.JudgeLemmas.{stands_near, wider}
use Rattle.edl_conform.proofs.overlaps.end_of.Goals as goal

pub returns-clause-range : goal.returns-clause-range
returns-clause-range c =
    near_in (2 * most_ticks) c.begin_or.result (omega arith)
    (c.begin_or.ensures.range c.requires.open
    (near_in (2 * most_ticks) c.args.seat.now.end (omega arith)
    (wider most_ticks (2 * most_ticks) c.args.seat.now.end (omega arith)
    (stands_near c.args.seat.now c.requires.seated).end)))
