-- The eleven bytes are the digits of the four numbers.
use Rattle.std.proofs.Common.{arith, rules}
use Rattle.smpte_tc.proofs.Spellings.{spelling_from}
use Rattle.smpte_tc.proofs.address.spelling.Goals as goal

pub returns : goal.returns
returns c =
    spelling_from c.args.label.now c.args.mark c.in_ok-hours.hours c.in_ok-minutes.minutes c.in_ok-seconds.seconds c.in_ok-frames.frames
    (omega (arith, c.in-58.len_at_least, c.in-58.len_below)) (search rules) (search rules) (search rules)
    c.in_ok-hours.ensures c.in_ok-minutes.ensures c.in_ok-seconds.ensures c.in_ok-frames.ensures
