use Rattle.std.proofs.Common.{length, ◌+◌, ◌-◌, drop}
use Rattle.pull_list.proofs.Common.{IsMeeting}
use Rattle.pull_list.proofs.runs.common.Given as goal

abbrev pub invariant-pairs : goal.invariant-pairs
invariant-pairs l =
    IsMeeting l.one l.other l.both.items (drop l.at l.one) (drop l.next l.other)

abbrev pub decreases-pairs : goal.decreases-pairs
decreases-pairs l = (length l.one - l.at) + (length l.other - l.next)
