use Rattle.std.proofs.Common.{◌+◌}
use Rattle.tick_time.proofs.ratios.+at_most.Given as goal

abbrev pub decreases-at_most : goal.decreases-at_most
decreases-at_most l = l.b + l.d
