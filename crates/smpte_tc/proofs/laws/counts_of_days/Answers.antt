-- The counts of three modes.
use Rattle.std.proofs.Common.{arith}
use Rattle.smpte_tc.specs.Modes.{mode}
use Rattle.smpte_tc.proofs.Dropping.{day_count}
use Rattle.smpte_tc.proofs.laws.counts_of_days.Goals as goal

pub returns : goal.returns
returns c = record {
  film = omega (arith, day_count (mode 24 0) (omega arith) (omega arith));
  drop_30 = omega (arith, day_count (mode 30 2) (omega arith) (omega arith));
  drop_60 = omega (arith, day_count (mode 60 4) (omega arith) (omega arith));
}
