-- The count of a day.
use Rattle.std.proofs.Common.{arith}
use Rattle.smpte_tc.proofs.Dropping.{day_count}
use Rattle.smpte_tc.proofs.modes.Mode.day_count.Goals as goal

pub returns : goal.returns
returns c = omega (arith, day_count c.args.self.now c.requires.some c.requires.fewer, c.from.ensures, c.from-2.ensures)
