use Rattle.std.proofs.Common.{[], arith}
use Rattle.tick_time.proofs.Scans.{significant_more}
use Rattle.tick_time.proofs.tallies.Tally.read.Goals as goal

pub returns-in-Some-clause-all : goal.returns-in-Some-clause-all
returns-in-Some-clause-all c = c.push_all-in-Some.ensures.all c.args.whole.now (c.in-Some.ensures.all [] c.new.ensures)

pub returns-in-None-clause-all : goal.returns-in-None-clause-all
returns-in-None-clause-all c = omega (arith, c.in-None.ensures.all [] c.new.ensures, significant_more c.args.whole.now c.args.decimals.now)
