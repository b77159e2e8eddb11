use Rattle.std.proofs.Common.{arith}
use Rattle.std.proofs.lemmas.Str.Parse.{digit_at}
use Rattle.tick_time.proofs.Scans.{front_long}
use Rattle.tick_time.proofs.tallies.Tally.push_all.Goals as goal

pub push-requires-clause-low : goal.push-requires-clause-low
push-requires-clause-low c = (digit_at c.args.digits.now c.loop-digit.digit-index c.requires.digits (omega arith)).0

pub push-requires-clause-high : goal.push-requires-clause-high
push-requires-clause-high c = (digit_at c.args.digits.now c.loop-digit.digit-index c.requires.digits (omega arith)).1

pub returns-in-None-clause-all : goal.returns-in-None-clause-all
returns-in-None-clause-all c = λ read t. front_long read c.args.digits.now c.loop-digit.digit-index (omega arith) (c.in-None.ensures.digit _ (c.loop-digit.invariant.read read t))
