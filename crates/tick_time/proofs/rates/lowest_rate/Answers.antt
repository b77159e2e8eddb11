use Rattle.std.proofs.Common.{◌/◌, arith}
use Rattle.tick_time.proofs.LowestTerms.{reduced, accepted, accepted_given, refused_order, refused_divisor, whole_unit}
use Rattle.tick_time.proofs.rates.lowest_rate.Goals as goal
use Rattle.tick_time.proofs.rates.lowest_rate.Goals.{else-den-num-via-then-den-num+else-num-eq0, else-den-num-via-else-den-num}

pub nonzero_rem-num : goal.nonzero_rem-num
nonzero_rem-num c = let r = (reduced c.args.millionths c.gcd-divisor.result c.gcd-divisor.ensures).den in omega (arith, c.if-den-num.true, r)

pub make_rate-requires-clause-positive : goal.make_rate-requires-clause-positive
make_rate-requires-clause-positive c = (reduced c.args.millionths c.gcd-divisor.result c.gcd-divisor.ensures).den

pub make_rate-requires-clause-whole : goal.make_rate-requires-clause-whole
make_rate-requires-clause-whole c = whole_unit (c.args.millionths / c.gcd-divisor.result) (1000000 / c.gcd-divisor.result) c.if-num-eq0.true

pub make_rate-requires-clause-lowest : goal.make_rate-requires-clause-lowest
make_rate-requires-clause-lowest c = (reduced c.args.millionths c.gcd-divisor.result c.gcd-divisor.ensures).lowest

pub make_rate-requires-clause-given : goal.make_rate-requires-clause-given
make_rate-requires-clause-given c = accepted_given c.args.millionths c.gcd-divisor.result c.gcd-divisor.ensures c.if-den-num.true c.if-num-eq0.true c.requires.apart

pub returns-then-num-eq0 : goal.returns-then-num-eq0
returns-then-num-eq0 c = rw (c.make_rate.ensures.num, c.make_rate.ensures.den) (accepted c.args.millionths c.gcd-divisor.result c.gcd-divisor.ensures c.if-den-num.true c.if-num-eq0.true)

pub returns-else-den-num : goal.returns-else-den-num
returns-else-den-num c = λ num den s.
    elim c.else-den-num.branch [
      | else-den-num-via-then-den-num+else-num-eq0 w ↦ refused_divisor c.args.millionths c.gcd-divisor.result num den c.gcd-divisor.ensures w.if-num-eq0.false s
      | else-den-num-via-else-den-num w ↦ refused_order c.args.millionths c.gcd-divisor.result num den c.gcd-divisor.ensures w.if-den-num.false s
    ]
