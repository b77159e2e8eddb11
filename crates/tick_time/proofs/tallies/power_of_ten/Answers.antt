use Rattle.std.proofs.Common.{arith}
use Rattle.std.proofs.Math.Nat.{pow-le-pow_right, one-le-pow}
use Rattle.tick_time.proofs.tallies.power_of_ten.Goals as goal

pub pow-requires : goal.pow-requires
pow-requires c = omega (arith, pow-le-pow_right {n = 10} (omega arith) {i = c.args.exponent} {j = 38} c.requires)

pub returns-clause-positive : goal.returns-clause-positive
returns-clause-positive c = omega (arith, one-le-pow c.args.exponent 10 (omega arith))

pub returns-clause-bound : goal.returns-clause-bound
returns-clause-bound c = omega (arith, pow-le-pow_right {n = 10} (omega arith) {i = c.args.exponent} {j = 38} c.requires)
