use Rattle.std.proofs.Common.{arith}
use Rattle.std.proofs.lemmas.Int.{ints}
use Rattle.pull_list.proofs.pulls.span_of.Goals as goal

-- src/pulls.rt:98:16
pub overflow_sub-result : goal.overflow_sub-result
overflow_sub-result c =
    let a = c.requires.run in let b = c.requires.within.0 in let d = c.requires.within.1 in
    omega (arith, ints, a, b, d)

-- src/pulls.rt:88:1
pub returns : goal.returns
returns c =
    let a = c.requires.run in let b = c.requires.within.0 in let d = c.requires.within.1 in record {
      at = c.at-group.ensures.at;
      first = omega (arith, ints, a, b, d);
      count = omega (arith, ints, a, b, d);
    }
