use Rattle.std.proofs.Common.{◌-◌, ◌<◌, arith}
use Rattle.std.specs.Prelude.{slice_index}
use Rattle.sequences.proofs.HashLemmas.{rising-more}
use Rattle.sequences.proofs.merging.is_rising.Goals as goal

pub loop-at-preserved : goal.loop-at-preserved
loop-at-preserved c =
    let xs = c.args.numbers.now in
    let at = c.loop-at.at in
    let last : slice_index xs (at - 1) < slice_index xs at = c.if-numbers-at.false in
    (omega arith, rising-more xs at c.loop-at.invariant.1 (at - 1) (omega (arith, c.loop-at.invariant.0)) last)

pub returns : goal.returns
returns c = λ yes k within. c.loop-at.invariant.1 k (omega arith)
