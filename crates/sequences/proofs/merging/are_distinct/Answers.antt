use Rattle.std.proofs.Common.{arith}
use Rattle.sequences.proofs.PairLemmas.{merged-more}
use Rattle.sequences.proofs.merging.are_distinct.Goals as goal

pub loop-index-preserved : goal.loop-index-preserved
loop-index-preserved g c =
    merged-more c.args.pairs.now c.loop-index.index c.index-pairs-index.result (omega arith) c.index-pairs-index.is
    (rw (c.place_of.ensures, c.as_str.ensures) at c.if-place_of-index.false) c.loop-index.invariant
