-- The pairs so far are merged as they stand.
use Rattle.std.proofs.Common.{◌≡◌, take}
use Rattle.sequences.specs.Pairs.{merged}
use Rattle.sequences.proofs.merging.are_distinct.Given as goal

abbrev pub invariant-loop-index : goal.invariant-loop-index
invariant-loop-index g l = merged (take l.index l.pairs) ≡ take l.index l.pairs
