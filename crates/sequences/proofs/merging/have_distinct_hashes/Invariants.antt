use Rattle.std.proofs.Common.{◌≡◌, take, map}
use Rattle.sequences.specs.Pairs.{names_of}
use Rattle.sequences.specs.Hashes.{hash_of}
use Rattle.sequences.proofs.merging.have_distinct_hashes.Given as goal

abbrev pub invariant-loop-pair : goal.invariant-loop-pair
invariant-loop-pair g l = l.hashes.items ≡ map hash_of (names_of (take l.pair-index l.pairs))
