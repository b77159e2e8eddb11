use Rattle.std.proofs.Common.{◌≡◌, map, take}
use Rattle.schema_write.specs.Objects.{medium_pair}
use Rattle.schema_write.proofs.media.media_pairs.Given as goal

abbrev pub invariant-pairs : goal.invariant-pairs
invariant-pairs l = l.made.items ≡ map medium_pair (take l.pair-index l.pairs)
