-- The rest of the pairs put into those that are kept gives the merged pairs; the rest of the places are theirs.
use Rattle.std.proofs.Common.{◌≡◌, drop}
use Rattle.sequences.specs.Pairs.{names_of, put_all, merged}
use Rattle.sequences.specs.Places.{places_in}
use Rattle.sequences.proofs.merging.placed.Given as goal

abbrev pub invariant-loop-index : goal.invariant-loop-index
invariant-loop-index g l =
    (put_all l.kept.items l.index-iterator.iter.rest.items ≡ merged l.fn.pairs.items)
    × (drop l.index-iterator.count l.places ≡ places_in (names_of l.kept.items) (names_of l.index-iterator.iter.rest.items))
