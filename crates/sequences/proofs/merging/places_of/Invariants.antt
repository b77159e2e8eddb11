-- The places so far, before those of the rest; the map has the names so far.
use Rattle.std.proofs.Common.{◌≡◌, ◌++◌, [], drop}
use Rattle.sequences.specs.Pairs.{names_of}
use Rattle.sequences.specs.Places.{places_in}
use Rattle.sequences.specs.Known.{Knows}
use Rattle.sequences.proofs.PairLemmas.{known_by}
use Rattle.sequences.proofs.merging.places_of.Given as goal

abbrev pub invariant-loop-pair : goal.invariant-loop-pair
invariant-loop-pair g l =
    (l.found.items ++ places_in (known_by l.pairs l.pair-index) (names_of (drop l.pair-index l.pairs)) ≡ places_in [] (names_of l.pairs))
    × Knows l.known (known_by l.pairs l.pair-index)
