use Rattle.std.proofs.Common.{◌≡◌, ◌+◌, drop}
use Rattle.sequences.specs.Pairs.{names_of}
use Rattle.sequences.specs.Places as at
use Rattle.schema_up.proofs.upgraded_objects.place_of.Given as goal

abbrev pub invariant-loop-place : goal.invariant-loop-place
invariant-loop-place l = l.place + at.place_of l.name (names_of (drop l.place l.pairs)) ≡ at.place_of l.name (names_of l.pairs)
