-- The place so far.
use Rattle.std.proofs.Common.{◌≡◌, take}
use Rattle.coord.proofs.judging.place_of.Given as goal

abbrev pub invariant-indexes : goal.invariant-indexes
invariant-indexes l = l.place ≡ take l.index-index l.way
