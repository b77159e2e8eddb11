-- Those left, and those of the tracks so far, are all.
use Rattle.std.proofs.Common.{drop}
use Rattle.flat_stack.specs.Inputs.{slots_of}
use Rattle.flat_stack.proofs.CountLemmas.{HasRoom}
use Rattle.flat_stack.proofs.counting.are_few.Given as goal

abbrev pub invariant-seats : goal.invariant-seats
invariant-seats l =
    HasRoom l.givers.parts.now (slots_of l.seats) l.most l.room (slots_of (drop l.index l.seats))
