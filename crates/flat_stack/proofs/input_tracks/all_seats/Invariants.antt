-- The seats so far and those of the other inputs are all, and the inputs so far are counted.
use Rattle.std.proofs.Common.{take}
use Rattle.flat_stack.specs.Inputs.{HasMost, lists_of}
use Rattle.flat_stack.proofs.SeatLemmas.{AreAll}
use Rattle.flat_stack.proofs.input_tracks.all_seats.Given as goal

abbrev pub invariant-parts : goal.invariant-parts
invariant-parts l = record {
  all : AreAll l.all.items l.parts l.index;
  most : HasMost l.most (take l.index (lists_of l.parts));
}
