-- The seats so far that are new are added, and all so far are counted.
use Rattle.std.proofs.Common.{take}
use Rattle.flat.specs.Joined.{is_new}
use Rattle.flat_stack.specs.Inputs.{lists_of}
use Rattle.flat_stack.proofs.MostLemmas.{AreCounted}
use Rattle.flat_stack.proofs.SeatLemmas.{AreAdded}
use Rattle.flat_stack.proofs.input_tracks.add_new.Given as goal

abbrev pub invariant-seats : goal.invariant-seats
invariant-seats l = record {
  added : AreAdded (is_new (take l.at (lists_of l.parts))) l.fn.all.items l.all.items l.seats l.index;
  most : AreCounted l.most l.parts l.at l.index;
}
