-- Those left, and those of the inputs so far, are all.
use Rattle.std.proofs.Common.{◌-◌, length}
use Rattle.flat_stack.specs.Inputs.{slot_of}
use Rattle.flat_stack.proofs.CountLemmas.{IsLeft}
use Rattle.flat_stack.proofs.counting.room_behind.Given as goal

abbrev pub invariant-parts : goal.invariant-parts
invariant-parts l = IsLeft l.givers.parts.now (slot_of l.seat) l.room l.left l.index

abbrev pub decreases-parts : goal.decreases-parts
decreases-parts l = length l.givers.parts.now - l.index
