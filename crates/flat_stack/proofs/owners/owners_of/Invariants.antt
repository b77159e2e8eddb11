-- The inputs so far are kept.
use Rattle.std.proofs.Common.{take}
use Rattle.flat_stack.specs.Givers.{HasOwners}
use Rattle.flat_stack.proofs.owners.owners_of.Given as goal

abbrev pub invariant-parts : goal.invariant-parts
invariant-parts l = HasOwners l.owners (take l.index l.parts)
