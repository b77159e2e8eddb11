-- Those of the inputs so far.
use Rattle.std.proofs.Common.{◌≡◌, take}
use Rattle.flat_stack.specs.Givers.{is_long, places}
use Rattle.flat_stack.proofs.givers.long_inputs.Given as goal

abbrev pub invariant-parts : goal.invariant-parts
invariant-parts l = l.longs.items ≡ places is_long 0 (take l.index l.parts)
