-- The first of the parts so far that can't be cut.
use Rattle.std.proofs.Common.{IfSome}
use Rattle.otio_model.specs.Trees.{items_of}
use Rattle.flat_stack.specs.Refused.{IsRefusedTo}
use Rattle.flat_stack.specs.Spots.{IsNear}
use Rattle.flat_stack.specs.Sought.{IsSought}
use Rattle.flat_stack.proofs.refusals.first_refusal.Given as goal

abbrev pub invariant-parts : goal.invariant-parts
invariant-parts l =
    IfSome l.first IsNear × IsSought (IsRefusedTo (items_of l.children) l.parts l.index) l.first
