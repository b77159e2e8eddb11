use Rattle.std.proofs.Common.{arith, subst}
use Rattle.std.proofs.lemmas.List.{take_all}
use Rattle.flat_stack.specs.Givers.{HasOwners}
use Rattle.flat_stack.proofs.OwnerLemmas.{owners_none}
use Rattle.flat_stack.proofs.owners.owners_of.Goals as goal

pub parts-init : goal.parts-init
parts-init c = owners_none c.new-owners.result c.new-owners.ensures.empty

pub returns : goal.returns
returns c =
    subst (HasOwners c.parts.owners) (take_all c.parts.index c.args.parts.now (omega arith))
    c.parts.invariant
