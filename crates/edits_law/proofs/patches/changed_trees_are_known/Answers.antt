use Rattle.std.proofs.Common.{◌≡◌, Some, None}
use Rattle.coord.specs.Soundness.{fault_of}
use Rattle.coord.specs.declared.faults.ItemFault.TheVariants.{Long}
use Rattle.edits_law.proofs.Anywhere.{everywhere, count_at}
use Rattle.edits_law.proofs.patches.changed_trees_are_known.Goals as goal

pub returns : goal.returns
returns c = record { sound = everywhere (λ x. fault_of x ≡ None); short = everywhere (λ x. fault_of x ≡ Some Long → ⊥); count = count_at }
