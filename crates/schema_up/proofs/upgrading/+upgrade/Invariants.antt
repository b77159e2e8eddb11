use Rattle.std.proofs.Common.{◌≡◌}
use Rattle.schema_up.specs.Upgrades.{pair_at, upgraded_at}
use Rattle.schema_up.proofs.Steps.{done}
use Rattle.schema_up.proofs.upgrading.+upgrade.Given as goal

abbrev pub invariant-each_item-loop-index : goal.invariant-each_item-loop-index
invariant-each_item-loop-index l = l.list.items ≡ done (λ value. upgraded_at value l.fn.row) l.index l.fn.items

abbrev pub invariant-each_member-loop-index : goal.invariant-each_member-loop-index
invariant-each_member-loop-index l = l.pairs.items ≡ done (pair_at l.fn.row l.fn.schema) l.index l.fn.members
