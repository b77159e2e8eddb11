use Rattle.std.proofs.Common.{◌≡◌, drop}
use Rattle.otio_model.specs.Misplaced.{side_by_side}
use Rattle.schema_tab.proofs.Sides.{beside}
use Rattle.schema_tab.proofs.rules.side_by_side.Given as goal

abbrev pub invariant-loop-item : goal.invariant-loop-item
invariant-loop-item l = side_by_side l.items ≡ beside l.behind (drop l.item-index l.items)
