use Rattle.std.proofs.Common.{sym}
use Rattle.schema_tab.proofs.Sides.{beside-first}
use Rattle.schema_tab.proofs.rules.side_by_side.Goals as goal

pub loop-item-init : goal.loop-item-init
loop-item-init c = sym (beside-first c.args.items.now)
