use Rattle.std.proofs.lemmas.Int.{to_z-of_z}
use Rattle.std.proofs.lemmas.Result.{IfOk-weaker}
use Rattle.edits.specs.Children.{new_gap}
use Rattle.edit_trim.proofs.Made.{one_made}
use Rattle.edit_trim.proofs.resized_items.one_gap.Goals as goal

pub returns-in-Ok-clause-made : goal.returns-in-Ok-clause-made
returns-in-Ok-clause-made c =
    let ticks = c.ranges.ticks in
    IfOk-weaker c.alone.result _ _ (λ list e. one_made c.args.making.rate (new_gap c.args.ticks)
    c.in-Ok.gap list.items (simp to_z-of_z at c.in-Ok.ensures.made) e) c.alone.ensures.made
