use Rattle.std.proofs.lemmas.Int.{to_z-of_z}
use Rattle.std.proofs.lemmas.Result.{IfOk-weaker}
use Rattle.edits.specs.Children.{Ranged}
use Rattle.edit_trim.proofs.Made.{one_made}
use Rattle.edit_trim.proofs.resized_items.resized.Goals as goal

pub returns-in-Ok-clause-made : goal.returns-in-Ok-clause-made
returns-in-Ok-clause-made c =
    let start = c.ranges.start in
    let length = c.ranges.length in
    IfOk-weaker c.alone.result _ _ (λ list e. one_made c.args.making.rate
    (Ranged c.args.item.now c.args.start c.args.length) c.in-Ok.copy list.items
    (simp to_z-of_z at c.in-Ok.ensures.made) e) c.alone.ensures.made
