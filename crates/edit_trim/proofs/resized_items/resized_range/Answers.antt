use Rattle.edits.specs.Children.{Ranged}
use Rattle.std.proofs.lemmas.Int.{to_z-of_z}
use Rattle.edit_trim.proofs.Ranges.{range_made}
use Rattle.edit_trim.proofs.resized_items.resized_range.Goals as goal

pub returns-in-Ok-clause-made : goal.returns-in-Ok-clause-made
returns-in-Ok-clause-made c =
    let start = c.ranges.start in
    let length = c.ranges.length in
    range_made c.args.making.rate (Ranged c.args.item.now c.args.start c.args.length)
    c.in-Ok.range c.args.item.now (simp to_z-of_z at c.in-Ok.ensures.made)
