use Rattle.std.proofs.Common.{pos}
use Rattle.std.proofs.lemmas.Int.{to_z-of_z}
use Rattle.edits.specs.Children as children
use Rattle.pieces.proofs.SameTimes.{made_from}
use Rattle.pieces.proofs.list_fronts.new_gap.Goals as goal

pub returns-clause-made : goal.returns-clause-made
returns-clause-made c =
    let fits = c.ranges.ticks in
    let len = simp to_z-of_z at c.in-Ok-near.ensures.near in
    made_from c.args.rate children.plain_gap c.gap_of.result _ (pos 0) c.args.ticks c.in-Ok.ensures.near len c.gap_of.ensures
