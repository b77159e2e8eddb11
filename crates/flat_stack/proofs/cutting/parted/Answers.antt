use Rattle.std.proofs.lemmas.Int.{to_z-of_z}
use Rattle.edits.specs.Cuts.{is_whole_at}
use Rattle.flat_stack.proofs.PartLemmas.{not_phased, refused}
use Rattle.flat_stack.proofs.cutting.parted.Goals as goal

pub returns-in-Ok-clause-left : goal.returns-in-Ok-clause-left
returns-in-Ok-clause-left c = let fits = c.ranges.ticks in simp to_z-of_z at c.in-Ok.ensures.left

pub returns-in-Ok-clause-right : goal.returns-in-Ok-clause-right
returns-in-Ok-clause-right c = let fits = c.ranges.ticks in simp to_z-of_z at c.in-Ok.ensures.right

pub unreachable-requires : goal.unreachable-requires
unreachable-requires c =
    let fits = c.ranges.ticks in
    let fault = simp to_z-of_z at c.in-Err-Phase.ensures.fault in
    not_phased c.args.item.now c.args.ticks c.requires.whole c.requires.low c.requires.high
    (refused c.in-Err-Phase.field-0 (is_whole_at c.args.item.now c.args.ticks)
    c.in-Err-Phase.field-0-is fault)
