use Rattle.std.proofs.lemmas.Int.{to_z-of_z}
use Rattle.pieces.proofs.NotFar.{item_within}
use Rattle.pieces.proofs.new_ranges.ranged_within.Goals as goal

pub returns-in-Ok : goal.returns-in-Ok
returns-in-Ok c =
    let fits = c.ranges.start in
    let fits_too = c.ranges.len in
    simp to_z-of_z at c.in-Ok.ensures.made

pub out_of_memory-requires : goal.out_of_memory-requires
out_of_memory-requires c = λ e.
    let fits = c.ranges.start in
    let fits_too = c.ranges.len in
    let far = simp to_z-of_z at c.in-Err.ensures.far in
    item_within c.args.item.now c.args.start c.args.len c.requires.start_low c.requires.start_high
    c.requires.low c.requires.high (far e)
