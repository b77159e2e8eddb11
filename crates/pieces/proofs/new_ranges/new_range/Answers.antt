use Rattle.std.proofs.Common.{refl}
use Rattle.std.proofs.lemmas.Int.{to_z-of_z}
use Rattle.pieces.proofs.SameTimes.{made_by}
use Rattle.pieces.proofs.new_ranges.new_range.Goals as goal

pub returns-clause-made : goal.returns-clause-made
returns-clause-made c =
    let fits = c.ranges.start in
    let fits_too = c.ranges.len in
    let start = simp to_z-of_z at c.in-Ok.ensures.near in
    let len = simp to_z-of_z at c.in-Ok-near.ensures.near in
    made_by c.args.rate c.start_rate.result c.length_rate.result c.args.item.now _ c.args.item.now
    _ c.args.start c.args.len c.start_rate.ensures start c.length_rate.ensures len refl refl
