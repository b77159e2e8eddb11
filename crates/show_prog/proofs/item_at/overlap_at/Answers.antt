-- Where no overlap holds the instant, nothing is mixed.
use Rattle.std.proofs.Common.{FitsSigned, to_z-of_z}
use Rattle.std.specs.Int.{w128}
use Rattle.show_prog.proofs.ReachedItems.{none_mixed}
use Rattle.show_prog.proofs.item_at.overlap_at.Goals as goal

pub returns-in-None-clause-shows : goal.returns-in-None-clause-shows
returns-in-None-clause-shows c =
    let at : FitsSigned w128 c.args.at = c.ranges.at in
    λ v. none_mixed v c.args.children.now c.args.at c.requires.sound c.requires.few c.requires.low
    (simp to_z-of_z at c.in-None.ensures.none)
