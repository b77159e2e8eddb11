use Rattle.std.proofs.Common.{◌+ℤ◌, FitsSigned}
use Rattle.std.specs.Int.{w128}
use Rattle.std.proofs.lemmas.Int.{to_z-of_z}
use Rattle.pieces.proofs.OverlapBounds.{end_fits}
use Rattle.pieces.proofs.StripLemmas.{meets_after}
use Rattle.pieces.proofs.stripping.ends_behind.Goals as goal

pub overflow_add-result : goal.overflow_add-result
overflow_add-result c =
    let after : FitsSigned w128 c.args.after = c.ranges.after in
    let at : FitsSigned w128 c.args.at = c.ranges.at in
    simp to_z-of_z (end_fits c.args.after c.args.at
    c.requires.after_low c.requires.after_high c.requires.low c.requires.high)

pub returns : goal.returns
returns c =
    let after : FitsSigned w128 c.args.after = c.ranges.after in
    let at : FitsSigned w128 c.args.at = c.ranges.at in
    let from : FitsSigned w128 c.args.from = c.ranges.from in
    let fits : FitsSigned w128 (c.args.at +ℤ c.args.after) = end_fits c.args.after c.args.at
    c.requires.after_low c.requires.after_high c.requires.low c.requires.high in
    simp to_z-of_z (meets_after c.args.at c.args.after c.args.from)
