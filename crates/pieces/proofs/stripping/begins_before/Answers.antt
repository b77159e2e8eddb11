use Rattle.std.proofs.Common.{◌-ℤ◌, FitsSigned}
use Rattle.std.specs.Int.{w128}
use Rattle.std.proofs.lemmas.Int.{to_z-of_z}
use Rattle.pieces.proofs.OverlapBounds.{begin_fits}
use Rattle.pieces.proofs.StripLemmas.{meets_before}
use Rattle.pieces.proofs.stripping.begins_before.Goals as goal

pub overflow_sub-result : goal.overflow_sub-result
overflow_sub-result c =
    let before : FitsSigned w128 c.args.before = c.ranges.before in
    let at : FitsSigned w128 c.args.at = c.ranges.at in
    simp to_z-of_z (begin_fits c.args.before c.args.at
    c.requires.before_low c.requires.before_high c.requires.low c.requires.high)

pub returns : goal.returns
returns c =
    let before : FitsSigned w128 c.args.before = c.ranges.before in
    let at : FitsSigned w128 c.args.at = c.ranges.at in
    let to : FitsSigned w128 c.args.to = c.ranges.to in
    let fits : FitsSigned w128 (c.args.at -ℤ c.args.before) = begin_fits c.args.before c.args.at
    c.requires.before_low c.requires.before_high c.requires.low c.requires.high in
    simp to_z-of_z (meets_before c.args.at c.args.before c.args.to)
