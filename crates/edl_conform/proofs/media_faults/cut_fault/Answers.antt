use Rattle.std.proofs.Common.{◌≡◌, ◌∙◌, to_z, of_z, arith, rules, FitsSigned}
use Rattle.std.specs.Int.{w64}
use Rattle.std.specs.Option.{option_copied}
use Rattle.std.proofs.lemmas.Int.{ints}
use Rattle.edl_conform.proofs.LoopSteps.{of_one, other_rate, outside, same_reason}
use Rattle.edl_conform.proofs.media_faults.cut_fault.Goals as goal

pub returns : goal.returns
returns c =
    let row = c.reel_row-row.ensures.row in
    let n = c.args.to.now.frames in
    let side = c.args.to.now.side.now in
    let fits : FitsSigned w64 n = search rules in
    let frames : to_z w64 (of_z w64 n) ≡ n = omega (arith, ints, fits) in
    let media = option_copied c.args.media.now.rows in
    let rate = c.args.media.now.rate in
    c.first_reason.ensures
    ∙ same_reason c.args.line _ _ _ _ _ _
    (of_one _ _ _ (c.is_unlisted.ensures n) c.alone.ensures)
    (of_one _ _ _ (other_rate rate media side n _ _ c.has_other_rate.ensures row)
    c.alone-2.ensures)
    (of_one _ _ _ (outside rate media side _ n _ _ c.is_outside.ensures row frames)
    c.alone-3.ensures)
