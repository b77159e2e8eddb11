use Rattle.std.proofs.Common.{◌≡◌, ◌∙◌, to_z, of_z, arith, rules, FitsSigned}
use Rattle.std.specs.Int.{w64}
use Rattle.std.specs.Option.{option_copied}
use Rattle.std.proofs.lemmas.Int.{ints}
use Rattle.edl_conform.proofs.LoopSteps.{of_two, other_rate, outside, same_reason}
use Rattle.edl_conform.proofs.media_faults.pair_fault.Goals as goal

pub returns : goal.returns
returns c =
    let media = option_copied c.args.media.now.rows in
    let rate = c.args.media.now.rate in
    let to_row = c.reel_row-to_row.ensures.row in
    let from_row = c.reel_row-from_row.ensures.row in
    let to = c.args.to.now.side.now in
    let from = c.args.from.now.side.now in
    let n = c.args.to.now.frames in
    let m = c.args.from.now.frames in
    let fits_to : FitsSigned w64 n = search rules in
    let fits : FitsSigned w64 m = search rules in
    let last : to_z w64 (of_z w64 n) ≡ n = omega (arith, ints, fits_to) in
    let first : to_z w64 (of_z w64 m) ≡ m = omega (arith, ints, fits) in
    c.first_reason.ensures
    ∙ same_reason c.args.line _ _ _ _ _ _
    (of_two _ _ _ _ _ (c.is_unlisted.ensures m) (c.is_unlisted-2.ensures n) c.either.ensures)
    (of_two _ _ _ _ _ (other_rate rate media from m _ _ c.has_other_rate.ensures from_row)
    (other_rate rate media to n _ _ c.has_other_rate-2.ensures to_row) c.either-2.ensures)
    (of_two _ _ _ _ _ (outside rate media from _ m _ _ c.is_outside.ensures from_row first)
    (outside rate media to _ n _ _ c.is_outside-2.ensures to_row last) c.either-3.ensures)
