use Rattle.std.proofs.Common.{FitsSigned, w64, rules, ◌≡◌, ◌≤ℤ◌, pos, Some, subst, sym}
use Rattle.std.specs.Int.{w128}
use Rattle.std.proofs.lemmas.Int.{to_z-of_z}
use Rattle.edits.specs.Children.{made, new_gap}
use Rattle.tick_time.specs.Frames.{in_ticks}
use Rattle.edit_script.proofs.Puts.{gap_made, some_ticks}
use Rattle.edit_script.proofs.items.gap_of.Goals as goal

pub short_gap-requires-clause-low : goal.short_gap-requires-clause-low
short_gap-requires-clause-low c =
    let a : FitsSigned w64 c.args.length = search rules in
    let b : FitsSigned w128 c.of_frames.result.ticks = search rules in
    let ticks : c.of_frames.result.ticks ≡ in_ticks c.args.rate c.args.length =
    simp to_z-of_z at c.of_frames.ensures.ticks in
    simp to_z-of_z (subst (λ z. pos 0 ≤ℤ z) (sym ticks)
    (some_ticks c.args.rate c.args.length c.requires))

pub returns : goal.returns
returns c =
    let a : FitsSigned w64 c.args.length = search rules in
    let b : FitsSigned w128 c.of_frames.result.ticks = search rules in
    let ticks : c.of_frames.result.ticks ≡ in_ticks c.args.rate c.args.length =
    simp to_z-of_z at c.of_frames.ensures.ticks in
    let is : made c.args.rate (new_gap c.of_frames.result.ticks) ≡ Some c.short_gap.result =
    simp to_z-of_z at c.short_gap.ensures in
    gap_made c.args.rate c.args.length c.of_frames.result.ticks c.short_gap.result ticks is
