use Rattle.std.proofs.Common.{rules, ◌≡◌, sym, ◌||◌, false}
use Rattle.std.proofs.Common.{FitsSigned, ◌+ℤ◌}
use mir.Syntax.{w128}
use Rattle.std.proofs.lemmas.Int.{to_z-of_z}
use Rattle.edits.specs.Edges as edges
use Rattle.edit_trim.proofs.Made.{slipped_is}
use Rattle.edit_trim.proofs.Ranges.{range-as, range_far-as}
use Rattle.edit_trim.proofs.resized_items.slipped_range.Goals as goal

pub returns : goal.returns
returns c =
    let by = c.ranges.by in
    let f1 : FitsSigned w128 c.start_ticks.result = search rules in
    let f2 : FitsSigned w128 c.slipped_start-start.result = search rules in
    let f3 : FitsSigned w128 c.sound_ticks.result = search rules in
    let e0 : (edges.is_zero c.args.by || edges.is_gap c.args.item.now) ≡ false =
    sym (simp to_z-of_z at c.if-is_kept.ensures) in
    let e1 : c.slipped_start-start.result ≡ (c.start_ticks.result +ℤ c.args.by) =
    simp to_z-of_z at c.slipped_start-start.ensures in
    let eq = slipped_is c.args.by c.slipped_start-start.result c.start_ticks.result
    c.sound_ticks.result
    c.args.item.now e0 e1 c.start_ticks.ensures.value c.sound_ticks.ensures.value in
    record {
      made = range-as c.args.making.rate c.args.item.now c.resized_range.result eq
          (simp to_z-of_z at c.resized_range.ensures.made);
      kept = c.resized_range.ensures.kept;
      far = range_far-as c.resized_range.result eq (simp to_z-of_z at c.resized_range.ensures.far);
    }
