use Rattle.std.proofs.Common.{rules, ◌≡◌, sym, ◌&&◌, false}
use Rattle.std.proofs.Common.{FitsSigned, ◌+ℤ◌, ◌-ℤ◌}
use mir.Syntax.{w128}
use Rattle.std.proofs.lemmas.Int.{to_z-of_z}
use Rattle.otio_model.specs.Lengths.{trimmed_start}
use Rattle.coord.specs.Speeds.{media_at, speed_of}
use Rattle.edits.specs.Edges as edges
use Rattle.edit_trim.proofs.Made.{moved_is}
use Rattle.edit_trim.proofs.Ranges.{range-as, range_far-as}
use Rattle.edit_trim.proofs.resized_items.moved_range.Goals as goal

pub returns-in-Some : goal.returns-in-Some
returns-in-Some c =
    let head = c.ranges.head in
    let tail = c.ranges.tail in
    let f1 : FitsSigned w128 c.in-Some.start = search rules in
    let f2 : FitsSigned w128 c.sound_ticks.result = search rules in
    let f3 : FitsSigned w128 c.moved_ticks-length.result = search rules in
    let e0 : (edges.is_zero c.args.head && edges.is_zero c.args.tail) ≡ false =
    sym (simp to_z-of_z at c.if-is_still.ensures) in
    let e1 : c.in-Some.start ≡ media_at (trimmed_start c.args.item.now) (speed_of c.args.item.now)
    c.args.head = simp to_z-of_z at c.in-Some.ensures.some in
    let e3 : c.moved_ticks-length.result ≡ ((c.sound_ticks.result -ℤ c.args.head) +ℤ c.args.tail) =
    simp to_z-of_z at c.moved_ticks-length.ensures in
    let eq = moved_is c.args.head c.args.tail c.in-Some.start c.moved_ticks-length.result
    c.sound_ticks.result c.args.item.now e0 e1 c.sound_ticks.ensures.value e3 in
    record {
      made = range-as c.args.making.rate c.args.item.now c.resized_range.result eq
          (simp to_z-of_z at c.resized_range.ensures.made);
      kept = c.resized_range.ensures.kept;
      far = range_far-as c.resized_range.result eq (simp to_z-of_z at c.resized_range.ensures.far);
    }
