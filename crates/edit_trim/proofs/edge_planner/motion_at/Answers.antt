use Rattle.std.proofs.Common.{rules, ◌≡◌, sym, subst, ℕ, FitsSigned, pos, ◌<ℤ◌}
use mir.Syntax.{w64, w128}
use Rattle.std.specs.Prelude.{IfNone, IfSome}
use Rattle.std.proofs.lemmas.Int.{to_z-of_z}
use Rattle.otio_model.specs.Trees.{items_of}
use Rattle.edits.specs.Children.{ticks}
use Rattle.edits.specs.Edges.{Held}
use Rattle.edit_trim.specs.Founds.{HasNeighbours, LacksNeighbour}
use Rattle.edit_trim.specs.Motions.{IsMotion}
use Rattle.edit_trim.specs.declared.edge_moves.Motion.{Motion}
use Rattle.edit_trim.specs.Seats.{IsAt}
use Rattle.edit_trim.specs.declared.edge_edits.EdgeEdit.TheVariants as M
use Rattle.edit_trim.proofs.Neighbours.{behind_at, item_at, placed_at}
use Rattle.edit_trim.proofs.edge_planner.motion_at.Goals as goal

pub slip-requires-clause-item : goal.slip-requires-clause-item
slip-requires-clause-item c = c.requires.faultless c.args.seat.index c.child-item.result.now
    c.child-item.ensures

pub ripple-requires-clause-item : goal.ripple-requires-clause-item
ripple-requires-clause-item c = c.requires.faultless c.args.seat.index c.child-item.result.now
    c.child-item.ensures

pub returns-in-Slip-clause-motion : goal.returns-in-Slip-clause-motion
returns-in-Slip-clause-motion c =
    let by : FitsSigned w64 c.in-Slip.by = search rules in
    let frame = c.ranges.frame in
    let start : FitsSigned w128 c.args.seat.start = search rules in
    subst (λ m. (n : ℕ) (h : Held) → c.args.frame ≡ pos n
    → IsAt (items_of c.args.children.now) c.args.seat h → pos 0 <ℤ ticks h.item
    → IsMotion (pos n) m h c.slip.result) (sym c.in-Slip.is)
    (item_at (items_of c.args.children.now) c.args.seat c.child-item.result.now c.args.frame
    (M.Slip c.in-Slip.by) c.slip.result c.child-item.ensures (simp to_z-of_z at c.slip.ensures))

pub returns-in-Ripple-clause-motion : goal.returns-in-Ripple-clause-motion
returns-in-Ripple-clause-motion c =
    let head : FitsSigned w64 c.in-Ripple.head = search rules in
    let tail : FitsSigned w64 c.in-Ripple.tail = search rules in
    let frame = c.ranges.frame in
    let start : FitsSigned w128 c.args.seat.start = search rules in
    subst (λ m. (n : ℕ) (h : Held) → c.args.frame ≡ pos n
    → IsAt (items_of c.args.children.now) c.args.seat h → pos 0 <ℤ ticks h.item
    → IsMotion (pos n) m h c.ripple.result) (sym c.in-Ripple.is)
    (placed_at (items_of c.args.children.now) c.args.seat c.child-item.result.now c.args.frame
    (M.Ripple c.in-Ripple.head c.in-Ripple.tail) c.ripple.result c.child-item.ensures
    (simp to_z-of_z at c.ripple.ensures))

pub returns-in-Some-clause-motion : goal.returns-in-Some-clause-motion
returns-in-Some-clause-motion c =
    let by : FitsSigned w64 c.in-Slide.by = search rules in
    let frame = c.ranges.frame in
    let start : FitsSigned w128 c.args.seat.start = search rules in
    subst (λ m. (n : ℕ) (h : Held) → c.args.frame ≡ pos n
    → IsAt (items_of c.args.children.now) c.args.seat h → pos 0 <ℤ ticks h.item
    → IsMotion (pos n) m h c.slide.result) (sym c.in-Slide.is)
    (behind_at (items_of c.args.children.now) c.args.seat c.in-Some.before.now c.args.frame
    (M.Slide c.in-Slide.by) c.slide.result c.in-Some.ensures.item
    (simp to_z-of_z at c.slide.ensures))

pub returns-in-Trim-clause-motion : goal.returns-in-Trim-clause-motion
returns-in-Trim-clause-motion c =
    let head : FitsSigned w64 c.in-Trim.head = search rules in
    let tail : FitsSigned w64 c.in-Trim.tail = search rules in
    let frame = c.ranges.frame in
    subst (λ m. (n : ℕ) (h : Held) → c.args.frame ≡ pos n
    → IsAt (items_of c.args.children.now) c.args.seat h → pos 0 <ℤ ticks h.item
    → IsMotion (pos n) m h c.trim.result) (sym c.in-Trim.is) (simp to_z-of_z at c.trim.ensures)

pub returns-in-Roll-clause-motion : goal.returns-in-Roll-clause-motion
returns-in-Roll-clause-motion c =
    let head : FitsSigned w64 c.in-Roll.head = search rules in
    let tail : FitsSigned w64 c.in-Roll.tail = search rules in
    let frame = c.ranges.frame in
    subst (λ m. IfSome c.roll.result (λ (o : Motion). (n : ℕ) (h : Held) → c.args.frame ≡ pos n
    → IsAt (items_of c.args.children.now) c.args.seat h → pos 0 <ℤ ticks h.item
    → IsMotion (pos n) m h o)) (sym c.in-Roll.is) (simp to_z-of_z at c.roll.ensures.motion)

pub returns-in-Roll-clause-beside : goal.returns-in-Roll-clause-beside
returns-in-Roll-clause-beside c =
    let head : FitsSigned w64 c.in-Roll.head = search rules in
    let tail : FitsSigned w64 c.in-Roll.tail = search rules in
    subst (λ m. IfSome c.roll.result (λ (o : Motion). (h : Held)
    → IsAt (items_of c.args.children.now) c.args.seat h → HasNeighbours m h)) (sym c.in-Roll.is)
    (simp to_z-of_z at c.roll.ensures.beside)

pub returns-in-Roll-clause-none : goal.returns-in-Roll-clause-none
returns-in-Roll-clause-none c =
    let head : FitsSigned w64 c.in-Roll.head = search rules in
    let tail : FitsSigned w64 c.in-Roll.tail = search rules in
    subst (λ m. IfNone c.roll.result ((h : Held)
    → IsAt (items_of c.args.children.now) c.args.seat h → LacksNeighbour m h)) (sym c.in-Roll.is)
    (simp to_z-of_z at c.roll.ensures.none)
