use Rattle.std.proofs.Common.{rules, ◌≡◌, sym, subst, IfErr, IfOk, true, FitsSigned}
use Rattle.std.specs.Prelude.{IfSome}
use mir.Syntax.{w128}
use Rattle.std.proofs.lemmas.Int.{to_z-of_z}
use Rattle.std.proofs.lemmas.Result.{IfOk-weaker}
use Rattle.otio_model.specs.Trees.{items_of}
use Rattle.edits.specs.Children.{has_far}
use Rattle.edits.specs.Edges.{Held}
use Rattle.pieces.specs.declared.new_ranges.RangedFault.TheVariants.{Range}
use Rattle.edit_trim.specs.Motions.{Suits, motion_list}
use Rattle.edit_trim.specs.Retimes.{IsRetimedBy}
use Rattle.edit_trim.specs.Seats.{IsAt}
use Rattle.edit_trim.proofs.EvenShapes.{at_growth}
use Rattle.edit_trim.proofs.Seeking.{index_there}
use Rattle.edit_trim.proofs.retimes.retimes.Goals as goal

pub slipped_ranges-requires-clause-there : goal.slipped_ranges-requires-clause-there
slipped_ranges-requires-clause-there c = index_there (items_of c.args.children.now)
    c.args.seat.index c.requires.held.held.item c.requires.held.seat.item

pub slipped_ranges-requires-clause-by : goal.slipped_ranges-requires-clause-by
slipped_ranges-requires-clause-by c =
    let by : FitsSigned w128 c.in-Media.by = search rules in
    simp to_z-of_z
    (subst (λ o. Suits o c.requires.held.held) c.in-Media.is c.requires.held.suits)

pub reshaped_ranges-requires-clause-held : goal.reshaped_ranges-requires-clause-held
reshaped_ranges-requires-clause-held c =
    let h = c.requires.held in
    let s = subst (λ o. Suits o h.held) c.in-Edges.is h.suits in
    record { held = h.held; seat = h.seat; shape = s.0; leaves = s.1; round = s.2 }

pub returns-in-Ok-clause-made : goal.returns-in-Ok-clause-made
returns-in-Ok-clause-made c =
    let by : FitsSigned w128 c.in-Media.by = search rules in
    subst (λ o. IsRetimedBy c.args.making.rate (items_of c.args.children.now) c.args.seat o
    c.in-Ok.retiming) (sym c.in-Media.is) (simp to_z-of_z at c.in-Ok.ensures.made)

pub returns-in-Err-clause-far : goal.returns-in-Err-clause-far
returns-in-Err-clause-far c =
    let by : FitsSigned w128 c.in-Media.by = search rules in
    subst (λ o. c.in-Err.fault ≡ Range → (h : Held)
    → IsAt (items_of c.args.children.now) c.args.seat h → has_far (motion_list o h) ≡ true)
    (sym c.in-Media.is) (simp to_z-of_z at c.in-Err.ensures.far)

pub returns-else-not-is_even-clause-made : goal.returns-else-not-is_even-clause-made
returns-else-not-is_even-clause-made c =
    subst (λ o. IfOk c.reshaped_ranges.result (λ found. IfSome found
    (IsRetimedBy c.args.making.rate (items_of c.args.children.now) c.args.seat o)))
    (sym c.in-Edges.is)
    (IfOk-weaker c.reshaped_ranges.result _ _ (λ found. at_growth c.args.making.rate
    (items_of c.args.children.now) c.args.seat c.in-Edges.zone c.in-Edges.shape _ found)
    c.reshaped_ranges.ensures.made)

pub returns-else-not-is_even-clause-far : goal.returns-else-not-is_even-clause-far
returns-else-not-is_even-clause-far c =
    subst (λ o. IfErr c.reshaped_ranges.result (λ fault. fault ≡ Range → (h : Held)
    → IsAt (items_of c.args.children.now) c.args.seat h → has_far (motion_list o h) ≡ true))
    (sym c.in-Edges.is) c.reshaped_ranges.ensures.far
