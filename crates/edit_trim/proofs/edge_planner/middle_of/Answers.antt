use Rattle.std.proofs.Common.{rules, arith, ◌≡◌, sym, subst, IfErr, IfOk, Some, true, FitsSigned}
use Rattle.std.proofs.Common.{length, ◌+◌, ◌≤◌}
use mir.Syntax.{w128}
use Rattle.std.proofs.lemmas.Int.{to_z-of_z}
use Rattle.std.proofs.lemmas.Result.{IfOk-weaker}
use Rattle.otio_model.specs.Trees.{items_of}
use Rattle.edits.specs.Children.{all_made, has_far}
use Rattle.edits.specs.Edges.{Held}
use Rattle.pieces.specs.declared.new_ranges.RangedFault.TheVariants.{Range}
use Rattle.edit_trim.specs.Motions.{Suits, motion_list}
use Rattle.edit_trim.specs.Founds.{motion_touches}
use Rattle.edit_trim.specs.Seats.{IsAt}
use Rattle.otio_model.specs.Edits.{replaced}
use Rattle.edit_trim.proofs.edge_planner.middle_of.Goals as goal

pub returns-in-Media-clause-far : goal.returns-in-Media-clause-far
returns-in-Media-clause-far c =
    let by : FitsSigned w128 c.in-Media.by = search rules in
    subst (λ o. IfErr c.slipped_at.result (λ fault. fault ≡ Range → (h : Held)
    → IsAt (items_of c.args.children.now) c.args.seat h → has_far (motion_list o h) ≡ true))
    (sym c.in-Media.is) (simp to_z-of_z at c.slipped_at.ensures.far)

pub returns-in-Edges-clause-far : goal.returns-in-Edges-clause-far
returns-in-Edges-clause-far c =
    subst (λ o. IfErr c.reshaped.result (λ fault. fault ≡ Range → (h : Held)
    → IsAt (items_of c.args.children.now) c.args.seat h → has_far (motion_list o h) ≡ true))
    (sym c.in-Edges.is) c.reshaped.ensures.far

pub returns-in-Edges-clause-made : goal.returns-in-Edges-clause-made
returns-in-Edges-clause-made c =
    subst (λ o. IfOk c.reshaped.result (λ m. (h : Held)
    → IsAt (items_of c.args.children.now) c.args.seat h
    → all_made c.args.making.rate (motion_list o h) ≡ Some
    (replaced m.at m.count m.put.items (items_of c.args.children.now)))) (sym c.in-Edges.is)
    c.reshaped.ensures.made

pub slipped_at-requires-clause-by : goal.slipped_at-requires-clause-by
slipped_at-requires-clause-by c =
    let by : FitsSigned w128 c.in-Media.by = search rules in
    simp to_z-of_z
    (subst (λ o. Suits o c.requires.held.held) c.in-Media.is c.requires.held.suits)

pub returns-in-Media-clause-made : goal.returns-in-Media-clause-made
returns-in-Media-clause-made c =
    let by : FitsSigned w128 c.in-Media.by = search rules in
    subst (λ o. IfOk c.slipped_at.result (λ m. (h : Held)
    → IsAt (items_of c.args.children.now) c.args.seat h
    → all_made c.args.making.rate (motion_list o h) ≡ Some
    (replaced m.at m.count m.put.items (items_of c.args.children.now)))) (sym c.in-Media.is)
    (simp to_z-of_z at c.slipped_at.ensures.made)

pub returns-in-Media-clause-count : goal.returns-in-Media-clause-count
returns-in-Media-clause-count c =
    subst (λ o. IfOk c.slipped_at.result (λ m.
    m.count ≤ motion_touches (items_of c.args.children.now) o + 2)) (sym c.in-Media.is)
    c.slipped_at.ensures.count

pub returns-in-Media-clause-few : goal.returns-in-Media-clause-few
returns-in-Media-clause-few c =
    subst (λ o. IfOk c.slipped_at.result (λ m.
    length m.put.items ≤ motion_touches (items_of c.args.children.now) o + 4)) (sym c.in-Media.is)
    c.slipped_at.ensures.few

pub reshaped-requires-clause-held : goal.reshaped-requires-clause-held
reshaped-requires-clause-held c =
    let h = c.requires.held in
    let s = subst (λ o. Suits o h.held) c.in-Edges.is h.suits in
    record { held = h.held; seat = h.seat; shape = s.0; leaves = s.1; round = s.2 }

pub returns-in-Edges-clause-count : goal.returns-in-Edges-clause-count
returns-in-Edges-clause-count c =
    subst (λ o. IfOk c.reshaped.result (λ m.
    m.count ≤ motion_touches (items_of c.args.children.now) o + 2)) (sym c.in-Edges.is)
    (IfOk-weaker c.reshaped.result _ _ (λ m e. omega (arith, e)) c.reshaped.ensures.count)

pub returns-in-Edges-clause-few : goal.returns-in-Edges-clause-few
returns-in-Edges-clause-few c =
    subst (λ o. IfOk c.reshaped.result (λ m.
    length m.put.items ≤ motion_touches (items_of c.args.children.now) o + 4)) (sym c.in-Edges.is)
    (IfOk-weaker c.reshaped.result _ _ (λ m e. omega (arith, e)) c.reshaped.ensures.few)
