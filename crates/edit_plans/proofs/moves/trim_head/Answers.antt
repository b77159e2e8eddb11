use Rattle.std.proofs.Common.{rules, ◌≡◌, refl, ap, ap₂, ◌∙◌, Some, FitsSigned, to_z, of_z, pos}
use Rattle.std.proofs.Common.{◌-ℤ◌}
use mir.Syntax.{w128}
use Rattle.std.specs.Prelude.{option_copied}
use Rattle.std.proofs.lemmas.Int.{to_z-of_z}
use Rattle.edits.specs.Children.{ticks}
use Rattle.edits.specs.Edges as edges
use Rattle.edit_plans.specs.Meanings.{gap_of_before}
use Rattle.edit_plans.proofs.moves.trim_head.Goals as goal

pub returns-clause-value : goal.returns-clause-value
returns-clause-value c =
    let frame = c.ranges.frame in
    let by = c.ranges.by in
    let f1 : FitsSigned w128 c.gap_before.result = search rules in
    let f2 : FitsSigned w128 c.whole_frames.result = search rules in
    let f3 : FitsSigned w128 c.spare.result = search rules in
    let f4 : FitsSigned w128 c.clamped.result = search rules in
    let e1 : c.gap_before.result ≡ gap_of_before (option_copied c.args.before) =
    c.gap_before.ensures in
    let e2 : c.whole_frames.result ≡ edges.whole_frames c.args.frame c.gap_before.result =
    simp to_z-of_z at c.whole_frames.ensures.value in
    let e3 : c.head_limit.result ≡ edges.whole_limit c.args.frame
    (edges.head_room c.args.item.now) = simp to_z-of_z at c.head_limit.ensures.value in
    let e4 : c.lesser.result ≡ edges.lesser (Some c.whole_frames.result) c.head_limit.result =
    c.lesser.ensures.value ∙ ap (λ z. edges.lesser (Some z) c.head_limit.result)
    (let k : to_z w128 (of_z w128 c.whole_frames.result) ≡ c.whole_frames.result =
    simp to_z-of_z refl in k) in
    let e5 : c.spare.result ≡ edges.whole_frames c.args.frame (ticks c.args.item.now -ℤ pos 1) =
    simp to_z-of_z at c.spare.ensures.value in
    let e6 : c.clamped.result ≡ edges.clamped c.lesser.result (Some c.spare.result) c.args.by =
    simp to_z-of_z at c.clamped.ensures.value in
    simp to_z-of_z (e6 ∙ ap₂ (λ p q. edges.clamped p (Some q) c.args.by)
    (e4 ∙ ap₂ (λ u v. edges.lesser (Some u) v) (e2 ∙ ap (edges.whole_frames c.args.frame) e1)
    e3) e5)
