use Rattle.std.proofs.Common.{rules, ◌≡◌, refl, ap, ap₂, ◌∙◌, Some, FitsSigned, to_z, of_z, pos}
use Rattle.std.proofs.Common.{◌-ℤ◌}
use mir.Syntax.{w128}
use Rattle.std.proofs.lemmas.Int.{to_z-of_z}
use Rattle.edits.specs.Children.{ticks}
use Rattle.edits.specs.Edges as edges
use Rattle.edit_plans.proofs.moves.cut_behind.Goals as goal

pub returns-clause-value : goal.returns-clause-value
returns-clause-value c =
    let frame = c.ranges.frame in
    let head = c.ranges.head in
    let by = c.ranges.by in
    let f1 : FitsSigned w128 c.spare_behind.result = search rules in
    let f2 : FitsSigned w128 c.spare.result = search rules in
    let f3 : FitsSigned w128 c.clamped.result = search rules in
    let e1 : c.spare_behind.result ≡ edges.whole_frames c.args.frame
    ((ticks c.args.item.now -ℤ c.args.head) -ℤ pos 1) =
    simp to_z-of_z at c.spare_behind.ensures.value in
    let e2 : c.head_limit.result ≡ edges.whole_limit c.args.frame
    (edges.head_room c.args.behind.now) = simp to_z-of_z at c.head_limit.ensures.value in
    let e3 : c.lesser-earlier.result ≡ edges.lesser (Some c.spare_behind.result)
    c.head_limit.result = c.lesser-earlier.ensures.value
    ∙ ap (λ z. edges.lesser (Some z) c.head_limit.result)
    (let k : to_z w128 (of_z w128 c.spare_behind.result) ≡ c.spare_behind.result =
    simp to_z-of_z refl in k) in
    let e4 : c.tail_limit.result ≡ edges.whole_limit c.args.frame
    (edges.tail_room c.args.item.now) = simp to_z-of_z at c.tail_limit.ensures.value in
    let e5 : c.spare.result ≡ edges.whole_frames c.args.frame (ticks c.args.behind.now -ℤ pos 1) =
    simp to_z-of_z at c.spare.ensures.value in
    let e6 : c.lesser-later.result ≡ edges.lesser c.tail_limit.result (Some c.spare.result) =
    c.lesser-later.ensures.value ∙ ap (λ z. edges.lesser c.tail_limit.result (Some z))
    (let k : to_z w128 (of_z w128 c.spare.result) ≡ c.spare.result = simp to_z-of_z refl in
    k) in
    let e7 : c.clamped.result ≡ edges.clamped c.lesser-earlier.result c.lesser-later.result
    c.args.by = simp to_z-of_z at c.clamped.ensures.value in
    simp to_z-of_z (e7 ∙ ap₂ (λ p q. edges.clamped p q c.args.by)
    (e3 ∙ ap₂ (λ u v. edges.lesser (Some u) v) e1 e2)
    (e6 ∙ ap₂ (λ u v. edges.lesser u (Some v)) e4 e5))
