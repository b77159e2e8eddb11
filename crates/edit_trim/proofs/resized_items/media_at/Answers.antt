use Rattle.std.proofs.Common.{refl, subst, rules, FitsSigned, ◌*ℤ◌}
use mir.Syntax.{w64, w128}
use Rattle.std.proofs.lemmas.Int.{to_z-of_z}
use Rattle.otio_model.specs.Lengths.{trimmed_start}
use Rattle.pieces.proofs.Faultless.{start_high, start_low}
use Rattle.edit_trim.proofs.Made.{far_media}
use Rattle.edit_trim.proofs.resized_items.media_at.Goals as goal

pub returns-in-None-clause-none : goal.returns-in-None-clause-none
returns-in-None-clause-none c =
    let ticks = c.ranges.ticks in
    let fits : FitsSigned w64 c.speed.result = search rules in
    far_media (trimmed_start c.args.item.now) _ (start_low c.args.item.now _ refl)
    (start_high c.args.item.now _ refl)
    (subst (λ s. FitsSigned w128 (c.args.ticks *ℤ s) → ⊥) c.speed.ensures.value
    (simp to_z-of_z at c.in-None.ensures.none))
