use Rattle.std.proofs.Common.{rules, arith, ◌≡◌, sym, subst, ap, ◌∙◌, true, false, Some, IfErr}
use Rattle.std.proofs.Common.{IfOk, FitsSigned, ◌+ℤ◌}
use mir.Syntax.{w128}
use Rattle.std.proofs.lemmas.Int.{to_z-of_z, ints}
use Rattle.edits.specs.Children.{all_made, has_far}
use Rattle.edits.specs.Edges as edges
use Rattle.pieces.specs.declared.new_ranges.RangedFault.TheVariants.{Range}
use Rattle.edit_trim.proofs.Made.{grown_is, gone_is}
use Rattle.edit_trim.proofs.resized_items.grown.Goals as goal

pub returns-then-length-gt0 : goal.returns-then-length-gt0
returns-then-length-gt0 c =
    let by = c.ranges.by in
    let f1 : FitsSigned w128 c.start_ticks.result = search rules in
    let f2 : FitsSigned w128 c.grown_ticks-length.result = search rules in
    let f3 : FitsSigned w128 c.sound_ticks.result = search rules in
    let e0 : edges.is_zero c.args.by ≡ false = sym (simp to_z-of_z at c.if-is_zero.ensures) in
    let e1 : c.grown_ticks-length.result ≡ (c.sound_ticks.result +ℤ c.args.by) =
    simp to_z-of_z at c.grown_ticks-length.ensures in
    let eq = grown_is c.args.by c.start_ticks.result c.grown_ticks-length.result
    c.sound_ticks.result c.args.item.now e0 (omega (arith, ints)) e1 c.sound_ticks.ensures.value
    c.start_ticks.ensures.value in
    record {
      made = subst (λ z. IfOk c.resized.result (λ list. all_made c.args.making.rate z ≡ Some list.items))
          (sym eq) (simp to_z-of_z at c.resized.ensures.made);
      few = c.resized.ensures.few;
      far = subst (λ z. IfErr c.resized.result (λ fault. fault ≡ Range → has_far z ≡ true))
          (sym eq) (simp to_z-of_z at c.resized.ensures.far);
    }

pub returns-clause-made : goal.returns-clause-made
returns-clause-made c =
    let by = c.ranges.by in
    let f2 : FitsSigned w128 c.grown_ticks-length.result = search rules in
    let f3 : FitsSigned w128 c.sound_ticks.result = search rules in
    let e0 : edges.is_zero c.args.by ≡ false = sym (simp to_z-of_z at c.if-is_zero.ensures) in
    let e1 : c.grown_ticks-length.result ≡ (c.sound_ticks.result +ℤ c.args.by) =
    simp to_z-of_z at c.grown_ticks-length.ensures in
    ap (all_made c.args.making.rate) (gone_is c.args.by c.grown_ticks-length.result c.sound_ticks.result
    c.args.item.now e0 (omega (arith, ints)) e1 c.sound_ticks.ensures.value)
    ∙ ap Some (sym c.new.ensures.items)
