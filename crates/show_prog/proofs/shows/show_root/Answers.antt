use Rattle.std.proofs.Common.{◌≡◌, ◌∙◌, ap, ap₂, to_z, of_z, arith}
use Rattle.std.specs.Int.{w128}
use Rattle.std.proofs.lemmas.Int.{ints}
use Rattle.coord.specs.Sights.{sight}
use Rattle.coord.specs.Sights.{exact}
use Rattle.coord.specs.Images.{image}
use Rattle.show_prog.proofs.SoundnessFacts.{no_fault}
use Rattle.show_prog.proofs.ShowLemmas.{image_of-Blank, ok_then, err_then}
use Rattle.show_prog.proofs.Roots.{child_in, child_before, child_behind, child_short}
use Rattle.show_prog.proofs.shows.show_root.Goals as goal

pub show_item-requires-clause-high : goal.show_item-requires-clause-high
show_item-requires-clause-high c =
    let k = child_short c.args.item.now (no_fault c.args.item.now c.requires.sound) in
    let e = c.length_or_zero.ensures in let m = c.if-ticks-length_or_zero.true in omega (arith, ints)

pub returns-then-ticks-length_or_zero-clause-image : goal.returns-then-ticks-length_or_zero-clause-image
returns-then-ticks-length_or_zero-clause-image c =
    let x = c.args.item.now in
    let a : to_z w128 (of_z w128 c.args.ticks) ≡ c.args.ticks = omega (arith, ints) in
    let e = c.length_or_zero.ensures in let m = c.if-ticks-length_or_zero.true in let n = c.if-ticks-lt0.false in
    ok_then c.show_item.result _ _ c.show_item.ensures.image
    (ap₂ (λ k u. (sight x).shows (exact k) u) c.root_kind.ensures a ∙ child_in x c.args.ticks (omega (arith, ints)) (omega (arith, ints)))

pub returns-then-ticks-length_or_zero-clause-memory : goal.returns-then-ticks-length_or_zero-clause-memory
returns-then-ticks-length_or_zero-clause-memory c =
    let x = c.args.item.now in
    let a : to_z w128 (of_z w128 c.args.ticks) ≡ c.args.ticks = omega (arith, ints) in
    let e = c.length_or_zero.ensures in let m = c.if-ticks-length_or_zero.true in let n = c.if-ticks-lt0.false in
    err_then c.show_item.result _ _ c.show_item.ensures.memory
    (ap₂ (λ k u. (sight x).shows (exact k) u) c.root_kind.ensures a ∙ child_in x c.args.ticks (omega (arith, ints)) (omega (arith, ints)))

pub returns-then-ticks-lt0-clause-image : goal.returns-then-ticks-lt0-clause-image
returns-then-ticks-lt0-clause-image c =
    let n = c.if-ticks-lt0.true in image_of-Blank ∙ ap image (child_before c.args.item.now c.args.ticks (omega (arith, ints)))

pub returns-else-ticks-length_or_zero-clause-image : goal.returns-else-ticks-length_or_zero-clause-image
returns-else-ticks-length_or_zero-clause-image c =
    let e = c.length_or_zero.ensures in let n = c.if-ticks-length_or_zero.false in image_of-Blank ∙ ap image (child_behind c.args.item.now c.args.ticks (omega (arith, ints)))
