use Rattle.std.proofs.Common.{◌≡◌, ap, ◌∙◌, subst, ℤ, to_z, of_z, arith}
use Rattle.std.specs.Int.{w128}
use Rattle.std.proofs.lemmas.Int.{ints}
use Rattle.otio_model.specs.Counts.{count_of}
use Rattle.otio_model.specs.Falls.{child_counts}
use Rattle.otio_model.specs.Lengths.{trimmed_start}
use Rattle.coord.specs.Speeds.{media_at, speed_of}
use Rattle.pull_list.specs.Parts.{IsAlone, IsShowing}
use Rattle.show_prog.proofs.SoundnessFacts.{no_fault}
use Rattle.pull_list.proofs.PartLemmas.{showing_goes, showing_tick}
use Rattle.pull_list.proofs.parts.showing_at.Goals as goal

pub media_at-requires-clause-sound : goal.media_at-requires-clause-sound
media_at-requires-clause-sound c =
    no_fault c.levels.showing.item.now c.levels.invariant.is_below.sound

pub returns-in-None-child_at : goal.returns-in-None-child_at
returns-in-None-child_at c =
    let a : to_z w128 (of_z w128 c.args.ticks) ≡ c.args.ticks = omega (arith, ints) in
    let e = c.for_a_tick.ensures in
    showing_tick c.args.item.now c.args.kind.now c.args.ticks c.levels.showing c.for_a_tick.result
    (subst (λ (u : ℤ). IsShowing c.args.item.now c.args.kind.now u c.levels.showing) a
    c.levels.invariant)
    e.item e.ticks e.len

pub levels-smaller : goal.levels-smaller
levels-smaller c =
    let p = c.in-Some.ensures in let b = c.in-Some-child_at.ensures in
    let child = c.in-Some-child_at.child in
    let n = child_counts c.in-Some.plain.children.now b.index child.item.now b.there in
    let k = p.counted in let e = ap count_of c.below-showing.ensures.item in
    omega (arith, n, k, e)

pub levels-preserved : goal.levels-preserved
levels-preserved c =
    let e = c.below-showing.ensures in let s = c.levels.showing in
    let low = c.levels.invariant.low in let high = c.levels.invariant.high in
    let b : to_z w128 (of_z w128 s.ticks) ≡ s.ticks = omega (arith, ints, low, high) in
    let near = c.media_at.ensures.low in let far = c.media_at.ensures.high in
    let d : to_z w128 (of_z w128 c.media_at.result) ≡ c.media_at.result =
    omega (arith, ints, near, far) in
    showing_goes c.args.item.now c.args.kind.now _ c.media_at.result c.levels.showing
    c.in-Some-child_at.child c.below-showing.result c.in-Some.plain.piled c.in-Some.plain.children.now
    c.levels.invariant
    c.in-Some.ensures
    (c.media_at.ensures.value
    ∙ ap (media_at (trimmed_start s.item.now) (speed_of s.item.now)) b)
    (subst (λ (u : ℤ). IsAlone c.in-Some.plain.piled c.in-Some.plain.children.now u c.in-Some-child_at.child) d
    c.in-Some-child_at.ensures)
    e.item e.ticks e.len
