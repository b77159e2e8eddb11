use Rattle.std.proofs.Common.{◌≡◌, refl, ◌-ℤ◌, to_z, of_z, arith}
use Rattle.std.specs.Int.{w128}
use Rattle.std.proofs.lemmas.Int.{ints}
use Rattle.coord.proofs.ChildStarts.{start_next}
use Rattle.show_prog.proofs.SoundnessFacts.{here}
use Rattle.pull_list.proofs.PartLemmas.{alone_in_row}
use Rattle.pull_list.proofs.parts.child_alone.Goals as goal

pub length_or_zero-requires : goal.length_or_zero-requires
length_or_zero-requires c = record {
  few = (here c.args.children.now _ c.child-item.result.now c.child-item.ensures c.requires.sound
      c.requires.few).few;
}

pub overflow_sub-result : goal.overflow_sub-result
overflow_sub-result c =
    let l = c.args.children.now in let s = c.requires.seat in
    let h = (here l _ c.child-item.result.now c.child-item.ensures c.requires.sound c.requires.few).ticks in
    let a = s.starts in let b = s.not_before in let d = s.not_behind in
    let e = start_next l _ c.child-item.result.now c.child-item.ensures in
    let t : to_z w128 (of_z w128 (to_z w128 (of_z w128 c.args.at) -ℤ to_z w128 (of_z w128 c.args.seat.start)))
    ≡ c.args.at -ℤ c.args.seat.start = omega (arith, ints, h, a, b, d, e) in
    let n = c.length_or_zero.ensures in let u = c.unsigned_abs-2.ensures.value in
    let r = c.if-unsigned_abs-reach-2.false in
    omega (arith, ints, t, h, a, b, d, e, n, u, r)

pub returns : goal.returns
returns c =
    let l = c.args.children.now in let s = c.requires.seat in
    let h = (here l _ c.child-item.result.now c.child-item.ensures c.requires.sound c.requires.few).ticks in
    let e = start_next l _ c.child-item.result.now c.child-item.ensures in
    let a = s.starts in let b = s.not_before in let d = s.not_behind in
    let n = c.length_or_zero.ensures in
    let t : to_z w128 (of_z w128 (to_z w128 (of_z w128 c.args.at) -ℤ to_z w128 (of_z w128 c.args.seat.start)))
    ≡ c.args.at -ℤ c.args.seat.start = omega (arith, ints, h, a, b, d, e) in
    let u = c.unsigned_abs.ensures.value in let p = c.if-unsigned_abs-reach.false in
    let w = c.unsigned_abs-2.ensures.value in let r = c.if-unsigned_abs-reach-2.false in
    alone_in_row l c.args.at c.args.seat c.child-item.result.now _ c.overlap_reach-reach.result
    c.requires.sound c.requires.few s c.child-item.ensures refl t c.overlap_reach-reach.ensures
    (omega (arith, ints, t, u, p, a, b)) (omega (arith, ints, t, n, w, r, h, a, b, d, e))
    (omega (arith, ints, t, n, w, r, h, a, b, d, e))
