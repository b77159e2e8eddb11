-- The walk up to the first overlap that holds the instant gives its sides.
use Rattle.std.proofs.Common.{refl, ℤ, ◌+ℤ◌, ◌-ℤ◌, to_z, of_z, arith}
use Rattle.std.specs.Int.{w128}
use Rattle.std.proofs.lemmas.Int.{ints}
use Rattle.otio_model.specs.Trees.{items_of}
use Rattle.show_prog.specs.Walk.{ticks_at}
use Rattle.coord.proofs.Members.{index_few}
use Rattle.show_prog.proofs.SoundnessFacts.{here}
use Rattle.show_prog.proofs.Walk.{later, walk_here, active_within}
use Rattle.show_prog.proofs.ReachedItems.{walked_to, held_is}
use Rattle.show_prog.proofs.item_at.active_at.Goals as goal

pub ticks_at-requires-clause-within : goal.ticks_at-requires-clause-within
ticks_at-requires-clause-within c =
    let f = c.requires.first in let w = f.within in
    let s = walked_to c.args.children.now c.args.at c.args.seat c.item_before-before.result
    (ticks_at (items_of c.args.children.now) c.item_before-before.result)
    c.requires.sound c.requires.few c.requires.low f c.item_before-before.ensures refl in
    later c.item_before-before.result _ _ (omega (arith, w)) s.earlier

pub overflow_add-result : goal.overflow_add-result
overflow_add-result c =
    let f = c.requires.first in
    let s = walked_to c.args.children.now c.args.at c.args.seat c.item_before-before.result
    c.ticks_at.result
    c.requires.sound c.requires.few c.requires.low f c.item_before-before.ensures c.ticks_at.ensures
    in
    let low = s.low in let sum = s.sum in let a = s.since_low in let b = s.since_high in
    let fits = c.requires.fits in let least = c.requires.low in let most = c.requires.high in
    omega (arith, ints)

pub overflow_add-seat : goal.overflow_add-seat
overflow_add-seat c =
    let f = c.requires.first in
    let k = index_few c.args.children.now c.args.seat.index f.within c.requires.few in omega
    (arith, k)

pub overflow_add-result-in-Transition : goal.overflow_add-result-in-Transition
overflow_add-result-in-Transition c =
    let f = c.requires.first in
    let s = walked_to c.args.children.now c.args.at c.args.seat c.item_before-before.result
    c.ticks_at.result
    c.requires.sound c.requires.few c.requires.low f c.item_before-before.ensures c.ticks_at.ensures
    in
    let low = s.low in let sum = s.sum in let o = c.offset_ticks.ensures in
    let fits = c.requires.fits in let least = c.requires.low in let most = c.requires.high in
    omega (arith, ints)

pub returns-clause-shows : goal.returns-clause-shows
returns-clause-shows c =
    let l = c.args.children.now in
    let f = c.requires.first in
    let s = walked_to l c.args.at c.args.seat c.item_before-before.result c.ticks_at.result
    c.requires.sound c.requires.few c.requires.low f c.item_before-before.ensures c.ticks_at.ensures
    in
    let h = here l c.args.seat.index c.child.result.now c.child.ensures c.requires.sound
    c.requires.few in
    let low = s.low in let sum = s.sum in let a = s.since_low in let b = s.since_high in
    let fits = c.requires.fits in let least = c.requires.low in let most = c.requires.high in
    let x = c.offset_ticks.ensures in let y = c.offset_ticks-in-Transition.ensures in
    let z = c.offset_ticks-in-Transition-2.ensures in
    let part : ℤ =
    to_z w128 (of_z w128 (to_z w128
    (of_z w128 (to_z w128 (of_z w128 c.args.at) -ℤ to_z w128 (of_z w128 c.args.seat.start))) +ℤ
    to_z w128 (of_z w128 c.offset_ticks.result))) in
    let whole : ℤ =
    to_z w128 (of_z w128 (to_z w128 (of_z w128 c.offset_ticks-in-Transition.result) +ℤ to_z w128
    (of_z w128 c.offset_ticks-in-Transition-2.result))) in
    λ v. walk_here v l c.args.at c.args.seat.index c.child.result.now c.in-Transition.transition
    c.args.seat.start c.ticks_at.result _ _ part whole c.item_before-before.result
    c.next_item.result s h
    c.in-Transition.is (c.args.at -ℤ c.args.seat.start)
    (held_is l c.args.at c.args.seat c.child.result.now c.in-Transition.transition c.child.ensures
    c.in-Transition.is f)
    refl c.next_item.ensures.side
    (omega (arith, ints)) (omega (arith, ints)) (omega (arith, ints)) (omega (arith, ints))

pub returns-clause-within : goal.returns-clause-within
returns-clause-within c =
    let l = c.args.children.now in
    let f = c.requires.first in let w = f.within in
    let s = walked_to l c.args.at c.args.seat c.item_before-before.result c.ticks_at.result
    c.requires.sound c.requires.few c.requires.low f c.item_before-before.ensures c.ticks_at.ensures
    in
    let low = s.low in let sum = s.sum in let a = s.since_low in let b = s.since_high in
    let fits = c.requires.fits in let least = c.requires.low in let most = c.requires.high in
    let x = c.offset_ticks.ensures in let y = c.offset_ticks-in-Transition.ensures in
    let z = c.offset_ticks-in-Transition-2.ensures in
    active_within l c.args.at c.args.seat.index _ c.in-Transition.transition c.args.seat.start
    c.ticks_at.result
    c.item_before-before.result _ s (omega (arith, w)) least most (omega (arith, ints))
    (c.args.at -ℤ c.args.seat.start)
    (held_is l c.args.at c.args.seat c.child.result.now c.in-Transition.transition c.child.ensures
    c.in-Transition.is f)
    refl refl c.next_item.ensures.within
    (omega (arith, ints)) (omega (arith, ints)) (omega (arith, ints)) (omega (arith, ints))
