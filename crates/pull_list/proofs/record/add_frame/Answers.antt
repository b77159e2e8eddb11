use Rattle.std.proofs.Common.{◌≡◌, ap₂, sym, ◌∙◌, ◌+ℤ◌, to_z, of_z, arith}
use Rattle.std.specs.Int.{w128}
use Rattle.std.proofs.lemmas.Int.{ints}
use Rattle.coord.specs.Sights.{exact, sight}
use Rattle.show_prog.proofs.Roots.{child_in, child_short}
use Rattle.show_prog.proofs.SoundnessFacts.{no_fault}
use Rattle.pull_list.proofs.Recording.{shown_as}
use Rattle.pull_list.proofs.record.add_frame.Goals as goal

pub overflow_add-ticks : goal.overflow_add-ticks
overflow_add-ticks c =
    let k = child_short c.args.item.now (no_fault c.args.item.now c.requires.sound) in
    let l = c.requires.low in let h = c.requires.high in
    let a = c.requires.part.low in let b = c.requires.part.high in omega (arith, ints, k, l, h, a, b)

pub add_item-requires-clause-low : goal.add_item-requires-clause-low
add_item-requires-clause-low c =
    let k = child_short c.args.item.now (no_fault c.args.item.now c.requires.sound) in
    let l = c.requires.low in let h = c.requires.high in
    let a = c.requires.part.low in let b = c.requires.part.high in omega (arith, ints, k, l, h, a, b)

pub add_item-requires-clause-high : goal.add_item-requires-clause-high
add_item-requires-clause-high c =
    let k = child_short c.args.item.now (no_fault c.args.item.now c.requires.sound) in
    let l = c.requires.low in let h = c.requires.high in
    let a = c.requires.part.low in let b = c.requires.part.high in omega (arith, ints, k, l, h, a, b)

pub returns-clause-added : goal.returns-clause-added
returns-clause-added c =
    let x = c.args.item.now in let p = c.requires.part in let y = c.args.part.item.now in
    let k = child_short x (no_fault x c.requires.sound) in
    let low = p.low in let high = p.high in let l = c.requires.low in let h = c.requires.high in
    let u : to_z w128 (of_z w128 (to_z w128 (of_z w128 c.args.ticks) +ℤ to_z w128 (of_z w128 c.args.part.ahead)))
    ≡ c.args.ticks +ℤ c.args.part.ahead = omega (arith, ints, k, low, high, l, h) in
    shown_as _ _ _ _ _ _ _ _ c.in_ok-add_item.ensures.added
    (ap₂ (λ k u. (sight y).shows (exact k) u) c.root_kind.ensures u
    ∙ sym (p.same c.args.ticks (omega (arith, ints)) c.requires.holds)
    ∙ child_in x c.args.ticks l h)
    p.is_below.clips
