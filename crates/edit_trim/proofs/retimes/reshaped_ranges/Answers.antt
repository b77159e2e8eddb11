use Rattle.std.proofs.Common.{arith, refl, take, drop, ◌+◌, ◌-◌}
use Rattle.otio_model.specs.Trees.{items_of}
use Rattle.otio_model.proofs.LengthLimits.{few_enough}
use Rattle.edit_plans.proofs.ZoneLemmas.{short_all}
use Rattle.edit_trim.proofs.Copying.{copied, ended, placed}
use Rattle.edit_trim.proofs.Reshaping.{far, leaves}
use Rattle.edit_trim.proofs.EvenShapes.{even, shaped_is}
use Rattle.edit_trim.proofs.PutEdges.{far_before, far_behind, far_item}
use Rattle.edit_trim.proofs.Seeking.{index_there}
use Rattle.std.proofs.lemmas.Result.{err_from_is_err_and}
use Rattle.edit_trim.proofs.retimes.reshaped_ranges.Goals as goal

pub ahead-first-requires-clause-short : goal.ahead-first-requires-clause-short
ahead-first-requires-clause-short c = short_all (items_of c.args.children.now) c.requires.faultless

pub touched-count-requires-clause-short : goal.touched-count-requires-clause-short
touched-count-requires-clause-short c = short_all (items_of c.args.children.now)
    c.requires.faultless

pub child-item-requires : goal.child-item-requires
child-item-requires c = index_there (items_of c.args.children.now) c.args.seat.index
    c.requires.held.held.item c.requires.held.seat.item

pub sound_ticks-requires : goal.sound_ticks-requires
sound_ticks-requires c = c.requires.faultless c.args.seat.index c.child-item.result.now
    c.child-item.ensures

pub overflow_sub-before : goal.overflow_sub-before
overflow_sub-before c =
    let p = placed c.requires.held c.requires.start c.ahead-first.ensures.count
    c.ahead-first.ensures.ticks c.touched-count.ensures in
    p.inside.first

pub seen_from-requires-clause-low : goal.seen_from-requires-clause-low
seen_from-requires-clause-low c =
    let p = placed c.requires.held c.requires.start c.ahead-first.ensures.count
    c.ahead-first.ensures.ticks c.touched-count.ensures in
    p.least

pub seen_from-requires-clause-high : goal.seen_from-requires-clause-high
seen_from-requires-clause-high c =
    let p = placed c.requires.held c.requires.start c.ahead-first.ensures.count
    c.ahead-first.ensures.ticks c.touched-count.ensures in
    p.most

pub strips_none-requires-clause-there : goal.strips_none-requires-clause-there
strips_none-requires-clause-there c =
    let p = placed c.requires.held c.requires.start c.ahead-first.ensures.count
    c.ahead-first.ensures.ticks c.touched-count.ensures in
    let a = p.inside in omega (arith, a.first, a.past, a.all)

pub overflow_add-behind : goal.overflow_add-behind
overflow_add-behind c =
    let p = placed c.requires.held c.requires.start c.ahead-first.ensures.count
    c.ahead-first.ensures.ticks c.touched-count.ensures in
    let a = p.inside in
    omega (arith, a.past, a.all, few_enough c.args.children.now c.requires.few)

pub overflow_add-behind-2 : goal.overflow_add-behind-2
overflow_add-behind-2 c =
    let p = placed c.requires.held c.requires.start c.ahead-first.ensures.count
    c.ahead-first.ensures.ticks c.touched-count.ensures in
    omega (arith, p.inside.all, few_enough c.args.children.now c.requires.few)

pub overflow_sub-behind : goal.overflow_sub-behind
overflow_sub-behind c =
    let p = placed c.requires.held c.requires.start c.ahead-first.ensures.count
    c.ahead-first.ensures.ticks c.touched-count.ensures in
    omega (arith, p.inside.past)

pub overflow_sub-behind-2 : goal.overflow_sub-behind-2
overflow_sub-behind-2 c =
    let p = placed c.requires.held c.requires.start c.ahead-first.ensures.count
    c.ahead-first.ensures.ticks c.touched-count.ensures in
    omega (arith, p.inside.past)

pub seen_from-requires-2-clause-low : goal.seen_from-requires-2-clause-low
seen_from-requires-2-clause-low c =
    let p = placed c.requires.held c.requires.start c.ahead-first.ensures.count
    c.ahead-first.ensures.ticks c.touched-count.ensures in
    let e = ended p c.requires.start c.sound_ticks.ensures.low c.sound_ticks.ensures.high in e.0

pub seen_from-requires-2-clause-high : goal.seen_from-requires-2-clause-high
seen_from-requires-2-clause-high c =
    let p = placed c.requires.held c.requires.start c.ahead-first.ensures.count
    c.ahead-first.ensures.ticks c.touched-count.ensures in
    let e = ended p c.requires.start c.sound_ticks.ensures.low c.sound_ticks.ensures.high in e.1

pub strips_none-requires-2-clause-there : goal.strips_none-requires-2-clause-there
strips_none-requires-2-clause-there c =
    let p = placed c.requires.held c.requires.start c.ahead-first.ensures.count
    c.ahead-first.ensures.ticks c.touched-count.ensures in
    let a = p.inside in omega (arith, a.first, a.past, a.all)

pub last_ranges-requires-clause-there : goal.last_ranges-requires-clause-there
last_ranges-requires-clause-there c =
    let p = placed c.requires.held c.requires.start c.ahead-first.ensures.count
    c.ahead-first.ensures.ticks c.touched-count.ensures in
    let a = p.inside in omega (arith, a.first, a.past, a.all)

pub first_ranges-requires-clause-there : goal.first_ranges-requires-clause-there
first_ranges-requires-clause-there c =
    let p = placed c.requires.held c.requires.start c.ahead-first.ensures.count
    c.ahead-first.ensures.ticks c.touched-count.ensures in
    let a = p.inside in omega (arith, a.first, a.past, a.all)

pub last_ranges-requires-clause-stays : goal.last_ranges-requires-clause-stays
last_ranges-requires-clause-stays c =
    (even c.args.shape c.requires.even).before

pub new_source-requires-clause-stays : goal.new_source-requires-clause-stays
new_source-requires-clause-stays c =
    (even c.args.shape c.requires.even).item

pub first_ranges-requires-clause-stays : goal.first_ranges-requires-clause-stays
first_ranges-requires-clause-stays c =
    (even c.args.shape c.requires.even).behind

pub new_source-requires-clause-item : goal.new_source-requires-clause-item
new_source-requires-clause-item c =
    c.requires.faultless c.args.seat.index c.child-item.result.now c.child-item.ensures

pub last_ranges-requires-clause-leaves : goal.last_ranges-requires-clause-leaves
last_ranges-requires-clause-leaves c =
    let k = copied c.requires.held c.requires.start c.ahead-first.ensures.count
    c.ahead-first.ensures.ticks c.touched-count.ensures c.sound_ticks.ensures.low
    c.sound_ticks.ensures.high c.sound_ticks.ensures.value c.child-item.ensures
    c.seen_from.ensures.from c.seen_from.ensures.to
    (c.strips_none.ensures c.if-not-strips_none.false) c.seen_from-2.ensures.from
    c.seen_from-2.ensures.to (c.strips_none-2.ensures c.if-not-strips_none-2.false) in
    (leaves _ _ _ _ c.requires.held _ _ _ k.1).before

pub first_ranges-requires-clause-leaves : goal.first_ranges-requires-clause-leaves
first_ranges-requires-clause-leaves c =
    let k = copied c.requires.held c.requires.start c.ahead-first.ensures.count
    c.ahead-first.ensures.ticks c.touched-count.ensures c.sound_ticks.ensures.low
    c.sound_ticks.ensures.high c.sound_ticks.ensures.value c.child-item.ensures
    c.seen_from.ensures.from c.seen_from.ensures.to
    (c.strips_none.ensures c.if-not-strips_none.false) c.seen_from-2.ensures.from
    c.seen_from-2.ensures.to (c.strips_none-2.ensures c.if-not-strips_none-2.false) in
    (leaves _ _ _ _ c.requires.held _ _ _ k.1).behind

pub returns-in_err-front-clause-far : goal.returns-in_err-front-clause-far
returns-in_err-front-clause-far c =
    let k = copied c.requires.held c.requires.start c.ahead-first.ensures.count
    c.ahead-first.ensures.ticks c.touched-count.ensures c.sound_ticks.ensures.low
    c.sound_ticks.ensures.high c.sound_ticks.ensures.value c.child-item.ensures
    c.seen_from.ensures.from c.seen_from.ensures.to
    (c.strips_none.ensures c.if-not-strips_none.false) c.seen_from-2.ensures.from
    c.seen_from-2.ensures.to (c.strips_none-2.ensures c.if-not-strips_none-2.false) in
    let fault = err_from_is_err_and c.from_residual.result c.from_residual.ensures.1 in
    rw (fault.1, fault.2) (λ e. far _ _ _ _ c.requires.held c.child-item.result.now
    (take (c.args.seat.index - c.ahead-first.result.count)
    (drop c.ahead-first.result.count (items_of c.args.children.now)))
    (take (((c.ahead-first.result.count + c.touched-count.result) - c.args.seat.index) - 1)
    (drop (c.args.seat.index + 1) (items_of c.args.children.now))) k.1
    (far_before c.args.shape
    (take (c.args.seat.index - c.ahead-first.result.count)
    (drop c.ahead-first.result.count (items_of c.args.children.now)))
    c.child-item.result.now
    (take (((c.ahead-first.result.count + c.touched-count.result) - c.args.seat.index) - 1)
    (drop (c.args.seat.index + 1) (items_of c.args.children.now)))
    (c.in_err-front.ensures.far e)))

pub returns-in_err-range-clause-far : goal.returns-in_err-range-clause-far
returns-in_err-range-clause-far c =
    let k = copied c.requires.held c.requires.start c.ahead-first.ensures.count
    c.ahead-first.ensures.ticks c.touched-count.ensures c.sound_ticks.ensures.low
    c.sound_ticks.ensures.high c.sound_ticks.ensures.value c.child-item.ensures
    c.seen_from.ensures.from c.seen_from.ensures.to
    (c.strips_none.ensures c.if-not-strips_none.false) c.seen_from-2.ensures.from
    c.seen_from-2.ensures.to (c.strips_none-2.ensures c.if-not-strips_none-2.false) in
    let fault = err_from_is_err_and c.from_residual-in_err-range.result c.from_residual-in_err-range.ensures.1 in
    rw (fault.1, fault.2) (λ e. far _ _ _ _ c.requires.held c.child-item.result.now
    (take (c.args.seat.index - c.ahead-first.result.count)
    (drop c.ahead-first.result.count (items_of c.args.children.now)))
    (take (((c.ahead-first.result.count + c.touched-count.result) - c.args.seat.index) - 1)
    (drop (c.args.seat.index + 1) (items_of c.args.children.now))) k.1
    (far_item c.args.shape
    (take (c.args.seat.index - c.ahead-first.result.count)
    (drop c.ahead-first.result.count (items_of c.args.children.now)))
    c.child-item.result.now
    (take (((c.ahead-first.result.count + c.touched-count.result) - c.args.seat.index) - 1)
    (drop (c.args.seat.index + 1) (items_of c.args.children.now)))
    c.in_err-range.ensures.far))

pub returns-in_err-back-clause-far : goal.returns-in_err-back-clause-far
returns-in_err-back-clause-far c =
    let k = copied c.requires.held c.requires.start c.ahead-first.ensures.count
    c.ahead-first.ensures.ticks c.touched-count.ensures c.sound_ticks.ensures.low
    c.sound_ticks.ensures.high c.sound_ticks.ensures.value c.child-item.ensures
    c.seen_from.ensures.from c.seen_from.ensures.to
    (c.strips_none.ensures c.if-not-strips_none.false) c.seen_from-2.ensures.from
    c.seen_from-2.ensures.to (c.strips_none-2.ensures c.if-not-strips_none-2.false) in
    let fault = err_from_is_err_and c.from_residual-in_err-back.result c.from_residual-in_err-back.ensures.1 in
    rw (fault.1, fault.2) (λ e. far _ _ _ _ c.requires.held c.child-item.result.now
    (take (c.args.seat.index - c.ahead-first.result.count)
    (drop c.ahead-first.result.count (items_of c.args.children.now)))
    (take (((c.ahead-first.result.count + c.touched-count.result) - c.args.seat.index) - 1)
    (drop (c.args.seat.index + 1) (items_of c.args.children.now))) k.1
    (far_behind c.args.shape
    (take (c.args.seat.index - c.ahead-first.result.count)
    (drop c.ahead-first.result.count (items_of c.args.children.now)))
    c.child-item.result.now
    (take (((c.ahead-first.result.count + c.touched-count.result) - c.args.seat.index) - 1)
    (drop (c.args.seat.index + 1) (items_of c.args.children.now)))
    (c.in_err-back.ensures.far e)))

pub returns-in-Ok-clause-made : goal.returns-in-Ok-clause-made
returns-in-Ok-clause-made c =
    let k = copied c.requires.held c.requires.start c.ahead-first.ensures.count
    c.ahead-first.ensures.ticks c.touched-count.ensures c.sound_ticks.ensures.low
    c.sound_ticks.ensures.high c.sound_ticks.ensures.value c.child-item.ensures
    c.seen_from.ensures.from c.seen_from.ensures.to
    (c.strips_none.ensures c.if-not-strips_none.false) c.seen_from-2.ensures.from
    c.seen_from-2.ensures.to (c.strips_none-2.ensures c.if-not-strips_none-2.false) in
    λ growth. shaped_is c.args.making.rate (items_of c.args.children.now) c.args.seat c.args.zone
    c.args.shape c.ahead-first.result.count c.touched-count.result c.ahead-first.result.ticks growth
    c.requires.held c.child-item.result.now c.in_ok-range.range c.in_ok-front.front.items
    c.in_ok-back.back.items
    (record { at = c.ahead-first.result.count; ranges = c.in-Ok.ranges }) k.0 k.1
    (record {
      even = c.requires.even;
      before = c.in_ok-front.ensures.made;
      item = c.in_ok-range.ensures.made;
      kept = c.in_ok-range.ensures.kept;
      behind = c.in_ok-back.ensures.made;
    }) refl c.in-Ok.ensures.made
