use Rattle.std.proofs.Common.{arith}
use Rattle.otio_model.specs.Trees.{items_of}
use Rattle.otio_model.proofs.LengthLimits.{few_enough}
use Rattle.edit_plans.proofs.ZoneLemmas.{short_all}
use Rattle.edit_trim.proofs.Copying.{copied, ended, placed}
use Rattle.edit_trim.proofs.Reshaping.{far, few, leaves, made}
use Rattle.edit_trim.proofs.Seeking.{index_there}
use Rattle.std.proofs.lemmas.Result.{err_from_is_err_and}
use Rattle.edit_trim.proofs.replacements.reshaped.Goals as goal

pub ahead-first-requires-clause-short : goal.ahead-first-requires-clause-short
ahead-first-requires-clause-short c = short_all (items_of c.args.children.now) c.requires.faultless

pub touched-count-requires-clause-short : goal.touched-count-requires-clause-short
touched-count-requires-clause-short c = short_all (items_of c.args.children.now)
    c.requires.faultless

pub child-item-requires : goal.child-item-requires
child-item-requires c = index_there (items_of c.args.children.now) c.args.seat.index
    c.requires.held.held.item c.requires.held.seat.item

pub sound_ticks-requires : goal.sound_ticks-requires
sound_ticks-requires c = c.requires.faultless c.args.seat.index c.child-item.result.now
    c.child-item.ensures

pub overflow_sub-seat : goal.overflow_sub-seat
overflow_sub-seat c =
    let p = placed c.requires.held c.requires.start c.ahead-first.ensures.count
    c.ahead-first.ensures.ticks c.touched-count.ensures in
    p.inside.first

pub seen_from-requires-clause-low : goal.seen_from-requires-clause-low
seen_from-requires-clause-low c =
    let p = placed c.requires.held c.requires.start c.ahead-first.ensures.count
    c.ahead-first.ensures.ticks c.touched-count.ensures in
    p.least

pub seen_from-requires-clause-high : goal.seen_from-requires-clause-high
seen_from-requires-clause-high c =
    let p = placed c.requires.held c.requires.start c.ahead-first.ensures.count
    c.ahead-first.ensures.ticks c.touched-count.ensures in
    p.most

pub stretch_of-requires-clause-there : goal.stretch_of-requires-clause-there
stretch_of-requires-clause-there c =
    let p = placed c.requires.held c.requires.start c.ahead-first.ensures.count
    c.ahead-first.ensures.ticks c.touched-count.ensures in
    let a = p.inside in omega (arith, a.first, a.past, a.all)

pub overflow_add-seat : goal.overflow_add-seat
overflow_add-seat c =
    let p = placed c.requires.held c.requires.start c.ahead-first.ensures.count
    c.ahead-first.ensures.ticks c.touched-count.ensures in
    let a = p.inside in
    omega (arith, a.past, a.all, few_enough c.args.children.now c.requires.few)

pub overflow_add-first : goal.overflow_add-first
overflow_add-first c =
    let p = placed c.requires.held c.requires.start c.ahead-first.ensures.count
    c.ahead-first.ensures.ticks c.touched-count.ensures in
    omega (arith, p.inside.all, few_enough c.args.children.now c.requires.few)

pub overflow_sub-first : goal.overflow_sub-first
overflow_sub-first c =
    let p = placed c.requires.held c.requires.start c.ahead-first.ensures.count
    c.ahead-first.ensures.ticks c.touched-count.ensures in
    omega (arith, p.inside.past)

pub overflow_sub-first-2 : goal.overflow_sub-first-2
overflow_sub-first-2 c =
    let p = placed c.requires.held c.requires.start c.ahead-first.ensures.count
    c.ahead-first.ensures.ticks c.touched-count.ensures in
    omega (arith, p.inside.past)

pub seen_from-requires-2-clause-low : goal.seen_from-requires-2-clause-low
seen_from-requires-2-clause-low c =
    let p = placed c.requires.held c.requires.start c.ahead-first.ensures.count
    c.ahead-first.ensures.ticks c.touched-count.ensures in
    let e = ended p c.requires.start c.sound_ticks.ensures.low c.sound_ticks.ensures.high in e.0

pub seen_from-requires-2-clause-high : goal.seen_from-requires-2-clause-high
seen_from-requires-2-clause-high c =
    let p = placed c.requires.held c.requires.start c.ahead-first.ensures.count
    c.ahead-first.ensures.ticks c.touched-count.ensures in
    let e = ended p c.requires.start c.sound_ticks.ensures.low c.sound_ticks.ensures.high in e.1

pub stretch_of-requires-2-clause-there : goal.stretch_of-requires-2-clause-there
stretch_of-requires-2-clause-there c =
    let p = placed c.requires.held c.requires.start c.ahead-first.ensures.count
    c.ahead-first.ensures.ticks c.touched-count.ensures in
    let a = p.inside in omega (arith, a.first, a.past, a.all)

pub parts-requires-clause-item : goal.parts-requires-clause-item
parts-requires-clause-item c = c.requires.faultless c.args.seat.index c.child-item.result.now
    c.child-item.ensures

pub parts-requires-clause-leaves : goal.parts-requires-clause-leaves
parts-requires-clause-leaves c =
    let k = copied c.requires.held c.requires.start c.ahead-first.ensures.count
    c.ahead-first.ensures.ticks c.touched-count.ensures c.sound_ticks.ensures.low
    c.sound_ticks.ensures.high c.sound_ticks.ensures.value c.child-item.ensures
    c.seen_from.ensures.from c.seen_from.ensures.to c.in_ok-before.ensures.made
    c.seen_from-2.ensures.from c.seen_from-2.ensures.to c.in_ok-behind.ensures.made in
    leaves _ _ _ _ c.requires.held _ _ _ k.1

pub returns-in_err-put-clause-far : goal.returns-in_err-put-clause-far
returns-in_err-put-clause-far c =
    let k = copied c.requires.held c.requires.start c.ahead-first.ensures.count
    c.ahead-first.ensures.ticks c.touched-count.ensures c.sound_ticks.ensures.low
    c.sound_ticks.ensures.high c.sound_ticks.ensures.value c.child-item.ensures
    c.seen_from.ensures.from c.seen_from.ensures.to c.in_ok-before.ensures.made
    c.seen_from-2.ensures.from c.seen_from-2.ensures.to c.in_ok-behind.ensures.made in
    let fault = err_from_is_err_and c.from_residual-in_err-put.result
    c.from_residual-in_err-put.ensures.1 in
    rw (fault.1, fault.2) (λ e. far _ _ _ _ c.requires.held _ _ _ k.1 (c.in_err-put.ensures.far e))

pub returns-clause-made : goal.returns-clause-made
returns-clause-made c =
    let k = copied c.requires.held c.requires.start c.ahead-first.ensures.count
    c.ahead-first.ensures.ticks c.touched-count.ensures c.sound_ticks.ensures.low
    c.sound_ticks.ensures.high c.sound_ticks.ensures.value c.child-item.ensures
    c.seen_from.ensures.from c.seen_from.ensures.to c.in_ok-before.ensures.made
    c.seen_from-2.ensures.from c.seen_from-2.ensures.to c.in_ok-behind.ensures.made in
    made _ _ _ _ _ _ _ _ c.requires.held _ _ _ _ k.0 k.1 c.in_ok-put.ensures.made

pub returns-clause-within : goal.returns-clause-within
returns-clause-within c =
    let p = placed c.requires.held c.requires.start c.ahead-first.ensures.count
    c.ahead-first.ensures.ticks c.touched-count.ensures in
    p.inside.all

pub returns-clause-count : goal.returns-clause-count
returns-clause-count c =
    let p = placed c.requires.held c.requires.start c.ahead-first.ensures.count
    c.ahead-first.ensures.ticks c.touched-count.ensures in
    p.reckoned.many

pub returns-clause-few : goal.returns-clause-few
returns-clause-few c =
    let k = copied c.requires.held c.requires.start c.ahead-first.ensures.count
    c.ahead-first.ensures.ticks c.touched-count.ensures c.sound_ticks.ensures.low
    c.sound_ticks.ensures.high c.sound_ticks.ensures.value c.child-item.ensures
    c.seen_from.ensures.from c.seen_from.ensures.to c.in_ok-before.ensures.made
    c.seen_from-2.ensures.from c.seen_from-2.ensures.to c.in_ok-behind.ensures.made in
    few _ _ _ _ _ _ _ c.requires.held _ _ _ _ k.0 k.1 c.in_ok-put.ensures.few
