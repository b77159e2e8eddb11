use Rattle.std.proofs.Common.{sym, ◌∙◌, refl, [], arith}
use Rattle.std.proofs.lemmas.Int.{ints}
use Rattle.coord.proofs.Members.{child_few, index_few}
use Rattle.coord.proofs.JudgingLemmas.{sound_child}
use Rattle.edit_plans.proofs.Reached.{side_before, side_behind, side_other, start_inside}
use Rattle.edit_plans.proofs.child_at.in_side.Goals as goal

pub since-ticks-requires : goal.since-ticks-requires
since-ticks-requires c =
    let a = c.requires.first.starts in
    let b = start_inside c.args.children.now c.args.cut.index in
    let fits = c.requires.fits in let least = c.requires.low in let most = c.requires.high in record {
      start_low = omega (arith, ints);
      start_high = omega (arith, ints);
      low = omega (arith, ints);
      high = omega (arith, ints);
    }

pub overflow_add-cut : goal.overflow_add-cut
overflow_add-cut c =
    let k = index_few c.args.children.now c.args.cut.index c.requires.first.within c.requires.few in
    omega (arith, k)

pub ticks_of-requires : goal.ticks_of-requires
ticks_of-requires c = record {
  few = child_few c.args.children.now c.args.index _ c.child.ensures c.requires.few;
  sound = sound_child c.args.children.now c.args.index _ c.child.ensures c.requires.sound [] _ refl;
}

pub returns-then-is_index-clause-value : goal.returns-then-is_index-clause-value
returns-then-is_index-clause-value c =
    let a = c.requires.first.starts in
    let b = start_inside c.args.children.now c.args.cut.index in
    let fits = c.requires.fits in let least = c.requires.low in let most = c.requires.high in
    let e = c.since-ticks.ensures.value in let f = c.since-ticks.ensures.low in
    let g = c.since-ticks.ensures.high in let h = c.ticks_of.ensures.value in
    let i = c.ticks_of.ensures.low in let j = c.ticks_of.ensures.high in
    let k = c.later.ensures.value in
    λ v. side_before v c.args.children.now c.args.index c.args.at _ c.args.cut
    c.child_before-before.result c.child.result.now c.requires.inside c.requires.first
    c.child_before-before.ensures (sym c.is_index.ensures ∙ c.if-is_index.true) c.child.ensures
    (omega (arith, ints))

pub returns-then-is_index-2-clause-value : goal.returns-then-is_index-2-clause-value
returns-then-is_index-2-clause-value c =
    let a = c.requires.first.starts in
    let b = start_inside c.args.children.now c.args.cut.index in
    let fits = c.requires.fits in let least = c.requires.low in let most = c.requires.high in
    let e = c.since-ticks.ensures.value in
    λ v. side_behind v c.args.children.now c.args.index c.args.at _ c.args.cut
    c.child_before-before.result c.child_behind-behind.result c.requires.inside c.requires.first
    c.child_before-before.ensures c.child_behind-behind.ensures
    (sym c.is_index.ensures ∙ c.if-is_index.false)
    (sym c.is_index-2.ensures ∙ c.if-is_index-2.true) (omega (arith, ints))

pub returns-clause-value : goal.returns-clause-value
returns-clause-value c =
    λ v. side_other v c.args.children.now c.args.index c.args.at c.args.cut
    c.child_before-before.result c.child_behind-behind.result c.requires.inside c.requires.first
    c.child_before-before.ensures c.child_behind-behind.ensures
    (sym c.is_index.ensures ∙ c.if-is_index.false)
    (sym c.is_index-2.ensures ∙ c.if-is_index-2.false)
