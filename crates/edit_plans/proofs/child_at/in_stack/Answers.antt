use Rattle.std.proofs.Common.{sym, ◌∙◌, refl, [], to_z, of_z, arith}
use Rattle.std.specs.Int.{w128}
use Rattle.std.proofs.lemmas.Int.{ints}
use Rattle.coord.proofs.Members.{child_few}
use Rattle.coord.proofs.JudgingLemmas.{sound_child}
use Rattle.edit_plans.proofs.Reached.{above_some, above_none, near_within}
use Rattle.edit_plans.proofs.child_at.in_stack.Goals as goal

pub ticks_of-requires : goal.ticks_of-requires
ticks_of-requires c = record {
  few = child_few c.args.children.now c.args.index _ c.child.ensures c.requires.few;
  sound = sound_child c.args.children.now c.args.index _ c.child.ensures c.requires.sound [] _ refl;
}

pub returns-then-is_within-clause-value : goal.returns-then-is_within-clause-value
returns-then-is_within-clause-value c =
    let e = c.ticks_of.ensures.value in let low = c.ticks_of.ensures.low in
    let high = c.ticks_of.ensures.high in
    λ v. above_some v c.args.children.now c.args.index c.child.result.now
    (to_z w128 (of_z w128 c.ticks_of.result)) (to_z w128 (of_z w128 c.args.at)) _ c.args.at
    c.child.ensures (omega (arith, ints)) (omega (arith, ints)) (omega (arith, ints))
    (sym c.is_within.ensures ∙ c.if-is_within.true)

pub returns-then-is_within-clause-near : goal.returns-then-is_within-clause-near
returns-then-is_within-clause-near c =
    let high = c.ticks_of.ensures.high in let low = c.ticks_of.ensures.low in
    near_within (to_z w128 (of_z w128 c.ticks_of.result)) (to_z w128 (of_z w128 c.args.at)) _
    (sym c.is_within.ensures ∙ c.if-is_within.true) refl (omega (arith, ints))

pub returns-clause-value : goal.returns-clause-value
returns-clause-value c =
    let e = c.ticks_of.ensures.value in let low = c.ticks_of.ensures.low in
    let high = c.ticks_of.ensures.high in
    λ v. above_none v c.args.children.now c.args.index c.child.result.now
    (to_z w128 (of_z w128 c.ticks_of.result)) (to_z w128 (of_z w128 c.args.at)) c.args.at
    c.child.ensures (omega (arith, ints)) (omega (arith, ints))
    (sym c.is_within.ensures ∙ c.if-is_within.false)
