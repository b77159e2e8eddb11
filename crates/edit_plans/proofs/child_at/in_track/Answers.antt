use Rattle.std.proofs.Common.{◌≡◌, ap, ◌∙◌, to_z, of_z, ℤ, arith}
use Rattle.std.specs.Int.{w128}
use Rattle.std.proofs.lemmas.Int.{ints}
use Rattle.otio_model.specs.Trees.{items_of}
use Rattle.coord.specs.Sights.{looks}
use Rattle.edits_law.specs.Down.{reached}
use Rattle.edit_plans.proofs.Reached.{is_inside, reached_outside, seat_high, seat_low}
use Rattle.edit_plans.proofs.child_at.in_track.Goals as goal

pub first_overlap-requires-clause-low : goal.first_overlap-requires-clause-low
first_overlap-requires-clause-low c =
    seat_low c.args.children.now _ c.in-Some.held c.in-Some.ensures.found

pub in_side-requires-clause-inside : goal.in_side-requires-clause-inside
in_side-requires-clause-inside c =
    is_inside c.args.children.now _ c.in-Some.held c.in-Some.ensures.found

pub in_side-requires-clause-low : goal.in_side-requires-clause-low
in_side-requires-clause-low c =
    seat_low c.args.children.now _ c.in-Some.held c.in-Some.ensures.found

pub in_side-requires-clause-high : goal.in_side-requires-clause-high
in_side-requires-clause-high c =
    seat_high c.args.children.now _ c.in-Some.held c.in-Some.ensures.found c.requires.fits

pub returns-in-None-clause-value : goal.returns-in-None-clause-value
returns-in-None-clause-value c =
    let a : to_z w128 (of_z w128 c.args.at) ≡ c.args.at = omega (arith, ints) in
    λ v. reached_outside v c.args.children.now c.args.index _ c.in-None.ensures.none
    ∙ ap (λ (z : ℤ). reached c.args.index (looks v (items_of c.args.children.now)) z) a

pub returns-in-Some-first_overlap-clause-value : goal.returns-in-Some-first_overlap-clause-value
returns-in-Some-first_overlap-clause-value c =
    let a : to_z w128 (of_z w128 c.args.at) ≡ c.args.at = omega (arith, ints) in
    λ v. c.in_side.ensures.value v
    ∙ ap (λ (z : ℤ). reached c.args.index (looks v (items_of c.args.children.now)) z) a

pub returns-in-None-first_overlap-clause-value : goal.returns-in-None-first_overlap-clause-value
returns-in-None-first_overlap-clause-value c =
    let a : to_z w128 (of_z w128 c.args.at) ≡ c.args.at = omega (arith, ints) in
    λ v. c.in_holder.ensures.value v
    ∙ ap (λ (z : ℤ). reached c.args.index (looks v (items_of c.args.children.now)) z) a
