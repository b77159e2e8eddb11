-- From a root child.
use Rattle.std.proofs.Common.{◌≡◌, ap, refl, sym, ◌∙◌, [], drop, true, false, to_z, of_z}
use Rattle.std.proofs.Common.{FitsSigned, rules, arith}
use Rattle.std.specs.Int.{w128}
use Rattle.std.proofs.lemmas.Int.{ints}
use Rattle.coord.specs.Programs.{kind_of}
use Rattle.coord.specs.Sights.{exact}
use Rattle.edits_law.specs.Down.{down_from}
use Rattle.edit_plans.proofs.PlaceWays.{in_child_length}
use Rattle.edit_plans.proofs.descent.down_in.Goals as goal

pub ticks_of-requires-clause-sound : goal.ticks_of-requires-clause-sound
ticks_of-requires-clause-sound c = c.requires.sound [] c.args.item.now refl

pub returns-then-is_within : goal.returns-then-is_within
returns-then-is_within c =
    let a : to_z w128 (of_z w128 c.args.ticks) ≡ c.args.ticks = omega (arith, ints) in
    let fits : FitsSigned w128 c.ticks_of.result = search rules in
    let b : to_z w128 (of_z w128 c.ticks_of.result) ≡ c.ticks_of.result =
    omega (arith, ints, fits) in
    in_child_length (drop 1 c.args.place.now) c.args.ticks _ _
    c.args.item.now true c.down_from.result (b ∙ c.ticks_of.ensures.value) a
    (sym c.is_within.ensures ∙ c.if-is_within.true)
    (c.down_from.ensures
    ∙ ap (λ k. down_from (exact k) (drop 1 c.args.place.now) c.args.item.now
    (to_z w128 (of_z w128 c.args.ticks))) c.root_kind.ensures
    ∙ ap (down_from (exact (kind_of c.args.item.now)) (drop 1 c.args.place.now) c.args.item.now) a)

pub returns : goal.returns
returns c =
    let a : to_z w128 (of_z w128 c.args.ticks) ≡ c.args.ticks = omega (arith, ints) in
    let fits : FitsSigned w128 c.ticks_of.result = search rules in
    let b : to_z w128 (of_z w128 c.ticks_of.result) ≡ c.ticks_of.result =
    omega (arith, ints, fits) in
    in_child_length (drop 1 c.args.place.now) c.args.ticks _ _
    c.args.item.now false _ (b ∙ c.ticks_of.ensures.value) a
    (sym c.is_within.ensures ∙ c.if-is_within.false) refl
