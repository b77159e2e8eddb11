use Rattle.std.proofs.Common.{◌≡◌, refl, sym, ap, ◌∙◌, [], ℤ, to_z, of_z, FitsSigned, rules, arith}
use Rattle.std.specs.Prelude.{is_some}
use Rattle.std.specs.Int.{w128}
use Rattle.std.proofs.lemmas.Int.{ints}
use Rattle.coord.specs.Sights.{exact}
use Rattle.coord.proofs.Members.{got_below}
use Rattle.edits_law.specs.Down.{inner}
use Rattle.edit_plans.proofs.PlaceWays.{closed, at_end, no_child, not_reached, is_reached}
use Rattle.edit_plans.proofs.PlaceWays.{child_smaller, child_sound}
use Rattle.edit_plans.proofs.descent.+down_from.Goals as goal

pub inner-at-requires-clause-sound : goal.inner-at-requires-clause-sound
inner-at-requires-clause-sound t c =
    c.requires.1.1.1.1.0 [] c.args.item.now refl

pub returns-then-not-is_open : goal.returns-then-not-is_open
returns-then-not-is_open t c =
    closed c.args.kind.now _ c.args.item.now c.args.ticks
    (sym c.is_open.ensures ∙ c.if-not-is_open.true)

pub returns-in-None : goal.returns-in-None
returns-in-None t c =
    let a : to_z w128 (of_z w128 c.args.ticks) ≡ c.args.ticks = omega (arith, ints) in
    let fits : FitsSigned w128 c.inner-at.result = search rules in
    let b : to_z w128 (of_z w128 c.inner-at.result) ≡ c.inner-at.result =
    omega (arith, ints, fits) in
    at_end c.args.kind.now c.args.place.now c.args.level c.args.item.now c.args.ticks _
    (sym c.is_open.ensures ∙ c.if-not-is_open.false) c.in-None.ensures
    (b ∙ c.inner-at.ensures ∙ ap (λ (z : ℤ). inner c.args.item.now z) a)

pub returns-in-None-child_of : goal.returns-in-None-child_of
returns-in-None-child_of t c =
    no_child c.args.kind.now c.args.place.now c.args.level c.in-Some.index c.args.item.now
    c.args.ticks (sym c.is_open.ensures ∙ c.if-not-is_open.false) c.in-Some.ensures
    c.in-None-child_of.ensures

pub in_child-requires-clause-there : goal.in_child-requires-clause-there
in_child-requires-clause-there t c = ap is_some (sym c.in-Some-child_of.ensures)

pub returns-in-None-in_child : goal.returns-in-None-in_child
returns-in-None-in_child t c =
    let a : to_z w128 (of_z w128 c.args.ticks) ≡ c.args.ticks = omega (arith, ints) in
    let fits : FitsSigned w128 c.inner-at.result = search rules in
    let b : to_z w128 (of_z w128 c.inner-at.result) ≡ c.inner-at.result =
    omega (arith, ints, fits) in
    not_reached c.args.kind.now c.args.place.now c.args.level c.in-Some.index c.args.item.now
    c.in-Some-child_of.child.now c.args.ticks _
    (sym c.is_open.ensures ∙ c.if-not-is_open.false) c.in-Some.ensures
    c.in-Some-child_of.ensures
    (b ∙ c.inner-at.ensures ∙ ap (λ (z : ℤ). inner c.args.item.now z) a)
    (c.in-None-in_child.ensures.value (exact c.args.kind.now))

pub down_from-requires : goal.down_from-requires
down_from-requires t c =
    let s = child_smaller c.args.item.now c.in-Some.index c.in-Some-child_of.child.now
    c.in-Some-child_of.ensures in
    let m = c.requires.1.0 in let few = c.requires.1.1.0 in let deep = c.requires.1.1.1.0 in
    let n = c.in-Some-in_child.ensures.near in let l = n.low in let h = n.high in
    let g = got_below c.args.place.now c.args.level c.in-Some.index (sym c.in-Some.ensures) in (
      omega (arith, s, m),
      (
        omega (arith, s, few),
        (
          omega (arith, s, deep),
          (
            child_sound c.args.item.now c.in-Some.index c.in-Some-child_of.child.now
                c.in-Some-child_of.ensures c.requires.1.1.1.1.0,
            (record { low = omega (arith, ints); high = omega (arith, ints) }, omega (arith, g)),
          ),
        ),
      ),
    )

pub returns-in-Some-in_child : goal.returns-in-Some-in_child
returns-in-Some-in_child t c =
    let a : to_z w128 (of_z w128 c.args.ticks) ≡ c.args.ticks = omega (arith, ints) in
    let fits : FitsSigned w128 c.inner-at.result = search rules in
    let b : to_z w128 (of_z w128 c.inner-at.result) ≡ c.inner-at.result =
    omega (arith, ints, fits) in
    let n = c.in-Some-in_child.ensures.near in let l = n.low in let h = n.high in
    is_reached c.args.kind.now c.args.place.now c.args.level c.in-Some.index c.args.item.now
    c.in-Some-child_of.child.now c.args.ticks _ c.in-Some-in_child.ticks _ c.down_from.result
    (sym c.is_open.ensures ∙ c.if-not-is_open.false) c.in-Some.ensures
    c.in-Some-child_of.ensures
    (b ∙ c.inner-at.ensures ∙ ap (λ (z : ℤ). inner c.args.item.now z) a)
    (c.in-Some-in_child.ensures.value (exact c.args.kind.now)) (omega (arith, ints))
    c.down_from.ensures
