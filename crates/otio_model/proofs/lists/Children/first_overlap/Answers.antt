-- What the pieces answer, of the children that they are.
use Rattle.std.proofs.Common.{arith, ap, ◌∙◌, ◌≡◌, pos, sym, subst, FitsSigned, to_z-of_z}
use Rattle.std.specs.Int.{w128}
use Rattle.otio_model.specs.Kept.{reach_in}
use Rattle.otio_model.specs.Pieces.{all_items}
use Rattle.otio_model.specs.Seeks.{IsOver, NoneOver}
use Rattle.otio_model.proofs.Views.{shown}
use Rattle.otio_model.proofs.ShownLemmas.{few_shown, total_shown}
use Rattle.otio_model.proofs.OverLemmas.{abs_pos, over_none, over_seated, over_short, over_without}
use Rattle.otio_model.proofs.lists.Children.first_overlap.Goals as goal

pub returns-then-transitions-eq0-clause-none : goal.returns-then-transitions-eq0-clause-none
returns-then-transitions-eq0-clause-none c =
    over_without c.args.self.now c.transitions.result c.args.ticks c.transitions.ensures
    c.if-transitions-eq0.true

pub over_in_pieces-requires-clause-reach : goal.over_in_pieces-requires-clause-reach
over_in_pieces-requires-clause-reach c =
    omega (
      arith,
      c.overlap_reach.ensures,
      ap reach_in (shown _ _ c.self.view_is),
      ap (λ l. reach_in (all_items l)) c.as_slice.ensures.value,
    )

pub over_in_pieces-requires-clause-fits : goal.over_in_pieces-requires-clause-fits
over_in_pieces-requires-clause-fits c =
    omega (arith, total_shown c.requires.few c.self.view_is c.as_slice.ensures.value)

pub over_in_pieces-requires-clause-few : goal.over_in_pieces-requires-clause-few
over_in_pieces-requires-clause-few c =
    omega (arith, few_shown c.requires.few c.self.view_is c.as_slice.ensures.value)

pub starting_at-requires : goal.starting_at-requires
starting_at-requires c =
    omega (
      arith,
      over_short c.in-Some.ensures.found,
      total_shown c.requires.few c.self.view_is c.as_slice.ensures.value,
    )

pub returns-in-Some-clause-found : goal.returns-in-Some-clause-found
returns-in-Some-clause-found c =
    let fits : FitsSigned w128 c.args.ticks = c.ranges.ticks in
    let value = simp to_z-of_z at c.unsigned_abs-at.ensures.value in
    let same : pos c.unsigned_abs-at.result ≡ c.args.ticks
    = ap (λ n. pos n) value ∙ abs_pos c.args.ticks c.requires.low in
    over_seated c.args.self.now (all_items c.as_slice.result.now) c.args.ticks c.in-Some.number
    c.in-Some.start c.starting_at.result
    (shown _ _ c.self.view_is ∙ ap all_items (sym c.as_slice.ensures.value))
    (subst (λ w. IsOver (all_items c.as_slice.result.now) w c.in-Some.number c.in-Some.start) same
    c.in-Some.ensures.found)
    c.starting_at.ensures.index c.starting_at.ensures.start

pub returns-in-None-clause-none : goal.returns-in-None-clause-none
returns-in-None-clause-none c =
    let fits : FitsSigned w128 c.args.ticks = c.ranges.ticks in
    let value = simp to_z-of_z at c.unsigned_abs-at.ensures.value in
    let same : pos c.unsigned_abs-at.result ≡ c.args.ticks
    = ap (λ n. pos n) value ∙ abs_pos c.args.ticks c.requires.low in
    over_none c.args.self.now (all_items c.as_slice.result.now) c.args.ticks
    (shown _ _ c.self.view_is ∙ ap all_items (sym c.as_slice.ensures.value))
    (subst (NoneOver (all_items c.as_slice.result.now)) same c.in-None.ensures.none)
