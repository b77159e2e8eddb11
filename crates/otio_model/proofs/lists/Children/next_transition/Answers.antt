-- What the pieces answer, of the children that they are.
use Rattle.std.proofs.Common.{arith, ap, ◌∙◌, sym}
use Rattle.otio_model.specs.Pieces.{all_items}
use Rattle.otio_model.proofs.Views.{shown}
use Rattle.otio_model.proofs.ShownLemmas.{few_shown, total_shown}
use Rattle.otio_model.proofs.NextLemmas.{next_seated, next_short, no_more, none_seated}
use Rattle.otio_model.proofs.lists.Children.next_transition.Goals as goal

pub returns-then-transitions-eq0-clause-none : goal.returns-then-transitions-eq0-clause-none
returns-then-transitions-eq0-clause-none c =
    no_more c.args.self.now c.transitions.result c.args.index c.transitions.ensures
    c.if-transitions-eq0.true

pub next_in_pieces-requires-clause-fits : goal.next_in_pieces-requires-clause-fits
next_in_pieces-requires-clause-fits c =
    omega (arith, total_shown c.requires.few c.self.view_is c.as_slice.ensures.value)

pub next_in_pieces-requires-clause-few : goal.next_in_pieces-requires-clause-few
next_in_pieces-requires-clause-few c =
    omega (arith, few_shown c.requires.few c.self.view_is c.as_slice.ensures.value)

pub starting_at-requires : goal.starting_at-requires
starting_at-requires c =
    omega (
      arith,
      next_short c.in-Some.ensures.found,
      total_shown c.requires.few c.self.view_is c.as_slice.ensures.value,
    )

pub returns-in-Some-clause-found : goal.returns-in-Some-clause-found
returns-in-Some-clause-found c =
    next_seated c.args.self.now (all_items c.as_slice.result.now)
    c.args.index c.in-Some.number c.in-Some.start c.starting_at.result (shown _ _ c.self.view_is
    ∙ ap all_items (sym c.as_slice.ensures.value))
    c.in-Some.ensures.found c.starting_at.ensures.index c.starting_at.ensures.start

pub returns-in-None-clause-none : goal.returns-in-None-clause-none
returns-in-None-clause-none c =
    none_seated c.args.self.now (all_items c.as_slice.result.now) c.args.index
    (shown _ _ c.self.view_is
    ∙ ap all_items (sym c.as_slice.ensures.value)) c.in-None.ensures.none
