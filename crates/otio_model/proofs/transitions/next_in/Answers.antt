-- One more item that isn't a transition.
use Rattle.std.proofs.Common.{arith, ◌∙◌}
use Rattle.otio_model.proofs.NextLemmas.{passed_by, stands}
use Rattle.otio_model.proofs.transitions.next_in.Goals as goal

pub returns-then-transition_count-eq1-clause-found :
    goal.returns-then-transition_count-eq1-clause-found
returns-then-transition_count-eq1-clause-found c = record {
  later = c.items.invariant.later;
  within = omega arith;
  there = stands c.args.items.now c.items.index c.index-items-index.result (omega arith)
      c.index-items-index.is
      (omega (arith, c.transition_count.ensures, c.if-transition_count-eq1.true));
  between = c.items.invariant.none;
  starts = c.ticks_of.ensures;
}

pub items-preserved : goal.items-preserved
items-preserved c =
    record {
      later = omega (arith, c.items.invariant.later);
      none = passed_by c.args.items.now c.items.index c.index-items-index.result (omega arith)
          c.index-items-index.is
          (λ e. omega (arith, e, c.transition_count.ensures, c.if-transition_count-eq1.false))
          ∙ c.items.invariant.none;
    }
