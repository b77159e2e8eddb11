-- One more item that may not show anything.
use Rattle.std.proofs.Common.{arith, sym, ◌-◌}
use Rattle.otio_model.proofs.LightLemmas.{lit_here, lit_passed}
use Rattle.otio_model.proofs.lights.lit_among.Goals as goal

pub items-init : goal.items-init
items-init c = record { none = λ j low high. absurd (omega (arith, low, high)) }

pub returns-then-is_lit_at-clause-found : goal.returns-then-is_lit_at-clause-found
returns-then-is_lit_at-clause-found c = record {
  before = omega arith;
  there = lit_here c.args.items.now c.args.at (c.items.index - 1) c.index-items-index.result
      (omega (arith, c.requires.there)) c.index-items-index.is (sym c.if-is_lit_at.ensures);
  none_between = λ j low high. c.items.invariant.none j (omega (arith, low)) high;
}

pub items-preserved : goal.items-preserved
items-preserved c = record {
  none = lit_passed c.args.items.now c.args.end c.args.at c.items.index (c.items.index - 1)
      c.index-items-index.result (omega (arith, c.requires.there)) c.index-items-index.is
      (omega arith) (sym c.if-is_lit_at.ensures) c.items.invariant.none;
}

pub returns-clause-none : goal.returns-clause-none
returns-clause-none c = λ j b. c.items.invariant.none j (omega (arith, c.items-test.false)) b
