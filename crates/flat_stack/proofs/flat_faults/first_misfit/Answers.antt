use Rattle.std.proofs.Common.{arith, sym}
use Rattle.otio_model.specs.Trees.{items_of}
use Rattle.flat_stack.proofs.MisfitLemmas.{fit_more, fit_all}
use Rattle.flat_stack.proofs.flat_faults.first_misfit.Goals as goal

pub children-init : goal.children-init
children-init c = λ i y h e. absurd (omega (arith, h))

pub returns-in-Some-clause-found : goal.returns-in-Some-clause-found
returns-in-Some-clause-found c = record {
  item = c.child.result.now;
  there = c.child.ensures;
  wrong = sym c.in-Some.ensures;
  before = c.children.invariant;
}

pub children-preserved : goal.children-preserved
children-preserved c = fit_more (items_of c.args.children.now) c.children.index c.child.result.now c.children.invariant c.child.ensures (sym c.in-None.ensures)

pub returns-clause-none : goal.returns-clause-none
returns-clause-none c = fit_all (items_of c.args.children.now) c.children.index (omega arith) c.children.invariant
