use Rattle.std.proofs.Common.{arith, ap, sym, ◌∙◌, ◌-◌, None, ◌≡◌, drop}
use Rattle.otio_model.specs.Trees.{items_of}
use Rattle.otio_model.proofs.LengthLimits.{few_enough}
use Rattle.edit_trim.specs.Retimes.{children_in}
use Rattle.edit_trim.proofs.Ranges.{in_stretch}
use Rattle.edit_trim.proofs.Walks.{first_found, first_passed}
use Rattle.edit_trim.proofs.retimes.first_of.Goals as goal

pub overflow_add-stretch : goal.overflow_add-stretch
overflow_add-stretch c = let k = few_enough c.args.children.now c.requires.few in
    omega (arith, k, c.requires.there, c.children-test.true)

pub returns-then-takes_time-clause-some : goal.returns-then-takes_time-clause-some
returns-then-takes_time-clause-some c =
    first_found (children_in c.args.stretch (items_of c.args.children.now)) c.children.index
    c.child.result.now
    (in_stretch (items_of c.args.children.now) c.args.stretch c.children.index c.child.result.now
    (omega (arith, c.children-test.true)) c.child.ensures)
    (sym c.if-takes_time.true ∙ c.takes_time.ensures) c.children.invariant

pub children-preserved : goal.children-preserved
children-preserved c =
    first_passed (children_in c.args.stretch (items_of c.args.children.now)) c.children.index
    c.child.result.now
    (in_stretch (items_of c.args.children.now) c.args.stretch c.children.index c.child.result.now
    (omega (arith, c.children-test.true)) c.child.ensures)
    (sym c.if-takes_time.false ∙ c.takes_time.ensures) c.children.invariant
