use Rattle.flat_stack.specs.Inputs.{given, slot_of}
use Rattle.flat_stack.proofs.CountLemmas.{below_is}
use Rattle.flat_stack.proofs.counting.own_count.Goals as goal

pub returns-in-Some-clause-value : goal.returns-in-Some-clause-value
returns-in-Some-clause-value c = below_is c.in-Some.own.children.now (given (slot_of c.args.seat) c.args.part.now) c.items_below.result c.in-Some.ensures.few c.in-Some.ensures.some c.items_below.ensures
