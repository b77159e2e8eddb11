use Rattle.std.proofs.Common.{refl, sym, subst}
use Rattle.std.proofs.lemmas.List.Elements.{All-more}
use Rattle.edl_text.specs.StateLate.{IsEqual}
use Rattle.edl_text.proofs.Lateness.{all_of}
use Rattle.edl_text.proofs.end_of_list_faults.first_unequal.Goals as goal

pub returns-then-is_unequal : goal.returns-then-is_unequal
returns-then-is_unequal c = record {
  index = c.events.event-index;
  event = c.event-item.result;
  within = c.events-test.true;
  at = sym c.event-item.is;
  line = refl;
  unequal = c.if-is_unequal.ensures;
  before = c.events.invariant;
}

pub events-preserved : goal.events-preserved
events-preserved c =
    All-more IsEqual c.args.events.now c.events.event-index c.event-item.result c.events-test.true c.events.invariant (subst IsEqual c.event-item.is c.if-is_unequal.ensures)

pub returns : goal.returns
returns c = all_of c.args.events.now c.events.event-index c.events-test.false c.events.invariant
