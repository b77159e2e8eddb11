use Rattle.std.proofs.Common.{sym, ◌∙◌, arith}
use Rattle.otio_model.specs.Trees.{items_of}
use Rattle.coord.proofs.Members.{index_few}
use Rattle.edl_conform.specs.Stated.{stated_job, stated_seat}
use Rattle.edl_conform.proofs.ChildSteps.{stops}
use Rattle.edl_conform.proofs.SeatSteps.{here, kept, walks_on}
use Rattle.edl_conform.proofs.children.put_children.Goals as goal

pub overflow_cast-result : goal.overflow_cast-result
overflow_cast-result c =
    let k = index_few c.args.children.now c.children.index (omega arith) c.requires.few in
    omega (arith, k)

pub returns-in-Some : goal.returns-in-Some
returns-in-Some c =
    let way = c.children.invariant in
    stops (stated_job c.args.job.now) c.args.channel (items_of c.args.children.now)
    c.children.index _ _ (stated_seat c.at-seat.result) c.args.events.now.items
    c.children.events.items c.in-Some.why
    (here c.args.children.now c.children.index _ c.at-seat.result _ c.at-seat.ensures.seat
    way.start)
    (sym (c.in-Some.ensures.reason c.args.channel)) way.way

pub children-preserved : goal.children-preserved
children-preserved c =
    let way = c.children.invariant in
    record {
      way = walks_on c.args.job.now c.args.channel c.args.children.now c.children.index
          _ _ c.past_after-past.result c.at-seat.result c.args.events.now.items
          c.children.events.items c.put_event.new.events.items c.at-seat.ensures.seat
          c.at-seat.ensures.seated way.start c.in-None.ensures.carried c.in_ok-put_event.ensures
          c.past_after-past.ensures.past way.way;
      start = kept c.at-seat.result c.at-seat.ensures.seated ∙ c.at-seat.ensures.seat.end;
      past = c.past_after-past.ensures.range;
    }
