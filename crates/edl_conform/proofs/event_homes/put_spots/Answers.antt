use Rattle.std.proofs.Common.{◌∙◌, arith}
use Rattle.coord.proofs.Members.{index_few}
use Rattle.edl_conform.proofs.SeatSteps.{kept}
use Rattle.edl_conform.proofs.GiverSteps.{goes_on}
use Rattle.edl_conform.proofs.event_homes.put_spots.Goals as goal

pub overflow_cast-index : goal.overflow_cast-index
overflow_cast-index c =
    let k = index_few c.args.children.now c.children.index (omega arith) c.requires.few in
    omega (arith, k)

pub children-preserved : goal.children-preserved
children-preserved c =
    let way = c.children.invariant in
    record {
      way = goes_on c.args.track c.args.children.now c.children.index _ _
          c.past_behind-past.result c.at-seat.result c.args.spots.now.items
          c.children.spots.items c.put_spot.new.spots.items c.at-seat.ensures.seat
          c.at-seat.ensures.seated way.start c.in_ok-put_spot.ensures
          c.past_behind-past.ensures.past way.way;
      start = kept c.at-seat.result c.at-seat.ensures.seated ∙ c.at-seat.ensures.seat.end;
      past = c.past_behind-past.ensures.range;
    }
