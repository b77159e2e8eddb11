use Rattle.coord.proofs.Members.{next}
use Rattle.flat_stack.proofs.SeatLemmas.{all_more, standing}
use Rattle.flat_stack.proofs.input_tracks.all_seats.Goals as goal

pub parts-preserved : goal.parts-preserved
parts-preserved c =
    let at = standing c.args.parts.now c.parts.index c.parts-test.true in
    let known = c.requires.parts c.parts.index at.0 at.1 in
    record {
      all = all_more c.parts.all.items c.add_new.new.all.items c.args.parts.now c.parts.index at.0
          c.parts.invariant.all at.1 (next c.args.parts.now c.parts.index at.0 at.1) known.seats
          (c.in_ok-add_new.ensures.added at.0 at.1);
      most = c.in_ok-add_new.ensures.most;
    }
