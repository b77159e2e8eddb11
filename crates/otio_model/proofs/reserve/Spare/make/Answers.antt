-- The fresh pieces have room, and can be moved.
use Rattle.std.proofs.Common.{arith}
use Rattle.otio_model.proofs.Cuts.{fresh_more}
use Rattle.otio_model.proofs.reserve.Spare.make.Goals as goal

pub fresh-preserved : goal.fresh-preserved
fresh-preserved c = record {
  all = fresh_more _ _ _ c.in_ok-push.ensures.items c.fresh.invariant.all
      c.in_ok-items.ensures.items c.in_ok-items.ensures.capacity;
  taken = c.fresh.invariant.taken;
  loose = c.fresh.invariant.loose;
  mid = c.fresh.invariant.mid;
  outer = c.fresh.invariant.outer;
  made = c.fresh.invariant.made;
  taken_room = c.fresh.invariant.taken_room;
  loose_room = c.fresh.invariant.loose_room;
  mid_room = c.fresh.invariant.mid_room;
  made_room = c.fresh.invariant.made_room;
  movable = omega (
    arith,
    c.in_ok-push.ensures.len,
    c.fresh-test.true,
    c.len.ensures,
    c.fresh.invariant.made_room,
  );
}
