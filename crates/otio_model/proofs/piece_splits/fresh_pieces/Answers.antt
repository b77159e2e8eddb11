-- One more fresh piece.
use Rattle.std.proofs.Common.{arith}
use Rattle.otio_model.proofs.Cuts.{fresh_more}
use Rattle.otio_model.proofs.piece_splits.fresh_pieces.Goals as goal

pub fresh-preserved : goal.fresh-preserved
fresh-preserved c = record {
  all = fresh_more _ _ _ c.in_ok-push.ensures.items c.fresh.invariant.all
      c.in_ok-items.ensures.items c.in_ok-items.ensures.capacity;
  long = omega (arith, c.in_ok-push.ensures.len, c.fresh-test.true, c.len.ensures);
}
