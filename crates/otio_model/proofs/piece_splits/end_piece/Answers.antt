use Rattle.std.proofs.Common.{arith, ap, vec_len, length}
use Rattle.otio_model.specs.declared.lists.Piece.{Piece}
use Rattle.otio_model.proofs.Windows.{next, inside_end, end_short}
use Rattle.otio_model.proofs.piece_splits.end_piece.Goals as goal

pub overflow_add-behind : goal.overflow_add-behind
overflow_add-behind c =
    let h = inside_end c.args.pieces.now c.ends.end
    (omega (arith, c.ends.invariant.counted, c.ends-test.true, c.requires.there)) in
    let n = next c.args.pieces.now c.ends.end c.index-pieces-end.result h c.index-pieces-end.is
    c.requires.pieces in
    omega (
      arith,
      n.more,
      n.within,
      c.requires.few,
      c.ends.invariant.counted,
      c.len-behind.ensures,
      c.index-pieces-end.result.items.ok,
      ap (λ (x : Piece). vec_len x.items) c.index-pieces-end.is,
    )

pub ends-preserved : goal.ends-preserved
ends-preserved c =
    let v = c.ends.invariant in
    let h = inside_end c.args.pieces.now c.ends.end
    (omega (arith, v.counted, c.ends-test.true, c.requires.there)) in
    let n = next c.args.pieces.now c.ends.end c.index-pieces-end.result h c.index-pieces-end.is
    c.requires.pieces in
    let long = ap (λ (x : Piece). vec_len x.items) c.index-pieces-end.is in
    record {
      order = omega arith;
      within = omega (arith, h);
      counted = omega (
        arith,
        n.more,
        v.counted,
        c.len-behind.ensures,
        c.index-pieces-end.result.items.ok,
        long,
      );
      some = λ h. omega (arith, v.order);
      full = λ h. omega (
        arith,
        v.full h,
        n.full h,
        v.order,
        c.len-behind.ensures,
        c.index-pieces-end.result.items.ok,
        long,
      );
      short = end_short (length c.args.pieces.now)
          c.args.first c.ends.end c.args.at c.args.count c.args.before c.ends.behind
          (omega (arith, h)) v.order c.requires.start.near v.full (omega arith)
          c.requires.start.starts;
    }
