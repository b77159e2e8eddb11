use Rattle.std.proofs.Common.{arith, ap, vec_len}
use Rattle.otio_model.specs.declared.lists.Piece.{Piece}
use Rattle.otio_model.proofs.Windows.{next}
use Rattle.otio_model.proofs.piece_splits.start_piece.Goals as goal

pub returns-then-at-before : goal.returns-then-at-before
returns-then-at-before c =
    let v = c.starts.invariant in
    let n = next c.args.pieces.now c.starts.first c.index-pieces-first.result (omega arith)
    c.index-pieces-first.is c.requires.pieces in
    record {
      within = v.within;
      some = v.some;
      counted = v.counted;
      starts = v.starts;
      near = λ h. omega (
        arith,
        n.small,
        c.if-at-before.true,
        c.len-long.ensures,
        v.starts,
        c.index-pieces-first.result.items.ok,
        ap (λ (x : Piece). vec_len x.items) c.index-pieces-first.is,
      );
    }

pub starts-preserved : goal.starts-preserved
starts-preserved c =
    let v = c.starts.invariant in
    let n = next c.args.pieces.now c.starts.first c.index-pieces-first.result (omega arith)
    c.index-pieces-first.is c.requires.pieces in
    let long = ap (λ (x : Piece). vec_len x.items) c.index-pieces-first.is in
    record {
      within = omega arith;
      some = λ h. omega arith;
      counted = omega (
        arith,
        n.more,
        v.counted,
        c.len-long.ensures,
        c.index-pieces-first.result.items.ok,
        long,
      );
      starts = omega (arith, c.if-at-before.false, v.starts);
    }
