use Rattle.std.proofs.Common.{arith, ap, vec_len}
use Rattle.otio_model.specs.declared.lists.Piece.{Piece}
use Rattle.otio_model.proofs.Windows.{next}
use Rattle.otio_model.proofs.piece_splits.first_end.Goals as goal

pub overflow_add-result-then-first-pieces : goal.overflow_add-result-then-first-pieces
overflow_add-result-then-first-pieces c =
    let n = next c.args.pieces.now c.args.first c.index-pieces-first.result (omega arith)
    c.index-pieces-first.is c.requires.pieces in
    omega (
      arith,
      n.more,
      n.within,
      c.requires.counted,
      c.requires.few,
      c.len-long.ensures,
      c.index-pieces-first.result.items.ok,
      ap (λ (x : Piece). vec_len x.items) c.index-pieces-first.is,
    )

pub returns-then-first-pieces : goal.returns-then-first-pieces
returns-then-first-pieces c =
    let n = next c.args.pieces.now c.args.first c.index-pieces-first.result (omega arith)
    c.index-pieces-first.is c.requires.pieces in
    let long = ap (λ (x : Piece). vec_len x.items) c.index-pieces-first.is in
    record {
      order = omega arith;
      one = omega arith;
      within = omega arith;
      counted = omega (
        arith,
        n.more,
        c.requires.counted,
        c.len-long.ensures,
        c.index-pieces-first.result.items.ok,
        long,
      );
      some = λ h. omega arith;
      full = λ h. omega (
        arith,
        n.full h,
        c.len-long.ensures,
        c.index-pieces-first.result.items.ok,
        long,
      );
    }
