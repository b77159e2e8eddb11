use Rattle.std.proofs.Common.{arith, inr, get_or}
use Rattle.otio_model.proofs.Cuts.{same_default}
use Rattle.otio_model.proofs.Windows.{window_same, window_after, window_before, taken_short}
use Rattle.otio_model.proofs.Windows.{piece_here}
use Rattle.otio_model.proofs.piece_splits.window.Goals as goal

pub overflow_add-put : goal.overflow_add-put
overflow_add-put c = omega (
  arith,
  c.requires.few,
  c.end_piece-end.ensures.counted,
  taken_short c.args.pieces.now c.end_piece-end.result.0,
)

pub returns-then-put-behind-ge32 : goal.returns-then-put-behind-ge32
returns-then-put-behind-ge32 c =
    window_same c.args.pieces.now c.args.at c.args.count c.args.put _ _ _ c.end_piece-end.result.1
    c.start_piece-first.ensures c.end_piece-end.ensures c.requires.pieces (inr (omega arith))

pub returns-then-end-pieces : goal.returns-then-end-pieces
returns-then-end-pieces c =
    window_after c.args.pieces.now c.args.at c.args.count c.args.put _ _ _ c.end_piece-end.result.1
    (get_or c.args.pieces.now c.end_piece-end.result.0
    (piece_here c.args.pieces.now c.end_piece-end.result.0 (omega arith)))
    c.start_piece-first.ensures c.end_piece-end.ensures c.requires.pieces (omega arith)
    (same_default c.args.pieces.now c.end_piece-end.result.0 _ _ (omega arith))

pub overflow_sub-result-then-first-gt0 : goal.overflow_sub-result-then-first-gt0
overflow_sub-result-then-first-gt0 c =
    (window_before c.args.put c.start_piece-first.ensures c.end_piece-end.ensures c.requires.pieces
    (omega arith) c.index-pieces-first.is c.len-long.ensures).1

pub returns-then-first-gt0 : goal.returns-then-first-gt0
returns-then-first-gt0 c =
    (window_before c.args.put c.start_piece-first.ensures c.end_piece-end.ensures c.requires.pieces
    (omega arith) c.index-pieces-first.is c.len-long.ensures).0
