-- A piece that ends before the zone, or begins after it.
use Rattle.std.proofs.Common.{arith}
use Rattle.otio_model.proofs.PassLemmas.{piece_early, piece_late}
use Rattle.otio_model.proofs.SeekLemmas.{kept_ticks}
use Rattle.otio_model.proofs.quiet.is_quiet.Goals as goal

pub overflow_add-end : goal.overflow_add-end
overflow_add-end c = omega (arith, kept_ticks c.args.piece.now c.requires.piece, c.requires.fits)

pub returns-then-saturating_add-from : goal.returns-then-saturating_add-from
returns-then-saturating_add-from c = λ _.
    piece_late c.args.piece.now c.args.piece.now.start.ticks c.args.from c.args.to c.requires.piece
    (omega (
      arith,
      c.if-saturating_add-from.true,
      c.saturating_add.ensures,
      c.requires.from,
      kept_ticks c.args.piece.now c.requires.piece,
      c.requires.fits,
    ))

pub returns-then-saturating_add-piece : goal.returns-then-saturating_add-piece
returns-then-saturating_add-piece c = λ _.
    piece_early c.args.piece.now c.args.piece.now.start.ticks c.args.from c.args.to
    c.requires.piece
    (omega (
      arith,
      c.if-saturating_add-piece.true,
      c.saturating_add-2.ensures,
      c.requires.fits,
    ))
