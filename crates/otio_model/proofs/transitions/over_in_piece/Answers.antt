-- A piece whose overlaps don't reach the instant.
use Rattle.std.proofs.Common.{arith}
use Rattle.otio_model.proofs.OverLemmas.{piece_after, piece_before, piece_without}
use Rattle.otio_model.proofs.SeekLemmas.{kept_ticks}
use Rattle.otio_model.proofs.transitions.over_in_piece.Goals as goal

pub returns-then-piece-eq0-clause-none : goal.returns-then-piece-eq0-clause-none
returns-then-piece-eq0-clause-none c =
    piece_without c.args.piece.now _ c.requires.piece c.if-piece-eq0.true

pub returns-then-saturating_add-first-clause-none :
    goal.returns-then-saturating_add-first-clause-none
returns-then-saturating_add-first-clause-none c =
    piece_before c.args.piece.now c.args.first c.args.at c.requires.piece
    (omega (arith, c.if-saturating_add-first.true, c.saturating_add.ensures, c.requires.fits))

pub overflow_add-end : goal.overflow_add-end
overflow_add-end c = omega (arith, kept_ticks c.args.piece.now c.requires.piece, c.requires.fits)

pub returns-then-saturating_add-at-clause-none : goal.returns-then-saturating_add-at-clause-none
returns-then-saturating_add-at-clause-none c =
    piece_after c.args.piece.now c.args.first c.args.at c.requires.piece
    (omega (
      arith,
      c.if-saturating_add-at.true,
      c.saturating_add-2.ensures,
      c.requires.short,
      kept_ticks c.args.piece.now c.requires.piece,
      c.requires.fits,
    ))
