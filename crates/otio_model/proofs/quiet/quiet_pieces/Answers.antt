-- One more piece is passed.
use Rattle.std.proofs.Common.{arith}
use Rattle.otio_model.proofs.PassLemmas.{passed_whole, passing_as, passing_fits, passing_next}
use Rattle.otio_model.proofs.PassLemmas.{passing_none}
use Rattle.otio_model.proofs.SeekLemmas.{kept_ticks}
use Rattle.otio_model.proofs.quiet.quiet_pieces.Goals as goal

pub pieces-init : goal.pieces-init
pieces-init c = record {
  passing = passing_none c.args.pieces.now c.args.first c.args.from c.args.to;
}

pub returns-then-saturating_add-piece : goal.returns-then-saturating_add-piece
returns-then-saturating_add-piece c = passed_whole c.pieces.invariant.passing

pub returns-then-not-is_quiet : goal.returns-then-not-is_quiet
returns-then-not-is_quiet c = passed_whole c.pieces.invariant.passing

pub overflow_add-count : goal.overflow_add-count
overflow_add-count c =
    let fits = passing_fits c.read_piece-piece.ensures c.pieces.invariant.passing in
    omega (
      arith,
      fits.0,
      c.len-count.ensures,
      c.read_piece-piece.result.now.items.ok,
      c.requires.few,
    )

pub overflow_add-ticks : goal.overflow_add-ticks
overflow_add-ticks c =
    let f = c.read_piece-piece.ensures in
    let fits = passing_fits f c.pieces.invariant.passing in
    omega (arith, fits.1, kept_ticks c.read_piece-piece.result.now f.is, c.requires.fits)

pub pieces-preserved : goal.pieces-preserved
pieces-preserved c =
    let f = c.read_piece-piece.ensures in
    let fits = passing_fits f c.pieces.invariant.passing in
    record {
      passing = passing_as _ _ (passing_next f c.pieces.invariant.passing
          (c.is_quiet.ensures c.if-not-is_quiet.false))
          (omega (arith, c.len-count.ensures, c.read_piece-piece.result.now.items.ok))
          (omega (
            arith,
            fits.1,
            kept_ticks c.read_piece-piece.result.now f.is,
            c.requires.fits,
          ));
    }

pub returns : goal.returns
returns c = passed_whole c.pieces.invariant.passing
