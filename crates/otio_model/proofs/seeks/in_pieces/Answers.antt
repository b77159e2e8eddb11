-- The last piece that starts at or before the instant has it, or none.
use Rattle.std.proofs.Common.{arith}
use Rattle.otio_model.proofs.SeekLemmas.{holds_at, length-lens}
use Rattle.otio_model.proofs.seeks.in_pieces.Goals as goal

pub overflow_add-result : goal.overflow_add-result
overflow_add-result g c =
    let f = c.read_piece-piece.ensures in
    omega (
      arith,
      c.in-Some.ensures.found.within,
      length-lens c.read_piece-piece.result.now.items.items,
      f.fits,
      f.before,
      c.requires.few,
    )

pub returns-in-Some-clause-found : goal.returns-in-Some-clause-found
returns-in-Some-clause-found g c =
    let f = c.read_piece-piece.ensures in
    holds_at f (omega (arith, f.start, c.last_piece-number.ensures.around.not_before))
    c.in-Some.ensures.found
