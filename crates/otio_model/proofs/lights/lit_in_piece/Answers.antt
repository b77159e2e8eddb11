-- A piece in which nothing is lit, or nothing is longer.
use Rattle.otio_model.proofs.LightLemmas.{piece_short, piece_unlit}
use Rattle.otio_model.proofs.lights.lit_in_piece.Goals as goal

pub returns-then-not-piece-clause-none : goal.returns-then-not-piece-clause-none
returns-then-not-piece-clause-none c =
    piece_unlit c.args.piece.now c.args.end c.args.at c.requires.piece c.if-not-piece.true

pub returns-then-piece-at-clause-none : goal.returns-then-piece-at-clause-none
returns-then-piece-at-clause-none c =
    piece_short c.args.piece.now c.args.end c.args.at c.requires.piece c.requires.short
    c.if-piece-at.true
