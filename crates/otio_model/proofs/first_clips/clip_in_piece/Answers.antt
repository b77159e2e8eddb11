-- A piece without clips has none.
use Rattle.otio_model.proofs.LightLemmas.{piece_no_clip}
use Rattle.otio_model.proofs.first_clips.clip_in_piece.Goals as goal

pub returns-then-not-piece-clause-none : goal.returns-then-not-piece-clause-none
returns-then-not-piece-clause-none c =
    piece_no_clip c.args.piece.now c.requires.piece c.if-not-piece.true
