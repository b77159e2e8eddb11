-- A piece without transitions has none.
use Rattle.otio_model.proofs.NextLemmas.{none_kept}
use Rattle.otio_model.proofs.transitions.next_in_piece.Goals as goal

pub returns-then-piece-eq0-clause-none : goal.returns-then-piece-eq0-clause-none
returns-then-piece-eq0-clause-none c =
    none_kept c.args.piece.now c.args.from c.requires.piece c.if-piece-eq0.true
