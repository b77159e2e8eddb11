-- The pieces before an item's own, and the items before it there.
use Rattle.otio_model.proofs.BesideLemmas.{all_taken, kept_front}
use Rattle.otio_model.proofs.beside.kept_before.Goals as goal

pub kept_pieces-requires : goal.kept_pieces-requires
kept_pieces-requires c =
    record { pieces = all_taken c.args.number c.args.pieces.now c.requires.pieces }

pub returns : goal.returns
returns c =
    kept_front c.index-pieces-number.result c.requires.spot c.deref.ensures.value c.kept_pieces.ensures
    c.kept_items-own.ensures c.join.ensures
