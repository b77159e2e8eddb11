-- The items after an item in its own piece, and the pieces after that.
use Rattle.std.proofs.Common.{◌+◌}
use Rattle.otio_model.proofs.BesideLemmas.{all_dropped, all_taken, kept_back}
use Rattle.otio_model.proofs.beside.kept_after.Goals as goal

pub kept_pieces-requires : goal.kept_pieces-requires
kept_pieces-requires c =
    record {
      pieces = all_taken _ _ (all_dropped (c.args.number + 1) c.args.pieces.now c.requires.pieces);
    }

pub returns : goal.returns
returns c =
    kept_back c.index-pieces-number.result c.requires.spot c.deref.ensures.value
    c.kept_items-own.ensures c.kept_pieces.ensures c.join.ensures
