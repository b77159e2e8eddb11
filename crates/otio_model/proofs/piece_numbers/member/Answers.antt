-- The item at the spot is that of the number.
use Rattle.std.proofs.Common.{ap, sym, ◌∙◌, get_or}
use Rattle.otio_model.specs.declared.lists.Piece.{Piece}
use Rattle.otio_model.proofs.Spots.{spot_get}
use Rattle.otio_model.proofs.piece_numbers.member.Goals as goal

pub returns : goal.returns
returns c =
    sym (spot_get c.args.pieces.now c.args.index c.locate-number.result.0 c.locate-number.result.1
    c.index-pieces-number.result c.index.result.now c.locate-number.ensures
    c.index-pieces-number.is (c.index.ensures
    ∙ ap (λ (q : Piece). get_or q.items.items c.locate-number.result.1 c.index.result.now)
    (sym c.index-pieces-number.is)))
