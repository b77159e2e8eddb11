-- The pieces are numbered and counted.
use Rattle.std.proofs.Common.{arith, ap, sym, ◌∙◌, length, subst}
use Rattle.otio_model.specs.Kept.{kept_of}
use Rattle.otio_model.specs.Pieces.{AllPieces, all_items}
use Rattle.otio_model.specs.Trees.{listed}
use Rattle.otio_model.proofs.lists.Children.of.Goals as goal

pub kept_pieces-kept-requires : goal.kept_pieces-kept-requires
kept_pieces-kept-requires c =
    record {
      pieces = subst AllPieces (sym c.as_slice.ensures.value)
          (c.number.ensures.pieces c.in_ok-pieces.ensures.pieces).all;
    }

pub invariant_of-result : goal.invariant_of-result
invariant_of-result c = record {
  pieces = c.number.ensures.pieces c.in_ok-pieces.ensures.pieces;
  numbered = c.number.ensures.numbered;
  counted = omega (
    arith,
    c.len-len.ensures,
    c.into_vec-list.result.ok,
    ap length c.number.ensures.items,
    ap length c.in_ok-pieces.ensures.items,
  );
  keeps = c.in_ok-kept.ensures.ok ∙ c.kept_pieces-kept.ensures
      ∙ ap (λ l. kept_of (all_items l)) c.as_slice.ensures.value;
}

pub returns : goal.returns
returns c = ap listed (c.number.ensures.items ∙ c.in_ok-pieces.ensures.items
    ∙ c.into_vec-list.ensures)
