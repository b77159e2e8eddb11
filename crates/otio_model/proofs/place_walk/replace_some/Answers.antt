-- The pieces are counted and summed again.
use Rattle.std.proofs.Common.{arith, ap, sym, ◌∙◌, length, subst}
use Rattle.otio_model.specs.Trees.{listed}
use Rattle.otio_model.specs.Edits.{replaced}
use Rattle.otio_model.specs.Kept.{kept_of}
use Rattle.otio_model.specs.Pieces.{AllPieces, all_items}
use Rattle.otio_model.specs.PutItems.{items_held}
use Rattle.otio_model.proofs.Views.{shown}
use Rattle.otio_model.proofs.Windows.{length_replaced}
use Rattle.otio_model.proofs.place_walk.replace_some.Goals as goal

pub number-requires : goal.number-requires
number-requires c =
    let xs = all_items c.children.inside.pieces.items in
    let same = shown _ _ c.children.view_is in
    record {
      few = omega (
        arith,
        c.requires.there,
        c.requires.room.suits.fits,
        ap length same,
        length_replaced c.args.stretch.at c.args.stretch.count (items_held c.args.held) xs
            (omega (arith, c.requires.there, ap length same)),
        ap length c.exchange-taken.ensures.items,
      );
    }

pub kept_pieces-requires : goal.kept_pieces-requires
kept_pieces-requires c =
    record {
      pieces = subst AllPieces (sym c.as_slice.ensures.value)
          (c.number.ensures.pieces c.exchange-taken.ensures.pieces).all;
    }

pub invariant_of-children : goal.invariant_of-children
invariant_of-children c =
    let xs = all_items c.children.inside.pieces.items in
    let same = shown _ _ c.children.view_is in
    record {
      pieces = c.number.ensures.pieces c.exchange-taken.ensures.pieces;
      numbered = c.number.ensures.numbered;
      counted = omega (
        arith,
        c.requires.there,
        ap length same,
        length_replaced c.args.stretch.at c.args.stretch.count (items_held c.args.held) xs
            (omega (arith, c.requires.there, ap length same)),
        ap length c.number.ensures.items,
        ap length c.exchange-taken.ensures.items,
        c.children.invariant.counted,
        c.len-put.ensures,
      );
      keeps = c.kept_pieces.ensures
          ∙ ap (λ l. kept_of (all_items l)) c.as_slice.ensures.value;
    }

pub returns-clause-items : goal.returns-clause-items
returns-clause-items c =
    ap listed (c.number.ensures.items ∙ c.exchange-taken.ensures.items
    ∙ ap (replaced c.args.stretch.at c.args.stretch.count (items_held c.args.held))
    (sym (shown _ _ c.children.view_is)))
