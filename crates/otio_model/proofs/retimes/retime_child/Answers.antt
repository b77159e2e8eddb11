-- The child's piece and all pieces are mended.
use Rattle.std.proofs.Common.{◌≡◌, ◌∙◌, Some, ap, arith, length, refl, slice_set, subst, sym}
use Rattle.std.specs.Prelude.{slice_get}
use Rattle.otio_model.specs.Edits.{changed}
use Rattle.otio_model.specs.Kept.{kept_of}
use Rattle.otio_model.specs.Pieces.{AllPieces, all_items}
use Rattle.otio_model.specs.Lengths.{source_of}
use Rattle.otio_model.specs.Retimed.{with_source}
use Rattle.otio_model.specs.Trees.{listed}
use Rattle.otio_model.proofs.Spots.{children_set, mended, pieces_set, spot_get, spot_lent, spot_long}
use Rattle.otio_model.proofs.Spots.{spot_set}
use Rattle.otio_model.proofs.Views.{shown}
use Rattle.otio_model.proofs.Ways.{set_changed}
use Rattle.otio_model.proofs.retimes.retime_child.Goals as goal

pub locate-number-requires-clause-there : goal.locate-number-requires-clause-there
locate-number-requires-clause-there c =
    omega (
      arith,
      c.requires,
      ap length (shown _ _ c.children.view_is),
      ap (λ l. length (all_items l)) c.as_slice.ensures.value,
    )

pub number-requires : goal.number-requires
number-requires c =
    let s = spot_lent c.as_slice.ensures.value c.locate-number.ensures in
    let y = c.exchange_source-old.new.item in
    let m = mended {q = c.mend.new.self} c.index_mut-piece.result.now c.locate-number.result.1 y
    refl c.mend.ensures.items c.mend.ensures.keeps in
    record {
      few = omega (
        arith,
        c.children.invariant.counted,
        spot_long c.children.inside.pieces.items _ _ _ _ c.mend.new.self y s
            c.index_mut-piece.ensures.value m.same,
      );
    }

pub kept_pieces-requires : goal.kept_pieces-requires
kept_pieces-requires c =
    let s = spot_lent c.as_slice.ensures.value c.locate-number.ensures in
    let y = c.exchange_source-old.new.item in
    let m = mended {q = c.mend.new.self} c.index_mut-piece.result.now c.locate-number.result.1 y
    refl c.mend.ensures.items c.mend.ensures.keeps in
    record {
      pieces = subst AllPieces (sym c.as_slice-2.ensures.value)
          (c.number.ensures.pieces
          (pieces_set c.children.inside.pieces.items _ _ _ _ c.mend.new.self y s
          c.index_mut-piece.ensures.value m.same m.keeps c.children.invariant.pieces)).all;
    }

pub invariant_of-children : goal.invariant_of-children
invariant_of-children c =
    let s = spot_lent c.as_slice.ensures.value c.locate-number.ensures in
    let y = c.exchange_source-old.new.item in
    let m = mended {q = c.mend.new.self} c.index_mut-piece.result.now c.locate-number.result.1 y
    refl c.mend.ensures.items c.mend.ensures.keeps in
    children_set _ _ _ _ _ _ _ c.mend.new.self y _ _ s c.index_mut-piece.ensures.value m.same
    m.keeps c.number.ensures c.children.invariant (c.kept_pieces.ensures
    ∙ ap (λ l. kept_of (all_items l)) c.as_slice-2.ensures.value)

pub returns-clause-items : goal.returns-clause-items
returns-clause-items c =
    let s = spot_lent c.as_slice.ensures.value c.locate-number.ensures in
    let xs = all_items c.children.inside.pieces.items in
    let y = c.exchange_source-old.new.item in
    let m = mended {q = c.mend.new.self} c.index_mut-piece.result.now c.locate-number.result.1 y
    refl c.mend.ensures.items c.mend.ensures.keeps in
    let there : slice_get xs c.args.index ≡ Some c.index_mut-item.result.now =
    spot_get _ _ _ _ _ _ s c.index_mut-piece.ensures.value c.index_mut-item.ensures.value in
    ap listed (c.number.ensures.items
    ∙ spot_set _ _ _ _ _ c.mend.new.self y s c.index_mut-piece.ensures.value m.same
    ∙ ap (slice_set xs c.args.index) c.exchange_source-old.ensures.item
    ∙ set_changed (with_source c.args.range) xs c.args.index c.index_mut-item.result.now there
    ∙ ap (changed (with_source c.args.range) c.args.index) (sym (shown _ _ c.children.view_is)))

pub returns-clause-old : goal.returns-clause-old
returns-clause-old c = λ x e.
    let s = spot_lent c.as_slice.ensures.value c.locate-number.ensures in
    let xs = all_items c.children.inside.pieces.items in
    let there : slice_get xs c.args.index ≡ Some c.index_mut-item.result.now =
    spot_get _ _ _ _ _ _ s c.index_mut-piece.ensures.value c.index_mut-item.ensures.value in
    let same : c.index_mut-item.result.now ≡ x =
    let both : Some c.index_mut-item.result.now ≡ Some x =
    sym there ∙ ap (λ l. slice_get l c.args.index) (sym (shown _ _ c.children.view_is)) ∙ e in
    cc both in
    c.exchange_source-old.ensures.old ∙ ap source_of same
