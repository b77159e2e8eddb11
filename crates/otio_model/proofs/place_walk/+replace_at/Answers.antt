use Rattle.std.proofs.Common.{length, arith, refl, sym, ◌∙◌, subst, ap}
use Rattle.otio_model.specs.Edits.{deeper}
use Rattle.otio_model.specs.Kept.{kept_of}
use Rattle.otio_model.specs.Pieces.{AllPieces, all_items}
use Rattle.otio_model.specs.Patches.{put_at}
use Rattle.otio_model.specs.Trees.{listed, items_of}
use Rattle.otio_model.proofs.Ways.{within, inner, outer, passed}
use Rattle.otio_model.proofs.Spots.{spot_set, spot_lent, spot_long, spot_way}
use Rattle.otio_model.proofs.Spots.{mended, pieces_set, children_set}
use Rattle.otio_model.proofs.place_walk.+replace_at.Goals as goal

pub locate-number-requires-clause-there : goal.locate-number-requires-clause-there
locate-number-requires-clause-there t c =
    omega (
      arith,
      within _ _ _ _ _ _ c.children.view_is c.in-Some.ensures.cases.0 c.requires.there,
      ap (λ l. length (all_items l)) c.as_slice.ensures.value,
    )

pub children_mut-requires : goal.children_mut-requires
children_mut-requires t c =
    let w = spot_way c.as_slice.ensures.value c.locate-number.ensures c.index_mut-piece.ensures.value
    c.index_mut-item.ensures.value c.children.view_is c.in-Some.ensures.cases.0 c.requires.there in
    w.has

pub replace_at-old-requires : goal.replace_at-old-requires
replace_at-old-requires t c =
    let w = spot_way c.as_slice.ensures.value c.locate-number.ensures c.index_mut-piece.ensures.value
    c.index_mut-item.ensures.value c.children.view_is c.in-Some.ensures.cases.0 c.requires.there in (
      omega (arith, c.decreases, c.in-Some.ensures.cases.1),
      inner _ w c.children_mut.ensures.value,
    )

pub number-requires : goal.number-requires
number-requires t c =
    let s = spot_lent c.as_slice.ensures.value c.locate-number.ensures in
    let y = deeper (λ _. c.replace_at-old.new.children) c.index_mut-item.result.now in
    let m = mended {q = c.mend.new.self} c.index_mut-piece.result.now c.locate-number.result.1 y
    refl c.mend.ensures.items c.mend.ensures.keeps in
    record {
      few = omega (
        arith,
        c.children.invariant.counted,
        spot_long c.children.inside.pieces.items _ _ _ _ c.mend.new.self y s
            c.index_mut-piece.ensures.value m.same,
      );
    }

pub kept_pieces-requires : goal.kept_pieces-requires
kept_pieces-requires t c =
    let s = spot_lent c.as_slice.ensures.value c.locate-number.ensures in
    let y = deeper (λ _. c.replace_at-old.new.children) c.index_mut-item.result.now in
    let m = mended {q = c.mend.new.self} c.index_mut-piece.result.now c.locate-number.result.1 y
    refl c.mend.ensures.items c.mend.ensures.keeps in
    record {
      pieces = subst AllPieces (sym c.as_slice-2.ensures.value)
          (c.number.ensures.pieces
          (pieces_set c.children.inside.pieces.items _ _ _ _ c.mend.new.self y s
          c.index_mut-piece.ensures.value m.same m.keeps c.children.invariant.pieces)).all;
    }

pub invariant_of-children : goal.invariant_of-children
invariant_of-children t c =
    let s = spot_lent c.as_slice.ensures.value c.locate-number.ensures in
    let y = deeper (λ _. c.replace_at-old.new.children) c.index_mut-item.result.now in
    let m = mended {q = c.mend.new.self} c.index_mut-piece.result.now c.locate-number.result.1 y
    refl c.mend.ensures.items c.mend.ensures.keeps in
    children_set _ _ _ _ _ _ _ c.mend.new.self y _ _ s c.index_mut-piece.ensures.value m.same
    m.keeps c.number.ensures c.children.invariant (c.kept_pieces.ensures
    ∙ ap (λ l. kept_of (all_items l)) c.as_slice-2.ensures.value)

pub returns-clause-items : goal.returns-clause-items
returns-clause-items t c =
    let w = spot_way c.as_slice.ensures.value c.locate-number.ensures c.index_mut-piece.ensures.value
    c.index_mut-item.ensures.value c.children.view_is c.in-Some.ensures.cases.0 c.requires.there in
    let s = spot_lent c.as_slice.ensures.value c.locate-number.ensures in
    let y = deeper (λ _. c.replace_at-old.new.children) c.index_mut-item.result.now in
    let m = mended {q = c.mend.new.self} c.index_mut-piece.result.now c.locate-number.result.1 y
    refl c.mend.ensures.items c.mend.ensures.keeps in
    let set = c.number.ensures.items
    ∙ spot_set _ _ _ _ _ c.mend.new.self y s c.index_mut-piece.ensures.value m.same in
    rw set (outer _ _ (λ l. listed (put_at c.args.at c.args.put (items_of l)))
    w c.children_mut.ensures.value c.replace_at-old.ensures.items)

pub returns-clause-back : goal.returns-clause-back
returns-clause-back t c =
    let w = spot_way c.as_slice.ensures.value c.locate-number.ensures c.index_mut-piece.ensures.value
    c.index_mut-item.ensures.value c.children.view_is c.in-Some.ensures.cases.0 c.requires.there in
    passed _ _ w c.children_mut.ensures.value c.replace_at-old.ensures.back
