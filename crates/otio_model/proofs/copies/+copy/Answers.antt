use Rattle.std.proofs.Common.{arith, ap, sym, length, ◌∙◌, subst}
use Rattle.otio_model.specs.Kept.{kept_of}
use Rattle.otio_model.specs.Trees.{listed}
use Rattle.otio_model.proofs.KeptLemmas.{taken_all}
use Rattle.otio_model.proofs.CopyLemmas.{AreCopies, copies_more, copies_are, copies_items}
use Rattle.otio_model.proofs.CopyLemmas.{copies_numbered}
use Rattle.otio_model.proofs.copies.+copy.Goals as goal

pub copy_children-pieces-preserved : goal.copy_children-pieces-preserved
copy_children-pieces-preserved t c = record {
  copies = copies_more _ _ c.deref-piece-items.result.now c.pieces.piece-index c.in_ok-copy.copy
      c.piece-item.result c.in_ok-push.ensures.items (omega arith)
      c.piece-item.is c.pieces.invariant.copies c.in_ok-copy.ensures.items c.in_ok-copy.ensures.kept
      c.in_ok-copy.ensures.start;
}

pub copy_children-invariant_of-result : goal.copy_children-invariant_of-result
copy_children-invariant_of-result t c =
    let same = taken_all c.deref-piece-items.result.now c.pieces.piece-index (omega arith)
    ∙ c.deref-piece-items.ensures.value in
    let v = c.children.invariant in
    let s = subst (AreCopies c.pieces.copies.items) same c.pieces.invariant.copies in
    record {
      pieces = copies_are _ _ s v.pieces;
      numbered = copies_numbered _ _ _ s v.numbered;
      counted = v.counted ∙ ap length (sym (copies_items _ _ s));
      keeps = c.in_ok-new.ensures.ok ∙ c.deref.ensures ∙ v.keeps
          ∙ ap kept_of (sym (copies_items _ _ s));
    }

pub copy_children-returns : goal.copy_children-returns
copy_children-returns t c =
    let same = taken_all c.deref-piece-items.result.now c.pieces.piece-index (omega arith)
    ∙ c.deref-piece-items.ensures.value in
    ap listed (copies_items _ _
    (subst (AreCopies c.pieces.copies.items) same c.pieces.invariant.copies))
    ∙ c.children.view_is
