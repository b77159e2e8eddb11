-- One more piece is numbered.
use Rattle.std.proofs.Common.{arith, ◌+◌, ◌≡◌, ap, sym, ◌∙◌, length, subst, refl, take}
use Rattle.otio_model.specs.declared.piece_numbers.PieceStart.{PieceStart}
use Rattle.otio_model.specs.Pieces.{AreNumbered, ArePieces, all_items, front, numbered_to}
use Rattle.otio_model.specs.Pieces.{start_past}
use Rattle.otio_model.proofs.Windows.{taken_short}
use Rattle.otio_model.proofs.PieceNumbers.{are_numbered, numbered_items, numbered_next, numbered_pieces}
use Rattle.otio_model.proofs.PieceNumbers.{numbered_read, past_items}
use Rattle.otio_model.proofs.piece_numbers.number.Goals as goal

pub next_start-before-requires : goal.next_start-before-requires
next_start-before-requires c =
    let ps = c.args.pieces.now.items in
    let r = numbered_read ps c.pieces.pieces.items c.pieces.index c.index_mut-piece.result.now
    (omega (arith, c.pieces-test.true, c.len-index-end.ensures, c.args.pieces.now.ok))
    c.pieces.invariant.pieces c.index_mut-piece.ensures.value in
    omega (
      arith,
      r.more,
      taken_short ps (c.pieces.index + 1),
      c.requires.few,
      ap (λ (s : PieceStart). s.items) c.pieces.invariant.before,
      past_items (take c.pieces.index ps) front,
    )

pub pieces-preserved : goal.pieces-preserved
pieces-preserved c =
    let ps = c.args.pieces.now.items in
    let r = numbered_read ps c.pieces.pieces.items c.pieces.index c.index_mut-piece.result.now
    (omega (arith, c.pieces-test.true, c.len-index-end.ensures, c.args.pieces.now.ok))
    c.pieces.invariant.pieces c.index_mut-piece.ensures.value in
    record {
      pieces = numbered_next ps c.pieces.pieces.items c.pieces.index c.pieces.before
          c.index_mut-piece.result.now
          (record c.index_mut-piece.result.now { start = c.pieces.before })
          r.there c.pieces.invariant.pieces c.index_mut-piece.ensures.value
          c.pieces.invariant.before refl;
      before = c.next_start-before.ensures
          ∙ ap (λ s. start_past s c.index_mut-piece.result.now) c.pieces.invariant.before ∙ sym r.past;
    }

pub returns : goal.returns
returns c =
    let ps = c.args.pieces.now.items in
    let n : c.pieces.index ≡ length ps =
    omega (
      arith,
      c.pieces-test.false,
      c.pieces.auto.index-end,
      c.len-index-end.ensures,
      c.args.pieces.now.ok,
    ) in
    let all : c.pieces.pieces.items ≡ numbered_to (length ps) front ps = c.pieces.invariant.pieces
    ∙ ap (λ k. numbered_to k front ps) n in
    record {
      items = ap all_items all ∙ numbered_items ps (length ps) front;
      pieces = λ a. subst ArePieces (sym all) (numbered_pieces ps (length ps) front a);
      numbered = subst (AreNumbered front) (sym all) (are_numbered ps front);
    }
