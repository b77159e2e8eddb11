-- The items of one more piece move.
use Rattle.std.proofs.Common.{arith, ◌≡◌, ◌+◌, ◌++◌, ◌∙◌, ap, length, sym}
use Rattle.std.proofs.lemmas.List.{drop-set-lt, take-set-le}
use Rattle.otio_model.proofs.Windows.{drop_one_more, one_more_poured}
use Rattle.otio_model.proofs.piece_splits.pour.Goals as goal

pub unwrap-requires : goal.unwrap-requires
unwrap-requires c =
    let i = c.pieces.invariant in
    let m = one_more_poured c.args.pieces.now.items c.pieces.pieces.items c.args.first
    c.pieces.number c.args.end c.index_mut.result.now i.order c.pieces-test.true
    (omega (arith, c.requires.within, c.args.pieces.now.ok)) i.back c.index_mut.ensures.value in
    c.append.ensures.succeeds
    (omega (
      arith,
      m.short,
      c.requires.room,
      i.room,
      ap length i.items,
      c.pieces.mid.ok,
      c.index_mut.result.now.items.ok,
    ))

pub pieces-preserved : goal.pieces-preserved
pieces-preserved c =
    let i = c.pieces.invariant in
    let m = one_more_poured c.args.pieces.now.items c.pieces.pieces.items c.args.first
    c.pieces.number c.args.end c.index_mut.result.now i.order c.pieces-test.true
    (omega (arith, c.requires.within, c.args.pieces.now.ok)) i.back c.index_mut.ensures.value in
    let moved : c.append.new.self.items ≡ c.pieces.mid.items ++ c.index_mut.result.now.items.items =
    grind (arith, c.append.ensures.items, c.unwrap.ensures) in
    record {
      order = omega (arith, i.order);
      items = moved ∙ ap (λ l. l ++ c.index_mut.result.now.items.items) i.items ∙ sym m.items;
      front = take-set-le c.args.first c.pieces.pieces.items c.pieces.number _ i.order ∙ i.front;
      back = drop-set-lt (c.pieces.number + 1) c.pieces.pieces.items c.pieces.number _
          (omega arith) ∙ drop_one_more _ _ c.pieces.number i.back;
      len = i.len;
      capacity = i.capacity;
      room = omega (arith, i.room, c.append.ensures.capacity);
    }
