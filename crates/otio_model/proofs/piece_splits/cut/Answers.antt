-- One more piece is made, of the last items.
use Rattle.std.proofs.Common.{arith, ◌≡◌, ◌+◌, ◌∙◌, ap, sym, length, vec_len, inl, inr}
use Rattle.std.proofs.Common.{Vec, Global}
use Rattle.otio_model.specs.declared.compositions.ItemOf.{ItemOf}
use Rattle.otio_model.specs.declared.compositions.Listed.{Listed}
use Rattle.otio_model.specs.Kept.{kept_of}
use Rattle.otio_model.specs.Pieces.{IsPiece}
use Rattle.otio_model.proofs.Cuts.{all_next, enough_after, fresh_last, full_next}
use Rattle.otio_model.proofs.Cuts.{items_next, rest_after}
use Rattle.otio_model.proofs.piece_splits.cut.Goals as goal

pub move_tail-requires-clause-empty : goal.move_tail-requires-clause-empty
move_tail-requires-clause-empty c =
    (fresh_last _ _ _ c.in-Some.ensures.items c.cuts.invariant.fresh).0.empty

pub move_tail-requires-clause-room : goal.move_tail-requires-clause-room
move_tail-requires-clause-room c =
    let f = (fresh_last _ _ _ c.in-Some.ensures.items c.cuts.invariant.fresh).0 in
    omega (
      arith,
      f.room,
      c.piece_size.ensures.most,
      c.piece_size.ensures.there,
      c.len-in-cuts.ensures,
      c.len-in-cuts-2.ensures,
    )

pub cuts-preserved : goal.cuts-preserved
cuts-preserved c =
    let f = fresh_last _ _ _ c.in-Some.ensures.items c.cuts.invariant.fresh in
    let p = c.mend.new.self in
    let same : p.items.items ≡ c.move_tail.new.to.items =
    ap (λ (x : Vec (ItemOf Listed) Global). x.items) c.mend.ensures.items in
    let all : c.len-in-cuts-2.result ≡ vec_len c.cuts.mid = c.len-in-cuts-2.ensures in
    let left : vec_len c.move_tail.new.from + c.piece_size.result ≡ vec_len c.cuts.mid =
    omega (
      arith,
      c.move_tail.ensures.left,
      c.piece_size.ensures.there,
      c.len-in-cuts.ensures,
      all,
    ) in
    let long : length p.items.items ≡ c.piece_size.result =
    omega (
      arith,
      ap length same,
      c.move_tail.new.to.ok,
      c.move_tail.ensures.long,
      c.move_tail.ensures.left,
      left,
    ) in
    let pushed = c.push_in_room.ensures.items in
    let is : IsPiece p = record {
      keeps = c.mend.ensures.keeps ∙ ap (λ l. kept_of l) (sym same);
      some = omega (
        arith,
        long,
        c.piece_size.ensures.least,
        c.cuts-test.true,
        all,
        c.len.ensures,
      );
      small = omega (arith, long, c.piece_size.ensures.most);
    } in
    record {
      items = items_next _ _ _ _ _ _ p _ c.cuts.invariant.items c.move_tail.ensures.kept
          c.move_tail.ensures.moved same pushed;
      all = all_next _ _ p pushed c.cuts.invariant.all is;
      full = λ h. full_next _ _ p pushed (c.cuts.invariant.full h)
          (elim (c.cuts.invariant.rest h) [
            | inl e ↦ absurd (omega (arith, e, c.cuts-test.true, c.len.ensures))
            | inr e ↦ omega (arith, e, long, c.piece_size.ensures.full, all)
          ]);
      rest = λ h. rest_after (vec_len c.cuts.mid) c.piece_size.result
          (vec_len c.move_tail.new.from) left (c.cuts.invariant.rest h)
          (λ a b. omega (
            arith,
            all,
            c.piece_size.ensures.rest (omega (arith, all)) (omega (arith, all)),
          ));
      few = λ h. elim (c.cuts.invariant.few h) [
        | inl e ↦ inr (
          omega (
            arith,
            e.0,
            h,
            left,
            c.piece_size.ensures.last (omega (arith, e.0, h, all)),
            all,
          ),
          omega (arith, e.1, c.push_in_room.ensures.len),
        )
        | inr e ↦ absurd (omega (arith, e.0, c.cuts-test.true, c.len.ensures))
      ];
      fresh = f.1;
      enough = enough_after (vec_len c.cuts.mid) c.piece_size.result
          (vec_len c.move_tail.new.from) (vec_len c.pop.new.self) left
          (omega (arith, c.cuts.invariant.enough, c.in-Some.ensures.len))
          (λ a. c.piece_size.ensures.last (omega (arith, a, all)) ∙ all)
          (λ a. c.piece_size.ensures.full (omega (arith, a, all)));
      room = omega (
        arith,
        c.cuts.invariant.room,
        c.push_in_room.ensures.len,
        c.in-Some.ensures.len,
        c.push_in_room.ensures.capacity,
      );
      used = omega (arith, c.cuts.invariant.used, c.push_in_room.ensures.len, c.in-Some.ensures.len);
      grown = omega (arith, c.cuts.invariant.grown, c.push_in_room.ensures.capacity);
    }
