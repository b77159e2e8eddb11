use Rattle.std.proofs.Common.{arith, ◌≡◌, ◌+◌, ◌++◌, ap, length, sym, ◌∙◌, append_assoc, length-append, vec_len}
use Rattle.std.specs.Prelude.{reverse}
use Rattle.std.proofs.lemmas.List.{append-nil, reverse-reverse}
use Rattle.otio_model.specs.Pieces.{all_items}
use Rattle.otio_model.proofs.Moving.{none_left, turned_next}
use Rattle.otio_model.proofs.piece_splits.pour_all.Goals as goal

pub left-init : goal.left-init
left-init c =
    let turned : reverse c.reverse.new.self.items ≡ c.args.pieces.items =
    ap reverse c.reverse.ensures.items ∙ reverse-reverse c.args.pieces.items in
    record {
      items = ap (λ l. c.args.all.now.items ++ all_items l) turned;
      room = omega (arith, c.requires.room, ap (λ l. length (all_items l)) turned);
    }

pub unwrap-requires : goal.unwrap-requires
unwrap-requires c =
    let rest = all_items (reverse c.pop.new.self.items) in
    let next = turned_next c.left.left.items c.pop.new.self.items c.in-Some.piece
    c.in-Some.ensures.items in
    c.append.ensures.succeeds
    (omega (
      arith,
      c.left.invariant.room,
      ap length next,
      length-append c.in-Some.piece.items.items rest,
      c.in-Some.piece.items.ok.0,
    ))

pub left-preserved : goal.left-preserved
left-preserved c =
    let all = c.left.all.items in
    let moving = c.in-Some.piece.items.items in
    let rest = all_items (reverse c.pop.new.self.items) in
    let next = turned_next c.left.left.items c.pop.new.self.items c.in-Some.piece
    c.in-Some.ensures.items in
    let moved : c.append.new.self.items ≡ all ++ moving =
    grind (arith, c.append.ensures.items, c.unwrap.ensures) in
    let long : vec_len c.append.new.self ≡ vec_len c.left.all + vec_len c.in-Some.piece.items =
    grind (arith, c.append.ensures.len, c.unwrap.ensures) in
    record {
      items = ap (λ l. l ++ rest) moved ∙ append_assoc all moving rest
          ∙ ap (λ l. all ++ l) (sym next) ∙ c.left.invariant.items;
      room = omega (
        arith,
        c.left.invariant.room,
        ap length next,
        length-append moving rest,
        long,
        c.in-Some.piece.items.ok.0,
        c.append.ensures.capacity,
      );
    }

pub returns : goal.returns
returns c =
    let none = none_left c.left.left.items
    (omega (arith, c.in_default.ensures.cases.0, c.left.left.ok.0)) in
    sym (append-nil c.left.all.items)
    ∙ ap (λ l. c.left.all.items ++ all_items (reverse l)) (sym none) ∙ c.left.invariant.items
