-- Else the list is turned, cut, lengthened and turned back.
use Rattle.std.proofs.Common.{arith, ◌∙◌, ◌+◌, ◌-◌}
use Rattle.otio_model.proofs.TurnedLists.{Parts, parts, cut_off, turned_back}
use Rattle.otio_model.proofs.vec_moves.replace.Goals as goal

pub returns-clause-items : goal.returns-clause-items
returns-clause-items g c =
    let behind = c.len-2.result - (c.args.at + c.args.count) in
    let p : Parts c.args.at c.args.count behind c.args.items.now.items c.rotate_left.new.self.items
    = parts _ _ _ _ _ (omega arith) c.rotate_left.ensures.items in
    c.rotate_left-2.ensures.items
    ∙ turned_back c.args.at c.args.count behind c.args.items.now.items
    c.rotate_left.new.self.items c.args.put.now.items c.move_tail.new.from.items
    c.append-2.new.self.items p c.move_tail.ensures.kept
    (grind (arith, c.append-2.ensures.items, c.append-2.ensures.succeeds))

pub returns-clause-taken : goal.returns-clause-taken
returns-clause-taken g c =
    let behind = c.len-2.result - (c.args.at + c.args.count) in
    let p : Parts c.args.at c.args.count behind c.args.items.now.items c.rotate_left.new.self.items
    = parts _ _ _ _ _ (omega arith) c.rotate_left.ensures.items in
    c.move_tail.ensures.moved
    ∙ cut_off c.args.at c.args.count behind c.args.items.now.items c.rotate_left.new.self.items
    p
