use Rattle.std.proofs.Common.{arith, ◌-◌, ◌∙◌, ap, length}
use Rattle.otio_model.proofs.Windows.{few, items_after, length_replaced, pieces_after, poured}
use Rattle.otio_model.proofs.Windows.{taken_after, works}
use Rattle.otio_model.proofs.RoomLemmas.{has_room}
use Rattle.otio_model.specs.Edits.{replaced}
use Rattle.otio_model.proofs.piece_splits.replace_pieces.Goals as goal

pub pour-requires-clause-room : goal.pour-requires-clause-room
pour-requires-clause-room c =
    let room = has_room c.spare.inside _ _ _ _ c.spare.view_is c.requires.room in
    omega (
      arith,
      room.mid,
      poured c.args.pieces.now.items c.as_slice.result.now c.args.stretch.at c.args.stretch.count c.len.result
          c.window-first.result.0 c.window-first.result.1 c.window-first.result.2
          c.as_slice.ensures.value c.window-first.ensures,
    )

pub replace-requires-clause-there : goal.replace-requires-clause-there
replace-requires-clause-there c =
    let w = works c.args.list.now c.as_slice.ensures.value c.len.ensures c.window-first.ensures
    c.pour.ensures.items in
    omega (arith, w.there, c.pour.new.mid.ok)

pub replace-requires-clause-room : goal.replace-requires-clause-room
replace-requires-clause-room c =
    let room = has_room c.spare.inside _ _ _ _ c.spare.view_is c.requires.room in
    let w = works c.args.list.now c.as_slice.ensures.value c.len.ensures c.window-first.ensures
    c.pour.ensures.items in
    omega (arith, w.short, room.mid, c.pour.ensures.room, c.pour.new.mid.ok)

pub cut-requires-clause-enough : goal.cut-requires-clause-enough
cut-requires-clause-enough c =
    let room = has_room c.spare.inside _ _ _ _ c.spare.view_is c.requires.room in
    let w = works c.args.list.now c.as_slice.ensures.value c.len.ensures c.window-first.ensures
    c.pour.ensures.items in
    omega (
      arith,
      w.short,
      room.fresh,
      ap length c.replace.ensures.items,
      length_replaced (c.args.stretch.at - c.window-first.result.2)
          c.args.stretch.count c.args.list.now.items c.pour.new.mid.items w.there,
      c.replace.new.items.ok,
      c.args.list.now.ok,
    )

pub with_room-requires-clause-room : goal.with_room-requires-clause-room
with_room-requires-clause-room c =
    let room = has_room c.spare.inside _ _ _ _ c.spare.view_is c.requires.room in
    omega (
      arith,
      few c.args.pieces.now.items c.requires.pieces,
      c.args.pieces.now.ok,
      c.pour.ensures.len,
      room.outer,
      c.cut.ensures.used,
      c.len-2.ensures,
    )

pub returns-clause-items : goal.returns-clause-items
returns-clause-items c =
    let w = works c.args.list.now c.as_slice.ensures.value c.len.ensures c.window-first.ensures
    c.pour.ensures.items in
    items_after c.args.pieces.now.items c.pour.new.pieces.items c.cut.new.made.items
    c.replace-2.new.items.items c.pour.new.mid.items c.args.list.now.items
    c.replace.new.items.items c.args.stretch.at c.args.stretch.count (length c.args.list.now.items)
    c.window-first.result.0 c.window-first.result.1 c.window-first.result.2 w
    (record { front = c.pour.ensures.front; back = c.pour.ensures.back })
    c.replace.ensures.items c.cut.ensures.cut (c.replace-2.ensures.items
    ∙ ap (replaced c.window-first.result.0 (c.window-first.result.1 - c.window-first.result.0)
    c.cut.new.made.items) c.with_room.ensures.items)

pub returns-clause-pieces : goal.returns-clause-pieces
returns-clause-pieces c =
    let w = works c.args.list.now c.as_slice.ensures.value c.len.ensures c.window-first.ensures
    c.pour.ensures.items in
    pieces_after c.args.pieces.now.items c.pour.new.pieces.items c.cut.new.made.items
    c.replace-2.new.items.items c.pour.new.mid.items c.args.list.now.items
    c.replace.new.items.items c.args.stretch.at c.args.stretch.count
    c.window-first.result.0 c.window-first.result.1 c.window-first.result.2 w c.requires.pieces
    (record { front = c.pour.ensures.front; back = c.pour.ensures.back })
    c.replace.ensures.items c.cut.ensures.cut (c.replace-2.ensures.items
    ∙ ap (replaced c.window-first.result.0 (c.window-first.result.1 - c.window-first.result.0)
    c.cut.new.made.items) c.with_room.ensures.items)

pub returns-clause-taken : goal.returns-clause-taken
returns-clause-taken c =
    let w = works c.args.list.now c.as_slice.ensures.value c.len.ensures c.window-first.ensures
    c.pour.ensures.items in
    let taken = taken_after c.args.pieces.now.items c.pour.new.mid.items c.replace.new.taken.items
    c.args.stretch.at c.args.stretch.count (length c.args.list.now.items)
    c.window-first.result.0 c.window-first.result.1 c.window-first.result.2 w
    c.replace.ensures.taken in
    rw c.swap.ensures.x_after taken
