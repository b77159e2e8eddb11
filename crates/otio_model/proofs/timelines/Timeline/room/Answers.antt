-- The room that was made is the room that the patch needs.
use Rattle.std.proofs.Common.{Ok}
use Rattle.otio_model.proofs.RoomLemmas.{items_room, ranges_room, room_made}
use Rattle.otio_model.proofs.timelines.Timeline.room.Goals as goal

pub returns-in-Items-clause-room : goal.returns-in-Items-clause-room
returns-in-Items-clause-room c =
    room_made c.make.result c.args.patch.now (record c.args.self.now { spare = c.make.new.self })
    c.in-Some.children.now c.as_slice.result.now c.len-long.result c.as_slice.ensures
    c.in-Some.ensures c.len-long.ensures
    (items_room c.make.result c.args.patch.now.put c.in-Items.count c.len-long.result c.len.result
    c.in-Items.items c.make.new.self c.in-Items.is c.len.ensures c.make.ensures)

pub returns-in-Ranges-clause-room : goal.returns-in-Ranges-clause-room
returns-in-Ranges-clause-room c =
    room_made (Ok tt) c.args.patch.now c.args.self.now c.in-Some.children.now
    c.as_slice.result.now c.len-long.result c.as_slice.ensures c.in-Some.ensures
    c.len-long.ensures
    (ranges_room c.args.patch.now.put c.len-long.result c.in-Ranges.field-0 c.args.self.now.spare
    c.in-Ranges.is)
