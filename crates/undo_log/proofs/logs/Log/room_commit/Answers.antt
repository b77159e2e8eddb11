-- Room for the patch, and for the one that undoes it.
use Rattle.std.specs.Prelude.{vec_len}
use Rattle.std.specs.Vec.{vec_capacity}
use Rattle.undo_log.proofs.RoomLemmas.{made_commit, room_one}
use Rattle.undo_log.proofs.logs.Log.room_commit.Goals as goal

pub returns-in-Ok-clause-room : goal.returns-in-Ok-clause-room
returns-in-Ok-clause-room c =
    made_commit c.reserve.result c.args.patch.now _ c.room.new.self c.in-Ok.ensures.room
    (room_one c.reserve.result (vec_len c.reserve.new.self) (vec_capacity c.reserve.new.self)
    c.reserve.ensures.ok)
