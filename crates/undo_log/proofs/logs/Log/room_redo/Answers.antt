-- Room for the last patch, and for the one that undoes it.
use Rattle.std.proofs.Common.{ap, sym, ◌∙◌, length, ◌-◌}
use Rattle.std.specs.Prelude.{slice_get, vec_len}
use Rattle.std.specs.Vec.{vec_capacity}
use Rattle.undo_log.specs.Histories.{History}
use Rattle.undo_log.proofs.RoomLemmas.{made_redo, none_redo, none_last, room_one, some_last}
use Rattle.undo_log.proofs.logs.Log.room_redo.Goals as goal

pub returns-in_default-clause-room : goal.returns-in_default-clause-room
returns-in_default-clause-room c =
    none_redo c.args.self.now c.args.timeline.now
    (ap (λ (h : History). h.future) (sym c.self.view_is)
    ∙ none_last c.self.inside.future.items (c.in_default.ensures.value
    ∙ ap (λ l. slice_get l (length l - 1)) c.deref.ensures.value))

pub returns-in-Ok-clause-room : goal.returns-in-Ok-clause-room
returns-in-Ok-clause-room c =
    let first = some_last c.in-Some.patch.now c.self.inside.future.items (c.in-Some.ensures.value
    ∙ ap (λ l. slice_get l (length l - 1)) c.deref.ensures.value) in
    made_redo c.reserve.result c.in-Some.patch.now first.rest _ c.room.new.self first.is
    c.in-Ok.ensures.room (room_one c.reserve.result (vec_len c.reserve.new.self)
    (vec_capacity c.reserve.new.self) c.reserve.ensures.ok)
