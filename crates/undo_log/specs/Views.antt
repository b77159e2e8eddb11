-- A log's vectors as its history.
use Rattle.std.specs.Prelude.{◌-◌, reverse, vec_len}
use Rattle.std.specs.Vec.{vec_capacity}
use Rattle.undo_log.specs.declared.logs.Log.TheInside.{Inside}
use Rattle.undo_log.specs.Histories.{History}

abbrev pub history_of : Inside → History
history_of l = record {
  past = reverse l.past.items;
  future = reverse l.future.items;
  past_room = vec_capacity l.past - vec_len l.past;
  future_room = vec_capacity l.future - vec_len l.future;
}
