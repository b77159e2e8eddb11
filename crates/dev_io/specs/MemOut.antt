-- What is known of a stream into memory.
use Rattle.std.specs.Prelude.{ℕ, ◌-◌, List, Some, None, length, string_bytes, if◌then◌else◌}
use Rattle.dev_io.specs.Known.{KnownOut}
use Rattle.dev_io.specs.Timetable.{Timetable, timetable_of}
use Rattle.dev_io.specs.declared.mem_out.MemOut.{MemOut}

abbrev pub out_known : MemOut → KnownOut
out_known s = record {
  target = (if s.aimed then Some (string_bytes s.name) else None);
  sent = s.sent.items;
}

-- which calls fail, how many bytes a write takes at most, and how many calls have failed
abbrev pub out_timetable : MemOut → Timetable
out_timetable s = timetable_of s.schedule

-- the numbers of the calls that fail
abbrev pub listed : MemOut → List ℕ
listed s = (out_timetable s).failing

-- the number of the next call, which stands at the end of its type
abbrev pub next_call : MemOut → ℕ
next_call s = (out_timetable s).next_call

-- how many bytes it has room for altogether
abbrev pub room_of : MemOut → ℕ
room_of s = s.room

-- how many more bytes it has room for
abbrev pub room_left : MemOut → ℕ
room_left s = room_of s - length (out_known s).sent
