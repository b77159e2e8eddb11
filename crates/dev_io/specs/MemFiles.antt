-- What is known of files in memory.
use Rattle.std.specs.Prelude.{ℕ, List, []}
use Rattle.std.specs.Option.{option_map_or}
use Rattle.dev_io.specs.Known.{KnownFiles}
use Rattle.dev_io.specs.Handed.{Handed}
use Rattle.dev_io.specs.Memory.{files_known}
use Rattle.dev_io.specs.Timetable.{Timetable, timetable_of}
use Rattle.dev_io.specs.declared.mem_files.MemFiles.{MemFiles}

abbrev pub known_of : MemFiles → KnownFiles
known_of s = files_known s.files.items s.hand s.last

-- which calls fail, how many bytes a read gives at most, and how many calls have failed
abbrev pub files_timetable : MemFiles → Timetable
files_timetable s = timetable_of s.schedule

-- what each call gave so far, in their order
abbrev pub calls_of : MemFiles → List Handed
calls_of s = s.kept.past.handed

-- what is left of the file in hand, and nothing where none is
abbrev pub left_of : KnownFiles → List ℕ
left_of k = option_map_or (λ hand. hand.1) k.hand []
