-- What is known of the devices in memory.
use Rattle.std.specs.Prelude.{ℕ, List, [], drop, position, Some, None, slice_get, string_bytes}
use Rattle.std.specs.declared.option.Option.{Option}
use Rattle.std.specs.Option.{option_map, option_map_or}
use Rattle.std.specs.Str.{bytes_eq}
use Rattle.dev_io.specs.Known.{KnownFiles, LastFailure, NoFailure, OpenHeld, OpenMissing, ReadOf}
use Rattle.dev_io.specs.declared.mem_files.MemFile.{MemFile}
use Rattle.dev_io.specs.declared.mem_files.Last.{Last}
use Rattle.dev_io.specs.declared.mem_files.Last.TheVariants.{Never, Open, Missing, Read}

abbrev pub name_at : List MemFile → ℕ → List ℕ
name_at files i = option_map_or (λ f. string_bytes f.name) (slice_get files i) []

abbrev pub bytes_at : List MemFile → ℕ → List ℕ
bytes_at files i = option_map_or (λ f. f.bytes.items) (slice_get files i) []

-- the first file of that name
abbrev pub index_of : List MemFile → List ℕ → Option ℕ
index_of files name = position (λ f. bytes_eq (string_bytes f.name) name) files

abbrev pub held_by : List MemFile → List ℕ → Option (List ℕ)
held_by files name = option_map (bytes_at files) (index_of files name)

-- the file of a number, from an offset on
abbrev pub hand_of : List MemFile → Option (ℕ × ℕ) → Option (List ℕ × List ℕ)
hand_of files at = option_map (λ a. (name_at files a.0, drop a.1 (bytes_at files a.0))) at

abbrev pub last_of : List MemFile → Last → LastFailure
last_of files Never = NoFailure
last_of files (Open i) = OpenHeld (name_at files i)
last_of files Missing = OpenMissing
last_of files (Read i offset) = ReadOf (name_at files i) (drop offset (bytes_at files i))

-- how opening is kept where it fails, by the number of the file that was found
abbrev pub opened_last : Option ℕ → Last
opened_last None = Missing
opened_last (Some i) = Open i

-- how reading is kept where it fails, by the file in hand
abbrev pub read_last : Option (ℕ × ℕ) → Last
read_last None = Missing
read_last (Some at) = Read at.0 at.1

abbrev pub files_known : List MemFile → Option (ℕ × ℕ) → Last → KnownFiles
files_known files at last = record {
  held = held_by files;
  hand = hand_of files at;
  last = last_of files last;
}
