-- What words ask for: a command, the files in the order in which they are read, and the output.
use Rattle.std.specs.Prelude.{◌≡◌, ◌||◌, ℕ, Bool, true, false, cond, List, [], ◌∷◌, ◌++◌, Some, None, bytes_eq, codes, map}
use Rattle.std.specs.declared.option.Option.{Option}
use Rattle.tick_time.specs.declared.rates.Rate.{Rate}
use Rattle.source_files.specs.Reading.{Source, read_as}
use Rattle.source_files.specs.Kinds.{Kind}
use Rattle.source_files.specs.Kinds as kinds
use Rattle.command_words.specs.Asked.{Ask, OtherNames}
use Rattle.command_words.specs.declared.requests.Command.{Command}
use Rattle.command_words.specs.declared.requests.Command.TheVariants.{ListToList, ListToObjects, TimelineToList, ToObjects, ToJson, Frames, ListFrames, Edit, ListEdit}
use Rattle.command_words.specs.declared.requests.Command.TheVariants.{Cat, ListCat, Stat, ListStat, Tool, ListTool, Pull, ListPull, LogToMedia}

pub record Asked : Type 0 where
  pub command : Command
  pub files : List Source
  -- the file that the output goes to; none is the standard output
  pub target : Option (List ℕ)

-- what a list at this rate is read as, with its notes or without
abbrev pub list_kind : Rate → Bool → Kind
list_kind rate notes = cond notes (kinds.NotedList rate) (kinds.List rate)

-- what a command reads its file as; one that takes several reads each by its name
abbrev pub kind_of : Command → Kind
kind_of (ListToList rate drop wide notes) = list_kind rate notes
kind_of (ListToObjects rate older notes) = list_kind rate notes
kind_of (TimelineToList drop wide notes) = kinds.Timeline
kind_of (ToObjects older) = kinds.Object
kind_of ToJson = kinds.Json
kind_of LogToMedia = kinds.Log
kind_of (Frames asked) = kinds.Timeline
kind_of (ListFrames rate asked) = kinds.List rate
kind_of Edit = kinds.Timeline
kind_of (ListEdit rate) = kinds.List rate
kind_of Stat = kinds.Timeline
kind_of (ListStat rate) = kinds.List rate
kind_of (Pull handles) = kinds.Timeline
kind_of (ListPull rate handles) = kinds.List rate
kind_of Cat = kinds.Timeline
kind_of (ListCat rate) = kinds.List rate
kind_of (Tool asked) = kinds.Timeline
kind_of (ListTool rate asked) = kinds.List rate

-- the script of that name, where one is read
abbrev pub script_source : Option (List ℕ) → List Source
script_source None = []
script_source (Some name) = record { name = name; kind = kinds.Script } ∷ []

-- the name ends with these bytes
abbrev pub ends_with : List ℕ → List ℕ → Bool
ends_with end [] = false
ends_with end (byte ∷ name) = bytes_eq (byte ∷ name) end || ends_with end name

-- the name of a log ends with `.ale` or `.ALE`
abbrev pub is_log : List ℕ → Bool
is_log name = ends_with (codes ".ale") name || ends_with (codes ".ALE") name

-- what a media list of that name is read as: a log where the name is that of one
abbrev pub media_kind : List ℕ → Kind
media_kind name = cond (is_log name) kinds.Log kinds.Media

-- the media list of that name, where one is read
abbrev pub media_source : Option (List ℕ) → List Source
media_source None = []
media_source (Some name) = record { name = name; kind = media_kind name } ∷ []

-- the file of that name, with no script after it
abbrev pub one_file : Command → List ℕ → Option (List ℕ) → List Source
one_file command name media = read_as name (kind_of command) ∷ media_source media

-- the file of that name, with this script after it
abbrev pub edit_files : Command → List ℕ → List ℕ → Option (List ℕ) → List Source
edit_files command name script media =
    read_as name (kind_of command) ∷ read_as script kinds.Script ∷ media_source media

-- the files of a command on the file of that name alone, the script after it and then the media
-- list
abbrev pub files_alone : Command → List ℕ → (script media : Option (List ℕ)) → List Source
files_alone command name script media =
    read_as name (kind_of command) ∷ (script_source script ++ media_source media)

-- the name ends with `.edl`
abbrev pub is_list : List ℕ → Bool
is_list [] = false
is_list (byte ∷ name) = bytes_eq (byte ∷ name) (codes ".edl") || is_list name

-- what a command reads a file of that name as: one that takes several reads a list where the name
-- is that of a list
abbrev pub kind_named : Command → List ℕ → Kind
kind_named (ListCat rate) name = cond (is_list name) (kinds.List rate) kinds.Timeline
kind_named (ListTool rate asked) name = cond (is_list name) (kinds.List rate) kinds.Timeline
kind_named command name = kind_of command

abbrev pub input_named : Command → List ℕ → Source
input_named command name = read_as name (kind_named command name)

-- the command takes several files
abbrev pub takes_several : Command → Bool
takes_several Cat = true
takes_several (ListCat rate) = true
takes_several (Tool asked) = true
takes_several (ListTool rate asked) = true
takes_several command = false

-- the command on one file reads a media list where one is named, and judges what it holds
abbrev pub takes_media : Command → Bool
takes_media (ListToObjects rate older notes) = true
takes_media (TimelineToList drop wide notes) = true
takes_media (ListFrames rate asked) = true
takes_media (ListStat rate) = true
takes_media (ListPull rate handles) = true
takes_media command = false

-- the inputs of a command: the file of that name, and those after it where it takes several
abbrev pub inputs : Command → List ℕ → List (List ℕ) → List Source
inputs command name more = input_named command name
    ∷ cond (takes_several command) (map (input_named command) more) []

-- the files of a command on the file of that name and these others, in their order
abbrev pub files_of : Command → List ℕ → OtherNames → List Source
files_of command name others = inputs command name others.more
    ++ (script_source others.script ++ media_source others.media)

-- what is asked for by a command on the file of that name, with these others
abbrev pub asked_for : Command → List ℕ → OtherNames → Option (List ℕ) → Asked
asked_for command name others target =
    record { command = command; files = files_of command name others; target = target }

-- the same of a command on one file that reads no script
abbrev pub asked_work : Command → List ℕ → Option (List ℕ) → Option (List ℕ) → Asked
asked_work command name media target =
    record { command = command; files = one_file command name media; target = target }

-- and of one that edits
abbrev pub asked_edit : Command → List ℕ → List ℕ → Option (List ℕ) → Option (List ℕ) → Asked
asked_edit command name script media target =
    record { command = command; files = edit_files command name script media; target = target }

-- and of either
abbrev pub asked_alone : Command → List ℕ → OtherNames → Option (List ℕ) → Asked
asked_alone command name others target = record {
  command = command;
  files = files_alone command name others.script others.media;
  target = target;
}

-- the command edits a timeline
abbrev pub EditsTimeline : Command → Type 0
EditsTimeline (ListToList rate drop wide notes) = ⊥
EditsTimeline (ListToObjects rate older notes) = ⊥
EditsTimeline (TimelineToList drop wide notes) = ⊥
EditsTimeline (ToObjects older) = ⊥
EditsTimeline ToJson = ⊥
EditsTimeline LogToMedia = ⊥
EditsTimeline (Frames asked) = ⊥
EditsTimeline (ListFrames rate asked) = ⊥
EditsTimeline Edit = Unit {0}
EditsTimeline (ListEdit rate) = Unit {0}
EditsTimeline Stat = ⊥
EditsTimeline (ListStat rate) = ⊥
EditsTimeline (Pull handles) = ⊥
EditsTimeline (ListPull rate handles) = ⊥
EditsTimeline Cat = ⊥
EditsTimeline (ListCat rate) = ⊥
EditsTimeline (Tool asked) = ⊥
EditsTimeline (ListTool rate asked) = ⊥

-- a script is named exactly where a timeline is edited
abbrev pub IsScripted : Command → Option (List ℕ) → Type 0
IsScripted command None = EditsTimeline command → ⊥
IsScripted command (Some script) = EditsTimeline command

-- the command lists frames
abbrev pub ListsFrames : Command → Type 0
ListsFrames (ListToList rate drop wide notes) = ⊥
ListsFrames (ListToObjects rate older notes) = ⊥
ListsFrames (TimelineToList drop wide notes) = ⊥
ListsFrames (ToObjects older) = ⊥
ListsFrames ToJson = ⊥
ListsFrames LogToMedia = ⊥
ListsFrames (Frames asked) = Unit {0}
ListsFrames (ListFrames rate asked) = Unit {0}
ListsFrames Edit = ⊥
ListsFrames (ListEdit rate) = ⊥
ListsFrames Stat = ⊥
ListsFrames (ListStat rate) = ⊥
ListsFrames (Pull handles) = ⊥
ListsFrames (ListPull rate handles) = ⊥
ListsFrames Cat = ⊥
ListsFrames (ListCat rate) = ⊥
ListsFrames (Tool asked) = ⊥
ListsFrames (ListTool rate asked) = ⊥

-- the words ask for this
pub record Asks (words : List (List ℕ)) (asked : Asked) : Type 0 where
  pub name : List ℕ
  pub others : OtherNames
  pub ask : Ask words asked.command name others asked.target
  pub files : asked.files ≡ files_of asked.command name others
