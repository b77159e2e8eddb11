-- What commands on one file work on, and how.
use Rattle.std.specs.Prelude.{◌≡◌, ◌≤◌, Bool, true, false}
use Rattle.tick_time.specs.declared.rates.Rate.{Rate}
use Rattle.edl_list.specs.Formed.{IsWellFormed}
use Rattle.source_files.specs.Contents.{Content}
use Rattle.source_files.specs.Contents as content
use Rattle.source_files.specs.Formats.{IsOfTables, SuitsNotes}
use Rattle.source_files.specs.Inputs.{input_content, input_kind}
use Rattle.source_files.specs.declared.inputs.Input.TheVariants as held
use Rattle.source_files.specs.declared.inputs.InputFile.{InputFile}
use Rattle.command_words.specs.declared.requests.Command.{Command}
use Rattle.command_words.specs.declared.requests.Command.TheVariants as asked
use Rattle.otio_tools.specs.Asked.{EditsTimeline, kind_of}
use Rattle.otio_tools.specs.Plan.{IsEditable}
use Rattle.otio_tools.specs.declared.work_files.HeldList.{HeldList}
use Rattle.otio_tools.specs.declared.work_files.HeldList.TheVariants.{Plain, Noted}
use Rattle.otio_tools.specs.declared.work_files.Work.{Work}
use Rattle.otio_tools.specs.declared.work_files.Work.TheVariants.{Json, Root, Log, List, Conform, Events, Frames, Stat, Pull}

-- a list, with its notes or without
abbrev pub list_content : HeldList → Content
list_content (Plain list) = content.Events list
list_content (Noted list notes) = content.Noted list notes

abbrev pub is_noted : HeldList → Bool
is_noted (Plain list) = false
is_noted (Noted list notes) = true

abbrev pub IsFitList : HeldList → Type 0
IsFitList (Plain list) = IsWellFormed list
IsFitList (Noted list notes) = SuitsNotes list notes

-- what the file holds that is worked on
abbrev pub content_of : Work → Content
content_of (Json value) = content.Value value
content_of (Root object older) = content.Root object
content_of (Log rows) = content.Rows rows
content_of (List list drop wide) = list_content list
content_of (Conform list older) = list_content list
content_of (Events timeline ways) = content.Film timeline
content_of (Frames input frames) = input_content input
content_of (Stat input) = input_content input
content_of (Pull input handles) = input_content input

-- the command asks for this
abbrev pub IsWorkOf : Command → Work → Type 0
IsWorkOf command (Json value) = command ≡ asked.ToJson
IsWorkOf command (Root object older) = command ≡ asked.ToObjects older
IsWorkOf command (Log rows) = command ≡ asked.LogToMedia
IsWorkOf command (List list drop wide) =
    (rate : Rate) × (command ≡ asked.ListToList rate drop wide (is_noted list))
IsWorkOf command (Conform list older) =
    (rate : Rate) × (command ≡ asked.ListToObjects rate older (is_noted list))
IsWorkOf command (Events timeline ways) =
    command ≡ asked.TimelineToList ways.drop ways.wide ways.notes
IsWorkOf command (Frames (held.Timeline timeline) frames) = command ≡ asked.Frames frames
IsWorkOf command (Frames (held.List list) frames) =
    (rate : Rate) × (command ≡ asked.ListFrames rate frames)
IsWorkOf command (Stat (held.Timeline timeline)) = command ≡ asked.Stat
IsWorkOf command (Stat (held.List list)) = (rate : Rate) × (command ≡ asked.ListStat rate)
IsWorkOf command (Pull (held.Timeline timeline) handles) = command ≡ asked.Pull handles
IsWorkOf command (Pull (held.List list) handles) =
    (rate : Rate) × (command ≡ asked.ListPull rate handles)

-- the command works on a timeline or on the one that a list conforms to
abbrev pub works_on_input : Command → Bool
works_on_input (asked.Frames frames) = true
works_on_input (asked.ListFrames rate frames) = true
works_on_input asked.Stat = true
works_on_input (asked.ListStat rate) = true
works_on_input (asked.Pull handles) = true
works_on_input (asked.ListPull rate handles) = true
works_on_input command = false

-- what is known of it whatever the files tell
abbrev pub IsFitWork : Work → Type 0
IsFitWork (Json value) = Unit {0}
IsFitWork (Root object older) = Unit {0}
IsFitWork (Log rows) = Unit {0}
IsFitWork (List list drop wide) = IsFitList list
IsFitWork (Conform list older) = IsFitList list
IsFitWork (Events timeline ways) = IsOfTables timeline
IsFitWork (Frames input frames) = IsEditable (input_content input)
IsFitWork (Stat input) = IsEditable (input_content input)
IsFitWork (Pull input handles) = IsEditable (input_content input) × handles ≤ 10000

-- its frames are asked for
abbrev pub IsFramesWork : Work → Type 0
IsFramesWork (Json value) = ⊥
IsFramesWork (Root object older) = ⊥
IsFramesWork (Log rows) = ⊥
IsFramesWork (List list drop wide) = ⊥
IsFramesWork (Conform list older) = ⊥
IsFramesWork (Events timeline ways) = ⊥
IsFramesWork (Frames input frames) = Unit {0}
IsFramesWork (Stat input) = ⊥
IsFramesWork (Pull input handles) = ⊥

-- the command edits the timeline of this file
pub record IsEditOf (command : Command) (file : InputFile) : Type 0 where
  pub edits : EditsTimeline command
  pub kind : input_kind file.kind ≡ kind_of command
