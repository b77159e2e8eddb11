-- The answers to sound timelines that are counted, joined, or worked on by `tool`.
use Rattle.std.specs.Prelude.{◌≡◌, ◌≢◌, ◌||◌, ℕ, Bool, true, false, cond, List, [], get_or}
use Rattle.std.specs.declared.option.Option.{Option}
use Rattle.otio_model.specs.declared.timelines.Timeline.{Timeline}
use Rattle.coord.specs.Soundness.{IsFaultless, IsFaultOf}
use Rattle.coord.specs.declared.faults.CoordFault.{CoordFault}
use Rattle.coord.specs.declared.faults.CoordFault.TheVariants as coord
use Rattle.command_words.specs.declared.tools.ToolAsked.{ToolAsked}
use Rattle.show_prog.specs.declared.frame_options.Listings.{Listings}
use Rattle.flat_stack.specs.Gathered.{IsConcat, IsConcatFault}
use Rattle.flat_stack.specs.Tooled.{IsTooled, IsToolFault}
use Rattle.flat_stack.specs.declared.step_faults.ToolFault.{ToolFault}
use Rattle.flat_stack.specs.declared.step_faults.ToolFault.TheVariants as tool
use Rattle.source_files.specs.Faults.{coord_fault_text, flat_fault_text, items_text}
use Rattle.otio_tools.specs.Forms.{Answer, done, refused}
use Rattle.otio_tools.specs.Written.{listings_text, timeline_text}

-- the counts of items alone
abbrev pub counts_alone : Listings
counts_alone = record { tracks = false; clips = false; media = false; stats = true }

-- The first fault of a timeline that isn't sound, told of the file of that name; else its counts.
pub data AnswersCounted (name : List ℕ) (target : Option (List ℕ)) (timeline : Timeline)
    (answer : Answer) : Type 0 where
  Uncounted : (fault : CoordFault) → fault ≢ coord.Memory → IsFaultOf timeline fault
      → answer ≡ refused name (coord_fault_text fault)
      → AnswersCounted name target timeline answer
  Counted : IsFaultless timeline → answer ≡ done target (listings_text timeline counts_alone)
      → AnswersCounted name target timeline answer

-- the name of the input of an index, else of the first
abbrev pub name_at : List (List ℕ) → ℕ → List ℕ
name_at names index = get_or names index (get_or names 0 [])

-- the name of the input that a fault is told of: the one that it stands in, else the first
abbrev pub name_told : List (List ℕ) → ToolFault → List ℕ
name_told names (tool.At input fault) = name_at names input
name_told names tool.Items = name_at names 0
name_told names (tool.Unsound fault) = name_at names 0
name_told names tool.Memory = []

-- timelines that aren't joined or worked on
abbrev pub tool_fault_text : ToolFault → List ℕ
tool_fault_text (tool.At input fault) = flat_fault_text fault
tool_fault_text tool.Items = items_text
tool_fault_text (tool.Unsound fault) = coord_fault_text fault
tool_fault_text tool.Memory = []

-- the answer to timelines of files of these names that aren't joined or worked on
abbrev pub AnswersFault : List (List ℕ) → ToolFault → Answer → Type 0
AnswersFault names fault answer = answer ≡ refused (name_told names fault) (tool_fault_text fault)

-- The first fault of timelines that aren't joined, told of its input; else the joined timeline.
pub data AnswersJoined (names : List (List ℕ)) (target : Option (List ℕ))
    (timelines : List Timeline) (answer : Answer) : Type 0 where
  NotJoined : (fault : ToolFault) → fault ≢ tool.Memory → IsConcatFault timelines fault
      → AnswersFault names fault answer → AnswersJoined names target timelines answer
  Joined : (timeline : Timeline) → IsConcat timelines timeline
      → answer ≡ done target (timeline_text timeline)
      → AnswersJoined names target timelines answer

-- something is listed
abbrev pub does_list : ToolAsked → Bool
does_list asked =
    (asked.list_tracks || asked.list_clips) || (asked.list_media || asked.stats)

abbrev pub listings_asked : ToolAsked → Listings
listings_asked asked = record {
  tracks = asked.list_tracks;
  clips = asked.list_clips;
  media = asked.list_media;
  stats = asked.stats;
}

-- what is written of a timeline: the listings that are asked for, else the timeline
abbrev pub tool_text : ToolAsked → Timeline → List ℕ
tool_text asked timeline =
    cond (does_list asked) (listings_text timeline (listings_asked asked)) (timeline_text timeline)

-- The first fault of timelines that can't be worked on as asked, told of its input; else what is
-- written of the timeline that they become.
pub data AnswersTool (asked : ToolAsked) (names : List (List ℕ)) (target : Option (List ℕ))
    (timelines : List Timeline) (answer : Answer) : Type 0 where
  NotWorked : (fault : ToolFault) → fault ≢ tool.Memory → IsToolFault asked timelines fault
      → AnswersFault names fault answer → AnswersTool asked names target timelines answer
  Worked : (timeline : Timeline) → IsTooled asked timelines timeline
      → answer ≡ done target (tool_text asked timeline)
      → AnswersTool asked names target timelines answer
