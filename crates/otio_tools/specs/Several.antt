-- What is known of several inputs on the way to an answer.
use Rattle.std.specs.Prelude.{◌≡◌, ◌++◌, ℕ, List, [], ◌∷◌, All, None, length, map}
use Rattle.std.specs.declared.option.Option.{Option}
use Rattle.otio_model.specs.declared.timelines.Timeline.{Timeline}
use Rattle.media_rows.specs.Rows.{MediaRows}
use Rattle.source_files.specs.Order.{EachIs}
use Rattle.source_files.specs.Reading.{IsRefused}
use Rattle.source_files.specs.Contents.{Content}
use Rattle.source_files.specs.declared.read_faults.ReadFault.{ReadFault}
use Rattle.source_files.specs.declared.read_faults.ReadFault.TheVariants.{Absent, Failed, Refused}
use Rattle.source_files.specs.declared.read_faults.SourceFault.{SourceFault}
use Rattle.command_words.specs.declared.requests.Command.{Command}
use Rattle.command_words.specs.declared.requests.Command.TheVariants.{ListToList, ListToObjects, TimelineToList, ToObjects, ToJson, Frames, ListFrames, Edit, ListEdit}
use Rattle.command_words.specs.declared.requests.Command.TheVariants.{Cat, ListCat, Stat, ListStat, Tool, ListTool, Pull, ListPull, LogToMedia}
use Rattle.command_words.specs.declared.tools.ToolAsked.{ToolAsked}
use Rattle.flat_stack.specs.Ready.{IsReady}
use Rattle.otio_tools.specs.Forms.{Answer}
use Rattle.otio_tools.specs.Opened.{Input, IsOpenedInput, IsUnopened}
use Rattle.otio_tools.specs.Plan.{IsEditable}
use Rattle.otio_tools.specs.Tools.{AnswersJoined, AnswersTool}
use denote.Ref.{Bor}

-- the characters of names
abbrev pub names_now : List (Bor (List ℕ)) → List (List ℕ)
names_now names = map (λ n. n.now) names

-- inputs by their names and by what they hold
abbrev pub named_inputs : List (List ℕ) → List Content → List Input
named_inputs [] contents = []
named_inputs (name ∷ names) [] = []
named_inputs (name ∷ names) (content ∷ contents) =
    record { name = name; content = content } ∷ named_inputs names contents

-- Of all inputs those in front have these timelines; the others have these names and hold the rest.
pub record IsOpening (media : MediaRows) (all : List Input) (names : List (List ℕ))
    (rest : List Content) (timelines : List Timeline) : Type 0 where
  pub front : List Input
  pub are : all ≡ front ++ named_inputs names rest
  pub opened : EachIs (IsOpenedInput media) front timelines
  pub many : length rest ≡ length names
  pub editable : All IsEditable rest
  pub ready : All IsReady timelines

-- a refusal, for such a reason; out of memory is free
abbrev pub IsRefusedAt : (List ℕ → Type 0) → ReadFault → Type 0
IsRefusedAt Why Absent = ⊥
IsRefusedAt Why Failed = ⊥
IsRefusedAt Why (Refused refusal) = IsRefused Why refusal

-- why there is no timeline of an input, told under its name
abbrev pub StopsOpening : MediaRows → Input → SourceFault → Type 0
StopsOpening media input stop =
    (stop.name.now ≡ input.name) × IsRefusedAt (IsUnopened input.content media) stop.fault

-- the answer to the timelines of a command on several files of these names
abbrev pub AnswersTimelines : Command → List (List ℕ) → Option (List ℕ) → List Timeline → Answer
    → Type 0
AnswersTimelines Cat names target timelines answer = AnswersJoined names target timelines answer
AnswersTimelines (ListCat rate) names target timelines answer =
    AnswersJoined names target timelines answer
AnswersTimelines (Tool asked) names target timelines answer =
    AnswersTool asked names target timelines answer
AnswersTimelines (ListTool rate asked) names target timelines answer =
    AnswersTool asked names target timelines answer
AnswersTimelines (ListToList rate drop wide notes) names target timelines answer = ⊥
AnswersTimelines (ListToObjects rate older notes) names target timelines answer = ⊥
AnswersTimelines (TimelineToList drop wide notes) names target timelines answer = ⊥
AnswersTimelines (ToObjects older) names target timelines answer = ⊥
AnswersTimelines ToJson names target timelines answer = ⊥
AnswersTimelines LogToMedia names target timelines answer = ⊥
AnswersTimelines (Frames asked) names target timelines answer = ⊥
AnswersTimelines (ListFrames rate asked) names target timelines answer = ⊥
AnswersTimelines Edit names target timelines answer = ⊥
AnswersTimelines (ListEdit rate) names target timelines answer = ⊥
AnswersTimelines Stat names target timelines answer = ⊥
AnswersTimelines (ListStat rate) names target timelines answer = ⊥
AnswersTimelines (Pull handles) names target timelines answer = ⊥
AnswersTimelines (ListPull rate handles) names target timelines answer = ⊥

-- one input alone stands where nothing says how several become one
abbrev pub FitsJoining : ToolAsked → ℕ → Type 0
FitsJoining asked count = asked.joining ≡ None → count ≡ 1

-- it does so for a command on this many inputs
abbrev pub HasJoining : Command → ℕ → Type 0
HasJoining (Tool asked) count = FitsJoining asked count
HasJoining (ListTool rate asked) count = FitsJoining asked count
HasJoining Cat count = Unit {0}
HasJoining (ListCat rate) count = Unit {0}
HasJoining (ListToList rate drop wide notes) count = Unit {0}
HasJoining (ListToObjects rate older notes) count = Unit {0}
HasJoining (TimelineToList drop wide notes) count = Unit {0}
HasJoining (ToObjects older) count = Unit {0}
HasJoining ToJson count = Unit {0}
HasJoining LogToMedia count = Unit {0}
HasJoining (Frames asked) count = Unit {0}
HasJoining (ListFrames rate asked) count = Unit {0}
HasJoining Edit count = Unit {0}
HasJoining (ListEdit rate) count = Unit {0}
HasJoining Stat count = Unit {0}
HasJoining (ListStat rate) count = Unit {0}
HasJoining (Pull handles) count = Unit {0}
HasJoining (ListPull rate handles) count = Unit {0}
