-- The answer to words and files.
use Rattle.std.specs.Prelude.{◌≡◌, ◌||◌, ℕ, List, ◌∷◌, None}
use Rattle.std.specs.declared.option.Option.{Option}
use Rattle.json_text.specs.Layout.{layout}
use Rattle.source_files.specs.Order.{FirstIsNot}
use Rattle.source_files.specs.Reading.{Held, Source, IsRead, AreRead, IsRefusedIn}
use Rattle.source_files.specs.Contents.{Content, Value, Root, Film, Events, Noted, Rows, Commands}
use Rattle.command_words.specs.Asked.{AskNothing}
use Rattle.command_words.specs.Drills.{AsksDrill}
use Rattle.command_words.specs.declared.requests.Command.{Command}
use Rattle.command_words.specs.declared.tools.ToolAsked.{ToolAsked}
use Rattle.command_words.specs.declared.requests.Command.TheVariants.{ListToList, ListToObjects, TimelineToList, ToObjects, ToJson, Frames, ListFrames, Edit, ListEdit}
use Rattle.command_words.specs.declared.requests.Command.TheVariants.{Cat, ListCat, Stat, ListStat, Tool, ListTool, Pull, ListPull, LogToMedia}
use Rattle.media_text.specs.Texts.{media_text}
use Rattle.undo_log.specs.States.{State}
use Rattle.drill.specs.Told.{DrillsTo}
use Rattle.drill.specs.Lines.{tally_text}
use Rattle.drill.specs.declared.tally.Tally.{Tally}
use Rattle.otio_tools.specs.Asked.{Asked, Asks}
use Rattle.otio_tools.specs.Forms.{Answer, done, refused, absent, usage}
use Rattle.otio_tools.specs.Events.{AnswersEvents}
use Rattle.otio_tools.specs.Frames.{AnswersTimeline}
use Rattle.otio_tools.specs.Carried.{AnswersCarried}
use Rattle.otio_tools.specs.Conformed.{media_in, AnswersConformed}
use Rattle.otio_model.specs.declared.objects.Object.{Timeline as ObjectOfTimeline}
use Rattle.otio_tools.specs.Objects.{AnswersObject}
use Rattle.edl_text.specs.Spelling.{spelling}
use Rattle.note_text.specs.Belonging.{below_day}
use Rattle.note_text.specs.NotedSpelling.{noted_spelling}
use Rattle.otio_tools.specs.Written.{AnswersNoted}
use Rattle.otio_tools.specs.Edited.{AnswersEdited}
use Rattle.otio_tools.specs.Opened.{AnswersOpened, inputs_in, media_behind, names_in}
use Rattle.otio_tools.specs.Pulled.{AnswersPull}
use Rattle.otio_tools.specs.Tools.{AnswersCounted, AnswersJoined, AnswersTool}

-- the answer to files whose timelines are joined
abbrev pub AnswersCat : List Source → Option (List ℕ) → List Content → Answer → Type 0
AnswersCat files target contents answer = AnswersOpened (media_behind contents)
    (inputs_in files contents)
    (AnswersJoined (names_in files contents) target) answer

-- the answer to files whose timelines are worked on as this asks
abbrev pub AnswersWorked : ToolAsked → List Source → Option (List ℕ) → List Content → Answer
    → Type 0
AnswersWorked asked files target contents answer = AnswersOpened (media_behind contents)
    (inputs_in files contents)
    (AnswersTool asked (names_in files contents) target) answer

-- The answer to a command on what its files hold, in their order: a value or an object in the one
-- layout, in the older family of schemas where that is asked for, a list in its one spelling, with
-- drop-frame timecode where that is asked for or is in force at its first event line, the timeline
-- that a list conforms to with the media list after it, written as an object is, the list of a
-- timeline's events with the media list after it, each with its notes where these are asked for,
-- the rows of frames, the counts of items, the pull list, the timeline that a script after it leads
-- to, the one that several become, or the media list of a log. A refusal is told of one of the
-- files.
abbrev pub AnswersHeld : Command → List Source → Option (List ℕ) → List Content → Answer → Type 0
AnswersHeld ToJson files target (Value value ∷ more) answer = answer ≡ done target (layout value)
AnswersHeld (ToObjects older) (file ∷ files) target (Root object ∷ more) answer =
    AnswersObject older file.name target object answer
AnswersHeld (ListToList rate drop wide notes) (file ∷ files) target (Events list ∷ more) answer =
    AnswersEvents file.name target list (drop || list.drop) wide
    (spelling list (drop || list.drop) wide) answer
AnswersHeld (ListToList rate drop wide notes) (file ∷ files) target (Noted list said ∷ more)
    answer = AnswersEvents file.name target list (drop || list.drop) wide
    (noted_spelling list (below_day list.rate (drop || list.drop) said) (drop || list.drop) wide)
    answer
AnswersHeld (ListToObjects rate older notes) (file ∷ files) target (Events list ∷ more) answer =
    AnswersConformed file.name list (media_in more)
    (λ t. AnswersObject older file.name target (ObjectOfTimeline t)) answer
AnswersHeld (ListToObjects rate older notes) (file ∷ files) target (Noted list said ∷ more)
    answer = AnswersConformed file.name list (media_in more) (AnswersNoted list said
    (λ t. AnswersObject older file.name target (ObjectOfTimeline t))) answer
AnswersHeld (TimelineToList drop wide notes) (file ∷ files) target (Film timeline ∷ more) answer =
    AnswersCarried notes drop wide file.name (media_in more) target timeline answer
AnswersHeld (Frames asked) (file ∷ files) target (Film timeline ∷ more) answer =
    AnswersTimeline asked file.name target timeline answer
AnswersHeld (ListFrames rate asked) (file ∷ files) target (Events list ∷ more) answer =
    AnswersConformed file.name list (media_in more) (AnswersTimeline asked file.name target) answer
AnswersHeld Edit (file ∷ script ∷ files) target (Film timeline ∷ Commands commands ∷ more) answer =
    AnswersEdited file.name script.name commands.items (media_in more) target timeline answer
AnswersHeld (ListEdit rate) (file ∷ script ∷ files) target (Events list ∷ Commands commands ∷ more)
    answer = AnswersConformed file.name list (media_in more)
    (AnswersEdited file.name script.name commands.items (media_in more) target) answer
AnswersHeld Stat (file ∷ files) target (Film timeline ∷ more) answer =
    AnswersCounted file.name target timeline answer
AnswersHeld (ListStat rate) (file ∷ files) target (Events list ∷ more) answer =
    AnswersConformed file.name list (media_in more) (AnswersCounted file.name target) answer
AnswersHeld (Pull handles) (file ∷ files) target (Film timeline ∷ more) answer =
    AnswersPull handles file.name target timeline answer
AnswersHeld (ListPull rate handles) (file ∷ files) target (Events list ∷ more) answer =
    AnswersConformed file.name list (media_in more) (AnswersPull handles file.name target) answer
AnswersHeld LogToMedia files target (Rows rows ∷ more) answer =
    answer ≡ done target (media_text rows)
AnswersHeld Cat files target contents answer = AnswersCat files target contents answer
AnswersHeld (ListCat rate) files target contents answer = AnswersCat files target contents answer
AnswersHeld (Tool asked) files target contents answer =
    AnswersWorked asked files target contents answer
AnswersHeld (ListTool rate asked) files target contents answer =
    AnswersWorked asked files target contents answer
AnswersHeld command files target contents answer = ⊥

-- the answer to a file that isn't there, or whose bytes are nothing of what they are read as
pub data AnswersUnread (held : Held) (file : Source) (answer : Answer) : Type 0 where
  Gone : held file.name ≡ None → answer ≡ absent file.name → AnswersUnread held file answer
  Faulty : (why : List ℕ) → IsRefusedIn held file why → answer ≡ refused file.name why
      → AnswersUnread held file answer

-- The answer to what is asked, where each name holds these bytes: that to the first file that is
-- none of what it is read as, each before it being one; else that to what the files hold.
pub data AnswersAsked (asked : Asked) (held : Held) (answer : Answer) : Type 0 where
  Unread : FirstIsNot (IsRead held) (AnswersUnread held) asked.files answer
      → AnswersAsked asked held answer
  Judged : (contents : List Content) → AreRead held asked.files contents
      → AnswersHeld asked.command asked.files asked.target contents answer
      → AnswersAsked asked held answer

-- the answer to a drill of this seed and so many edits: what it tells
pub record AnswersDrill (seed count : ℕ) (target : Option (List ℕ)) (answer : Answer) : Type 0 where
  pub tally : Tally
  pub state : State
  pub drills : DrillsTo seed count tally state
  pub is : answer ≡ done target (tally_text tally)

-- The answer to the words: that to what they ask for, and usage for all other words.
pub data Answers (words : List (List ℕ)) (held : Held) (answer : Answer) : Type 0 where
  NoCommand : AskNothing words → answer ≡ usage → Answers words held answer
  OnFiles : (asked : Asked) → Asks words asked → AnswersAsked asked held answer
      → Answers words held answer
  ByDrill : (seed count : ℕ) (target : Option (List ℕ)) → AsksDrill words seed count target
      → AnswersDrill seed count target answer → Answers words held answer
