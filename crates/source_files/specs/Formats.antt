-- The formats of files: which bytes are what, why bytes are none, and bytes that show no fault yet.
use Rattle.std.specs.Prelude.{◌≡◌, ◌⊎◌, ◌≤◌, ◌<◌, ◌^◌, ℕ, List, [], length, All}
use Rattle.std.specs.Global.{Vec}
use Rattle.limits.specs.Limits.{most_bytes, most_items}
use Rattle.json_value.specs.declared.Json.{Json}
use Rattle.json_text.specs.Grammar.{IsLive, text_of}
use Rattle.json_text.specs.Faults.{IsFault}
use Rattle.json_text.specs.declared.faults.JsonFault.{JsonFault}
use Rattle.text_lines.specs.Lines.{ended_lines}
use Rattle.tick_time.specs.declared.rates.Rate.{Rate}
use Rattle.edl_list.specs.declared.list.EventList.{EventList}
use Rattle.note_text.specs.Belonging.{AreNotes}
use Rattle.note_text.specs.Noted.{IsNoteFor}
use Rattle.note_text.specs.declared.notes.Note.{Note}
use Rattle.edl_text.specs.Statements.{Statement}
use Rattle.edl_list.specs.Formed.{IsWellFormed}
use Rattle.edl_text.specs.Lists.{IsList, IsFault as IsListFault}
use Rattle.edl_text.specs.Lines.{AreSound}
use Rattle.edl_text.specs.declared.faults.EdlFault.{EdlFault}
use Rattle.otio_model.specs.Counts.{count as count_below}
use Rattle.otio_model.specs.declared.objects.Object.{Object, out-Object}
use Rattle.otio_model.specs.declared.objects.Object.TheOpen.{Object-F}
use Rattle.otio_model.specs.declared.objects.Collection.{Collection}
use Rattle.otio_model.specs.declared.timelines.Timeline.{Timeline}
use Rattle.schema_up.specs.Upgrades.{upgraded}
use Rattle.schema_rows.specs.Counts.{count_of}
use Rattle.schema_rows.specs.Stands.{Stands}
use Rattle.schema_rows.specs.Faults.{IsFirstFault}
use Rattle.schema_rows.specs.declared.faults.SchemaFault.{SchemaFault}
use Rattle.ale_text.specs.Logs.{IsLog, IsFault as IsLogFault}
use Rattle.ale_text.specs.declared.faults.AleFault.{AleFault}
use Rattle.media_list.specs.Lists.{IsMediaList, IsFault as IsMediaFault}
use Rattle.media_list.specs.declared.faults.MediaFault.{MediaFault}
use Rattle.edit_script.specs.Scripts.{IsScript, IsFault as IsScriptFault}
use Rattle.edit_script.specs.declared.commands.ScriptCommand.{ScriptCommand}
use Rattle.edit_script.specs.declared.commands.ScriptFault.{ScriptFault}
use Rattle.source_files.specs.Faults.{ale_fault_text, json_fault_text, list_fault_text, media_fault_text, script_fault_text, fault_text, not_timeline_text}
use Rattle.source_files.specs.Kinds.{Kind}
use Rattle.source_files.specs.Kinds as kinds
use Rattle.source_files.specs.Contents.{Content, Value, Root, Film, Events, Noted, Rows, Commands}

-- the bytes are a text of this value
pub record IsJson (bytes : List ℕ) (value : Json) : Type 0 where
  pub small : length bytes ≤ most_bytes
  pub text : text_of bytes value

-- The bytes are a text of an object of at most 100 000 items, by the tables of the schemas, with
-- all old names and versions rewritten.
pub record IsObject (bytes : List ℕ) (object : Object) : Type 0 where
  pub value : Json
  pub text : IsJson bytes value
  pub stands : Stands (upgraded value) object
  pub few : count_of object ≤ most_items

-- the bytes are a text of such an object, and it is this timeline
pub record IsTimeline (bytes : List ℕ) (timeline : Timeline) : Type 0 where
  pub object : Object
  pub is : IsObject bytes object
  pub root : out-Object object ≡ Object-F.Timeline timeline

-- the bytes are a script of these commands
abbrev pub IsCommands : List ℕ → Vec ScriptCommand → Type 0
IsCommands bytes commands = IsScript bytes commands.items

-- the bytes are a list at that rate, with these notes
pub record IsNotedList (rate : Rate) (bytes : List ℕ) (list : EventList)
    (notes : List Note) : Type 0 where
  pub is : IsList rate bytes list
  pub are : AreNotes bytes list notes

-- what is known of a list with notes whatever the files tell
pub record SuitsNotes (list : EventList) (notes : List Note) : Type 0 where
  pub formed : IsWellFormed list
  pub notes_for : All (IsNoteFor list) notes

-- the bytes are this, by the format of their file
abbrev pub Holds : Kind → List ℕ → Content → Type 0
Holds kinds.Json bytes (Value value) = IsJson bytes value
Holds kinds.Object bytes (Root object) = IsObject bytes object
Holds kinds.Timeline bytes (Film timeline) = IsTimeline bytes timeline
Holds (kinds.List rate) bytes (Events list) = IsList rate bytes list
Holds (kinds.NotedList rate) bytes (Noted list notes) = IsNotedList rate bytes list notes
Holds kinds.Media bytes (Rows rows) = IsMediaList bytes rows
Holds kinds.Log bytes (Rows rows) = IsLog bytes rows
Holds kinds.Script bytes (Commands commands) = IsCommands bytes commands
Holds kind bytes content = ⊥

-- the bytes are no JSON text, and their first fault is told so
abbrev pub RefusesJson : List ℕ → List ℕ → Type 0
RefusesJson bytes why = (fault : JsonFault) × IsFault fault bytes × (why ≡ json_fault_text fault)

-- the value stands for no object, and its first fault is told so
abbrev pub RefusesValue : Json → List ℕ → Type 0
RefusesValue value why = (fault : SchemaFault) × IsFirstFault value fault × (why ≡ fault_text fault)

-- the bytes are no object: they are no JSON text, or its value stands for none
abbrev pub RefusesObject : List ℕ → List ℕ → Type 0
RefusesObject bytes why =
    RefusesJson bytes why ⊎ ((value : Json) × IsJson bytes value
    × RefusesValue (upgraded value) why)

-- the root is a collection or an item
abbrev pub IsNoTimeline : Object-F Object Collection → Type 0
IsNoTimeline (Object-F.Timeline timeline) = ⊥
IsNoTimeline (Object-F.Collection collection) = Unit {0}
IsNoTimeline (Object-F.Item item) = Unit {0}

-- the bytes are no timeline: they are no object, or it is another one
abbrev pub RefusesTimeline : List ℕ → List ℕ → Type 0
RefusesTimeline bytes why =
    RefusesObject bytes why
    ⊎ ((object : Object) × IsObject bytes object × IsNoTimeline (out-Object object)
    × (why ≡ not_timeline_text))

-- the bytes are no list at that rate, and their first fault is told so
abbrev pub RefusesList : Rate → List ℕ → List ℕ → Type 0
RefusesList rate bytes why =
    (fault : EdlFault) × IsListFault rate bytes fault × (why ≡ list_fault_text fault)

-- the bytes are no media list, and their first fault is told so
abbrev pub RefusesMedia : List ℕ → List ℕ → Type 0
RefusesMedia bytes why =
    (fault : MediaFault) × IsMediaFault bytes fault × (why ≡ media_fault_text fault)

-- the bytes are no log, and their first fault is told so
abbrev pub RefusesLog : List ℕ → List ℕ → Type 0
RefusesLog bytes why =
    (fault : AleFault) × IsLogFault bytes fault × (why ≡ ale_fault_text fault)

-- the bytes are no script, and their first fault is told so
abbrev pub RefusesScript : List ℕ → List ℕ → Type 0
RefusesScript bytes why =
    (fault : ScriptFault) × IsScriptFault bytes fault × (why ≡ script_fault_text fault)

-- why the bytes are nothing of their file's format, as it is told after the name of the file
abbrev pub Refuses : Kind → List ℕ → List ℕ → Type 0
Refuses kinds.Json bytes why = RefusesJson bytes why
Refuses kinds.Object bytes why = RefusesObject bytes why
Refuses kinds.Timeline bytes why = RefusesTimeline bytes why
Refuses (kinds.List rate) bytes why = RefusesList rate bytes why
Refuses (kinds.NotedList rate) bytes why = RefusesList rate bytes why
Refuses kinds.Media bytes why = RefusesMedia bytes why
Refuses kinds.Log bytes why = RefusesLog bytes why
Refuses kinds.Script bytes why = RefusesScript bytes why

-- bytes from the front of a JSON text show no fault: some continuation of them is a text
pub record IsCalmJson (taken : List ℕ) : Type 0 where
  pub few : length taken ≤ most_bytes
  pub live : IsLive taken

-- bytes from the front of a list show no fault: no line that ended has one
pub record IsCalmList (rate : Rate) (taken : List ℕ) : Type 0 where
  pub few : length taken ≤ most_bytes
  pub said : List Statement
  pub sound : AreSound rate [] (ended_lines taken) said

-- bytes from the front of a media list show no fault: it is judged when it has ended, since that it
-- is too long comes before all
abbrev pub IsCalmMedia : List ℕ → Type 0
IsCalmMedia taken = length taken ≤ most_bytes

-- bytes from the front of a log show no fault: it too is judged when it has ended
abbrev pub IsCalmLog : List ℕ → Type 0
IsCalmLog taken = length taken ≤ most_bytes

-- bytes from the front of a script show no fault: it too is judged when it has ended
abbrev pub IsCalmScript : List ℕ → Type 0
IsCalmScript taken = length taken ≤ most_bytes

-- bytes from the front of such a file show no fault, however the file goes on
abbrev pub IsCalm : Kind → List ℕ → Type 0
IsCalm kinds.Json taken = IsCalmJson taken
IsCalm kinds.Object taken = IsCalmJson taken
IsCalm kinds.Timeline taken = IsCalmJson taken
IsCalm (kinds.List rate) taken = IsCalmList rate taken
IsCalm (kinds.NotedList rate) taken = IsCalmList rate taken
IsCalm kinds.Media taken = IsCalmMedia taken
IsCalm kinds.Log taken = IsCalmLog taken
IsCalm kinds.Script taken = IsCalmScript taken

-- some upgraded value stands for the timeline, by the tables of the schemas, and it has few items
pub record IsOfTables (timeline : Timeline) : Type 0 where
  pub value : Json
  pub stays : upgraded value ≡ value
  pub object : Object
  pub stands : Stands value object
  pub root : out-Object object ≡ Object-F.Timeline timeline
  pub few : count_below timeline.tracks.children < 2 ^ 32

-- what is known of what was read whatever the files tell
abbrev pub Suits : Kind → Content → Type 0
Suits kinds.Json (Value value) = Unit {0}
Suits kinds.Object (Root object) = count_of object ≤ most_items
Suits kinds.Timeline (Film timeline) = IsOfTables timeline
Suits (kinds.List rate) (Events list) = IsWellFormed list
Suits (kinds.NotedList rate) (Noted list notes) = SuitsNotes list notes
Suits kinds.Media (Rows rows) = Unit {0}
Suits kinds.Log (Rows rows) = Unit {0}
Suits kinds.Script (Commands commands) = Unit {0}
Suits kind content = ⊥
