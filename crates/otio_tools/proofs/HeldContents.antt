-- What files hold, by what they are read as.
use Rattle.std.proofs.Common.{◌≡◌, ℕ, Bool, true, false, cond, List, Some, None, refl, sym, ◌∙◌}
use Rattle.std.specs.declared.option.Option.{Option}
use Rattle.std.specs.Global.{Vec}
use Rattle.json_value.specs.declared.Json.{Json}
use Rattle.tick_time.specs.declared.rates.Rate.{Rate}
use Rattle.edl_list.specs.declared.list.EventList.{EventList}
use Rattle.edl_text.specs.Lists.{IsList}
use Rattle.note_text.specs.declared.notes.Note.{Note}
use Rattle.otio_model.specs.declared.objects.Object.{Object}
use Rattle.otio_model.specs.declared.timelines.Timeline.{Timeline}
use Rattle.media_rows.specs.declared.row.MediaRow.{MediaRow}
use Rattle.media_rows.specs.Rows.{AreRows}
use Rattle.media_list.specs.Lists.{IsMediaList}
use Rattle.media_list.proofs.OneOutcome.{list_once}
use Rattle.ale_text.specs.Logs.{IsLog}
use Rattle.ale_text.proofs.OneOutcome.{log_once}
use Rattle.ale_text.proofs.PlainRows.{log_plain}
use Rattle.edit_script.specs.declared.commands.ScriptCommand as script
use Rattle.edit_script.specs.Scripts.{IsScript}
use Rattle.source_files.specs.Formats.{IsJson, IsObject, IsTimeline, IsNotedList, Holds}
use Rattle.source_files.specs.Kinds as kinds
use Rattle.source_files.specs.Contents.{Content, Value, Root, Film, Events, Noted, Rows, Commands}
use Rattle.otio_tools.specs.Kept.{AreRowsAs}

pub gone_or_there : (bytes : List ℕ) (o : Option (List ℕ)) → o ≡ None → o ≡ Some bytes → ⊥
gone_or_there bytes None e f = cc
gone_or_there bytes (Some b) e f = cc

pub there_once : (a b : List ℕ) (o : Option (List ℕ)) → o ≡ Some a → o ≡ Some b → a ≡ b
there_once a b o e f = let both : Some a ≡ Some b = sym e ∙ f in cc

pub value_held : (bytes : List ℕ) (content : Content) → Holds kinds.Json bytes content
    → (value : Json) × (content ≡ Value value) × IsJson bytes value
value_held bytes (Value value) h = (value, refl, h)
value_held bytes (Root object) h = absurd h
value_held bytes (Film timeline) h = absurd h
value_held bytes (Events list) h = absurd h
value_held bytes (Noted noted said) h = absurd h
value_held bytes (Rows rows) h = absurd h
value_held bytes (Commands commands) h = absurd h

pub object_held : (bytes : List ℕ) (content : Content) → Holds kinds.Object bytes content
    → (object : Object) × (content ≡ Root object) × IsObject bytes object
object_held bytes (Root object) h = (object, refl, h)
object_held bytes (Value value) h = absurd h
object_held bytes (Film timeline) h = absurd h
object_held bytes (Events list) h = absurd h
object_held bytes (Noted noted said) h = absurd h
object_held bytes (Rows rows) h = absurd h
object_held bytes (Commands commands) h = absurd h

pub timeline_held : (bytes : List ℕ) (content : Content) → Holds kinds.Timeline bytes content
    → (timeline : Timeline) × (content ≡ Film timeline) × IsTimeline bytes timeline
timeline_held bytes (Film timeline) h = (timeline, refl, h)
timeline_held bytes (Value value) h = absurd h
timeline_held bytes (Root object) h = absurd h
timeline_held bytes (Events list) h = absurd h
timeline_held bytes (Noted noted said) h = absurd h
timeline_held bytes (Rows rows) h = absurd h
timeline_held bytes (Commands commands) h = absurd h

pub list_held : (rate : Rate) (bytes : List ℕ) (content : Content)
    → Holds (kinds.List rate) bytes content
    → (list : EventList) × (content ≡ Events list) × IsList rate bytes list
list_held rate bytes (Events list) h = (list, refl, h)
list_held rate bytes (Value value) h = absurd h
list_held rate bytes (Root object) h = absurd h
list_held rate bytes (Film timeline) h = absurd h
list_held rate bytes (Noted noted said) h = absurd h
list_held rate bytes (Rows rows) h = absurd h
list_held rate bytes (Commands commands) h = absurd h

pub noted_held : (rate : Rate) (bytes : List ℕ) (content : Content)
    → Holds (kinds.NotedList rate) bytes content
    → (list : EventList) × (said : List Note) × (content ≡ Noted list said)
    × IsNotedList rate bytes list said
noted_held rate bytes (Noted list said) h = (list, said, refl, h)
noted_held rate bytes (Events list) h = absurd h
noted_held rate bytes (Value value) h = absurd h
noted_held rate bytes (Root object) h = absurd h
noted_held rate bytes (Film timeline) h = absurd h
noted_held rate bytes (Rows rows) h = absurd h
noted_held rate bytes (Commands commands) h = absurd h

pub media_held : (bytes : List ℕ) (content : Content) → Holds kinds.Media bytes content
    → (rows : List MediaRow) × (content ≡ Rows rows) × IsMediaList bytes rows
media_held bytes (Rows rows) h = (rows, refl, h)
media_held bytes (Noted noted said) h = absurd h
media_held bytes (Value value) h = absurd h
media_held bytes (Root object) h = absurd h
media_held bytes (Film timeline) h = absurd h
media_held bytes (Events list) h = absurd h
media_held bytes (Commands commands) h = absurd h

pub log_held : (bytes : List ℕ) (content : Content) → Holds kinds.Log bytes content
    → (rows : List MediaRow) × (content ≡ Rows rows) × IsLog bytes rows
log_held bytes (Rows rows) h = (rows, refl, h)
log_held bytes (Noted noted said) h = absurd h
log_held bytes (Value value) h = absurd h
log_held bytes (Root object) h = absurd h
log_held bytes (Film timeline) h = absurd h
log_held bytes (Events list) h = absurd h
log_held bytes (Commands commands) h = absurd h

-- rows of a log or of a media list
pub rows_held_as : (log : Bool) (bytes : List ℕ) (content : Content)
    → Holds (cond log kinds.Log kinds.Media) bytes content
    → (rows : List MediaRow) × (content ≡ Rows rows) × AreRowsAs log bytes rows
rows_held_as true bytes content h = log_held bytes content h
rows_held_as false bytes content h = media_held bytes content h

-- the same bytes have the same rows
pub same_rows_as : (log : Bool) (bytes : List ℕ) (a b : List MediaRow) → AreRowsAs log bytes a
    → AreRowsAs log bytes b → a ≡ b
same_rows_as true bytes a b p q = log_once bytes a b p q
same_rows_as false bytes a b p q = list_once bytes a b p q

-- no two of them have one reel or one URL
pub rows_apart_as : (log : Bool) (bytes : List ℕ) (rows : List MediaRow)
    → AreRowsAs log bytes rows → AreRows rows
rows_apart_as true bytes rows h = (log_plain bytes rows h).0
rows_apart_as false bytes rows h = h.apart

pub script_held : (bytes : List ℕ) (content : Content) → Holds kinds.Script bytes content
    → (commands : Vec script.ScriptCommand) × (content ≡ Commands commands)
    × IsScript bytes commands.items
script_held bytes (Commands commands) h = (commands, refl, h)
script_held bytes (Noted noted said) h = absurd h
script_held bytes (Rows rows) h = absurd h
script_held bytes (Value value) h = absurd h
script_held bytes (Root object) h = absurd h
script_held bytes (Film timeline) h = absurd h
script_held bytes (Events list) h = absurd h
