-- What files hold.
use Rattle.std.specs.Prelude.{List}
use Rattle.std.specs.Global.{Vec}
use Rattle.json_value.specs.declared.Json.{Json}
use Rattle.otio_model.specs.declared.objects.Object.{Object}
use Rattle.otio_model.specs.declared.timelines.Timeline.{Timeline}
use Rattle.edl_list.specs.declared.list.EventList.{EventList}
use Rattle.note_text.specs.declared.notes.Note.{Note}
use Rattle.media_rows.specs.declared.row.MediaRow.{MediaRow}
use Rattle.edit_script.specs.declared.commands.ScriptCommand.{ScriptCommand}

-- The value of a JSON text, an object, a timeline, a list without its notes or with them, the rows
-- of a media list or of a log, or the commands of a script.
pub data Content : Type 0 where
  Value : (value : Json) → Content
  Root : (object : Object) → Content
  Film : (timeline : Timeline) → Content
  Events : (list : EventList) → Content
  Noted : (list : EventList) → (notes : List Note) → Content
  Rows : (rows : List MediaRow) → Content
  Commands : (commands : Vec ScriptCommand) → Content
