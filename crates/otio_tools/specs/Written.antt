-- What is written of objects and timelines, and what is listed of them.
use Rattle.std.specs.Prelude.{◌≡◌, ℕ, List}
use Rattle.std.specs.declared.option.Option.{Option}
use Rattle.json_value.specs.declared.Json.{Json}
use Rattle.json_text.specs.Layout.{layout}
use Rattle.otio_model.specs.declared.objects.Object.{Object, Timeline as ObjectOfTimeline}
use Rattle.otio_model.specs.declared.timelines.Timeline.{Timeline}
use Rattle.schema_write.specs.Objects.{json_of, old_json_of}
use Rattle.edl_list.specs.declared.list.EventList.{EventList}
use Rattle.note_text.specs.Noted.{IsNoted}
use Rattle.note_text.specs.declared.notes.Note.{Note}
use Rattle.show_prog.specs.ListingTexts.{listed_text}
use Rattle.show_prog.specs.declared.frame_options.Listings.{Listings}
use Rattle.otio_tools.specs.Forms.{Answer, done}

-- the JSON of an object that is written, in the current schemas and the written order
unfoldable pub object_json : Object → Json
object_json object = json_of object

-- the same in the older family, where the object has a form there
unfoldable pub old_object_json : Object → Json
old_object_json object = old_json_of object

-- the text of a timeline
abbrev pub timeline_text : Timeline → List ℕ
timeline_text timeline = layout (object_json (ObjectOfTimeline timeline))

-- the answer to a timeline that is written
abbrev pub AnswersWritten : Option (List ℕ) → Timeline → Answer → Type 0
AnswersWritten target timeline answer = answer ≡ done target (timeline_text timeline)

-- the answer to a timeline that gets the notes of its list and is then answered so
abbrev pub AnswersNoted : EventList → List Note → (Timeline → Answer → Type 0) → Timeline → Answer
    → Type 0
AnswersNoted list notes Answers timeline answer = (noted : Timeline)
    × IsNoted timeline list notes noted × Answers noted answer

-- the listings of a timeline that are asked for
abbrev pub listings_text : Timeline → Listings → List ℕ
listings_text timeline asked =
    listed_text timeline asked.tracks asked.clips asked.media asked.stats
