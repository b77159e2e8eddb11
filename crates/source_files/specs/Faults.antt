-- The table of messages: what is told of each fault after the name of its file. Out of memory has
-- a message of its own.
use Rattle.std.specs.Prelude.{ℕ, List, [], codes}
use Rattle.json_text.specs.declared.faults.JsonFault.{JsonFault}
use Rattle.json_text.specs.declared.faults.JsonFault.TheVariants as json
use Rattle.edl_text.specs.declared.faults.EdlFault.{EdlFault}
use Rattle.edl_text.specs.declared.faults.EdlFault.TheVariants as edl
use Rattle.schema_rows.specs.declared.faults.SchemaFault.{SchemaFault}
use Rattle.schema_rows.specs.declared.faults.SchemaFault.TheVariants as schema
use Rattle.coord.specs.declared.faults.CoordFault.{CoordFault}
use Rattle.coord.specs.declared.faults.CoordFault.TheVariants as coord
use Rattle.media_list.specs.declared.faults.MediaFault.{MediaFault}
use Rattle.media_list.specs.declared.faults.MediaFault.TheVariants as media
use Rattle.ale_text.specs.declared.faults.AleFault.{AleFault}
use Rattle.ale_text.specs.declared.faults.AleFault.TheVariants as ale
use Rattle.edl_frames.specs.declared.faults.ConformFault.{ConformFault}
use Rattle.edl_frames.specs.declared.faults.ConformFault.TheVariants as conform
use Rattle.edl_frames.specs.declared.reasons.Why.{Why}
use Rattle.edl_frames.specs.declared.reasons.Why.TheVariants as why
use Rattle.edl_frames.specs.declared.reasons.NotCarried.{NotCarried}
use Rattle.edl_frames.specs.declared.reasons.NotCarried.TheVariants as carried
use Rattle.edit_script.specs.declared.commands.ScriptFault.{ScriptFault}
use Rattle.edit_script.specs.declared.commands.ScriptFault.TheVariants as script
use Rattle.otio_model.specs.declared.edit_types.EditFault.{EditFault}
use Rattle.otio_model.specs.declared.edit_types.EditFault.TheVariants as edit
use Rattle.undo_log.specs.declared.faults.UndoFault.{UndoFault}
use Rattle.undo_log.specs.declared.faults.UndoFault.TheVariants as undo
use Rattle.flat.specs.declared.faults.FlatFault.{FlatFault}
use Rattle.flat.specs.declared.faults.FlatFault.TheVariants as flat
use Rattle.schema_write.specs.declared.old_faults.FamilyFault.{FamilyFault}
use Rattle.schema_write.specs.declared.old_faults.FamilyFault.TheVariants as family
use Rattle.source_files.specs.Reasons.{refusal, number_text, item_text, field_text, line_at_text}

-- bytes that are no JSON text
abbrev pub json_fault_text : JsonFault → List ℕ
json_fault_text (json.Syntax offset) = refusal (codes "J1") (codes "Syntax") (number_text offset)
json_fault_text (json.Utf8 offset) = refusal (codes "J2") (codes "Utf8") (number_text offset)
json_fault_text (json.Depth offset) = refusal (codes "J3") (codes "Depth") (number_text offset)
json_fault_text json.Large = refusal (codes "J4") (codes "Large") []
json_fault_text json.Memory = []

-- bytes that are no list of events
abbrev pub list_fault_text : EdlFault → List ℕ
list_fault_text (edl.Form line) = refusal (codes "L1") (codes "Form") (number_text line)
list_fault_text (edl.Timecode line) = refusal (codes "L2") (codes "Timecode") (number_text line)
list_fault_text (edl.Order line) = refusal (codes "L3") (codes "Order") (number_text line)
list_fault_text (edl.Unequal line) = refusal (codes "L4") (codes "Unequal") (number_text line)
list_fault_text (edl.Key line) = refusal (codes "L5") (codes "Key") (number_text line)
list_fault_text (edl.Split line) = refusal (codes "L6") (codes "Split") (number_text line)
list_fault_text (edl.Overlap line) = refusal (codes "L7") (codes "Overlap") (number_text line)
list_fault_text (edl.Reverse line) = refusal (codes "L8") (codes "Reverse") (number_text line)
list_fault_text edl.Large = refusal (codes "L9") (codes "Large") []
list_fault_text edl.Memory = []

-- bytes that are no media list
abbrev pub media_fault_text : MediaFault → List ℕ
media_fault_text (media.Line line) = refusal (codes "M1") (codes "Line") (number_text line)
media_fault_text (media.Rate line) = refusal (codes "M5") (codes "Rate") (number_text line)
media_fault_text (media.Range line) = refusal (codes "M4") (codes "Range") (number_text line)
media_fault_text (media.ReelTwice line) =
    refusal (codes "M2") (codes "ReelTwice") (number_text line)
media_fault_text (media.UrlTwice line) = refusal (codes "M3") (codes "UrlTwice") (number_text line)
media_fault_text media.Large = refusal (codes "M6") (codes "Large") []
media_fault_text media.Memory = []

-- bytes that are no log
abbrev pub ale_fault_text : AleFault → List ℕ
ale_fault_text (ale.Form line) = refusal (codes "A1") (codes "Form") (number_text line)
ale_fault_text (ale.Rate line) = refusal (codes "A2") (codes "Rate") (number_text line)
ale_fault_text (ale.Label line) = refusal (codes "A3") (codes "Label") (number_text line)
ale_fault_text ale.Large = refusal (codes "A4") (codes "Large") []
ale_fault_text ale.Memory = []

-- bytes that are no script
abbrev pub script_fault_text : ScriptFault → List ℕ
script_fault_text (script.Line line) = refusal (codes "P1") (codes "Line") (number_text line)
script_fault_text script.Many = refusal (codes "P3") (codes "Many") []
script_fault_text script.Large = refusal (codes "P4") (codes "Large") []
script_fault_text script.Memory = []

-- a command, on that line of a script, one of whose times is out of range
abbrev pub far_command_text : ℕ → List ℕ
far_command_text line = refusal (codes "P1") (codes "Line") (number_text line)

-- a command, on that line of a script, whose clip is of a reel that isn't listed
abbrev pub unlisted_text : ℕ → List ℕ
unlisted_text line = refusal (codes "P2") (codes "NoReel") (number_text line)

-- an edit, on that line of a script, that isn't made
abbrev pub edit_fault_text : ℕ → EditFault → List ℕ
edit_fault_text line edit.Place = refusal (codes "E1") (codes "Place") (number_text line)
edit_fault_text line edit.NotTrack = refusal (codes "E2") (codes "NotTrack") (number_text line)
edit_fault_text line edit.Negative = refusal (codes "E3") (codes "Negative") (number_text line)
edit_fault_text line edit.NoItem = refusal (codes "E4") (codes "NoItem") (number_text line)
edit_fault_text line edit.NotGap = refusal (codes "E5") (codes "NotGap") (number_text line)
edit_fault_text line edit.Empty = refusal (codes "E6") (codes "Empty") (number_text line)
edit_fault_text line edit.NoNeighbour =
    refusal (codes "E11") (codes "NoNeighbour") (number_text line)
edit_fault_text line edit.Speed = refusal (codes "E12") (codes "Speed") (number_text line)
edit_fault_text line edit.Phase = refusal (codes "E7") (codes "Phase") (number_text line)
edit_fault_text line (edit.Unpinned place) =
    refusal (codes "E8") (codes "Unpinned") (line_at_text line place)
edit_fault_text line edit.TooLong = refusal (codes "E9") (codes "TooLong") (number_text line)
edit_fault_text line edit.Items = refusal (codes "E10") (codes "Items") (number_text line)
edit_fault_text line edit.Memory = []

-- a step in the log, on that line of a script, that isn't made
abbrev pub undo_fault_text : ℕ → UndoFault → List ℕ
undo_fault_text line undo.NothingDone =
    refusal (codes "H1") (codes "NothingDone") (number_text line)
undo_fault_text line undo.NothingUndone =
    refusal (codes "H2") (codes "NothingUndone") (number_text line)

-- a list that isn't conformed
abbrev pub conform_fault_text : ConformFault → List ℕ
conform_fault_text (conform.NoReel line) = refusal (codes "Q1") (codes "NoReel") (number_text line)
conform_fault_text (conform.Rate line) = refusal (codes "Q3") (codes "Rate") (number_text line)
conform_fault_text (conform.Outside line) =
    refusal (codes "Q2") (codes "Outside") (number_text line)
conform_fault_text conform.Items = refusal (codes "Q4") (codes "Items") []
conform_fault_text conform.Memory = []

-- an object, or timelines one after another or above each other, of too many items
abbrev pub items_text : List ℕ
items_text = refusal (codes "G1") (codes "Items") []

-- a value that stands for no object
abbrev pub fault_text : SchemaFault → List ℕ
fault_text (schema.NotObject place) = refusal (codes "S1") (codes "NotObject") (item_text place)
fault_text (schema.UnknownChild place) =
    refusal (codes "S2") (codes "UnknownChild") (item_text place)
fault_text (schema.Newer place) = refusal (codes "S3") (codes "Newer") (item_text place)
fault_text (schema.Field place member) =
    refusal (codes "S4") (codes "Field") (field_text place member)
fault_text (schema.Rate place) = refusal (codes "S5") (codes "Rate") (item_text place)
fault_text (schema.Range place) = refusal (codes "S6") (codes "Range") (item_text place)
fault_text (schema.Transitions place) = refusal (codes "S7") (codes "Transitions") (item_text place)
fault_text schema.Items = items_text
fault_text schema.Memory = []

-- a timeline that isn't sound
abbrev pub coord_fault_text : CoordFault → List ℕ
coord_fault_text coord.StartOffFrame = refusal (codes "K2") (codes "StartOffFrame") []
coord_fault_text (coord.NoLength place) = refusal (codes "K1") (codes "NoLength") (item_text place)
coord_fault_text (coord.Speed place) = refusal (codes "K5") (codes "Speed") (item_text place)
coord_fault_text (coord.Long place) = refusal (codes "K4") (codes "Long") (item_text place)
coord_fault_text coord.Memory = []

-- a timeline that isn't written as a list, at the place of a child or of the whole
abbrev pub why_text : Why → List ℕ → List ℕ
why_text why.Tracks place = refusal (codes "N1") (codes "Tracks") (item_text place)
why_text why.Nested place = refusal (codes "N2") (codes "Nested") (item_text place)
why_text why.OffFrame place = refusal (codes "N3") (codes "OffFrame") (item_text place)
why_text why.NoReel place = refusal (codes "N4") (codes "NoReel") (item_text place)
why_text why.RateDiffers place = refusal (codes "N5") (codes "RateDiffers") (item_text place)
why_text why.SourceDay place = refusal (codes "N6") (codes "SourceDay") (item_text place)
why_text why.Effect place = refusal (codes "N7") (codes "Effect") (item_text place)
why_text why.Speed place = refusal (codes "N8") (codes "Speed") (item_text place)
why_text why.Phase place = refusal (codes "N9") (codes "Phase") (item_text place)
why_text why.Overlap place = refusal (codes "N10") (codes "Overlap") (item_text place)
why_text why.Kind place = refusal (codes "N11") (codes "Kind") (item_text place)
why_text why.Outside place = refusal (codes "N12") (codes "Outside") (item_text place)
why_text why.Events place = refusal (codes "N13") (codes "Events") (item_text place)
why_text why.RecordDay place = refusal (codes "N14") (codes "RecordDay") (item_text place)
why_text why.NoTimecode place = refusal (codes "N15") (codes "NoTimecode") (item_text place)

abbrev pub not_carried_text : NotCarried → List ℕ
not_carried_text (carried.At place why) = why_text why place
not_carried_text carried.Memory = []

-- a list whose rate has no timecode, or none with drop-frame where that is written
abbrev pub no_timecode_text : List ℕ
no_timecode_text = why_text why.NoTimecode []

-- a list with more events than one that is written may have
abbrev pub events_text : List ℕ
events_text = why_text why.Events []

-- a list whose event of that line has a reel that the narrow layout has no room for
abbrev pub reel_text : ℕ → List ℕ
reel_text line = refusal (codes "L11") (codes "Reel") (number_text line)

-- a list whose event of that line has a label past the day
abbrev pub day_text : ℕ → List ℕ
day_text line = refusal (codes "L10") (codes "Day") (number_text line)

-- a collection or an item where a timeline is asked for
abbrev pub not_timeline_text : List ℕ
not_timeline_text = refusal (codes "G3") (codes "NotTimeline") []

-- there are more record frames than a pull list is made of
abbrev pub pull_frames_text : List ℕ
pull_frames_text = refusal (codes "U1") (codes "Frames") []

-- a record point that is no label at the record rate
abbrev pub range_text : List ℕ
range_text = refusal (codes "X4") (codes "Range") []

-- a timeline that isn't flattened, cut to a window or joined
abbrev pub flat_fault_text : FlatFault → List ℕ
flat_fault_text (flat.Nested place) = refusal (codes "X1") (codes "Nested") (item_text place)
flat_fault_text (flat.Transition place) =
    refusal (codes "X2") (codes "Transition") (item_text place)
flat_fault_text (flat.Phase place) = refusal (codes "X3") (codes "Phase") (item_text place)
flat_fault_text flat.Range = range_text
flat_fault_text flat.Memory = []

-- an object without a form in the older family of schemas
abbrev pub family_fault_text : FamilyFault → List ℕ
family_fault_text (family.Keys place) = refusal (codes "Y1") (codes "Keys") (item_text place)
family_fault_text (family.Member place) = refusal (codes "Y2") (codes "Member") (item_text place)
family_fault_text family.Memory = []
