-- The answer to a timeline that is written as the list of its events, with drop-frame timecode or
-- without, in the wide layout or the narrow one.
use Rattle.std.specs.Prelude.{◌≡◌, ◌≢◌, Bool, true, false, ℕ, List, None, IsUtf8, All}
use Rattle.std.specs.declared.option.Option.{Option}
use Rattle.otio_model.specs.declared.timelines.Timeline.{Timeline}
use Rattle.coord.specs.Soundness.{IsFaultless, IsFaultOf}
use Rattle.coord.specs.declared.faults.CoordFault.{CoordFault}
use Rattle.coord.specs.declared.faults.CoordFault.TheVariants as coord
use Rattle.edl_list.specs.declared.list.EventList.{EventList}
use Rattle.media_rows.specs.Rows.{MediaRows}
use Rattle.edl_frames.specs.Carried.{not_carried, IsListOf, IsNotCarried}
use Rattle.edl_frames.specs.declared.reasons.NotCarried.{NotCarried}
use Rattle.edl_frames.specs.declared.reasons.NotCarried.TheVariants as carried
use Rattle.edl_law.specs.Law.{HasNames}
use Rattle.edl_text.specs.Spelling.{spelling}
use Rattle.note_text.specs.Found.{AreNotesOf}
use Rattle.note_text.specs.NotedSpelling.{noted_spelling}
use Rattle.note_text.specs.declared.notes.Note.{Note}
use Rattle.note_law.specs.Law.{HasText}
use Rattle.source_files.specs.Faults.{coord_fault_text, not_carried_text}
use Rattle.otio_tools.specs.Forms.{Answer, done, refused}

-- the title and the names of clips are UTF-8, as each text is
pub record HasTexts (list : EventList) : Type 0 where
  pub title : IsUtf8 list.title
  pub names : All HasNames list.events

-- the text of the list of a timeline's events, with the notes of its clips or without
abbrev pub IsTextOf : Bool → Timeline → (drop wide : Bool) → EventList → List ℕ → Type 0
IsTextOf false timeline drop wide list text = text ≡ spelling list drop wide
IsTextOf true timeline drop wide list text = (notes : List Note) × AreNotesOf timeline list notes
    × All (λ note. HasText note.said) notes × (text ≡ noted_spelling list notes drop wide)

-- The first fault of a timeline that isn't sound, told of the file of that name; then the first
-- child that a list doesn't carry, with its first reason; else the list of its events in its one
-- spelling, with the notes of its clips where these are asked for.
pub data AnswersCarried (notes drop wide : Bool) (name : List ℕ) (media : MediaRows)
    (target : Option (List ℕ)) (timeline : Timeline) (answer : Answer) : Type 0 where
  NotSound : (fault : CoordFault) → fault ≢ coord.Memory → IsFaultOf timeline fault
      → answer ≡ refused name (coord_fault_text fault)
      → AnswersCarried notes drop wide name media target timeline answer
  Left : IsFaultless timeline → (fault : NotCarried) → fault ≢ carried.Memory
      → IsNotCarried timeline media drop wide fault
      → answer ≡ refused name (not_carried_text fault)
      → AnswersCarried notes drop wide name media target timeline answer
  Carried : IsFaultless timeline → not_carried timeline media drop wide ≡ None
      → (list : EventList) → IsListOf timeline media drop wide list → HasTexts list
      → (text : List ℕ) → IsTextOf notes timeline drop wide list text → answer ≡ done target text
      → AnswersCarried notes drop wide name media target timeline answer
