-- The answer to a list that is conformed, and what is asked of its timeline.
use Rattle.std.specs.Prelude.{◌≡◌, ◌≢◌, ◌≤◌, ℕ, List, [], ◌∷◌, Some, None}
use Rattle.limits.specs.Limits.{most_items}
use Rattle.otio_model.specs.declared.timelines.Timeline.{Timeline}
use Rattle.edl_list.specs.declared.list.EventList.{EventList}
use Rattle.media_rows.specs.Rows.{MediaRows}
use Rattle.edl_frames.specs.Conformed.{IsTimelineOf}
use Rattle.edl_frames.specs.Refused.{IsAccepted}
use Rattle.edl_frames.specs.Counted.{item_count}
use Rattle.edl_frames.specs.Faults.{IsConformFault}
use Rattle.edl_frames.specs.declared.faults.ConformFault.{ConformFault}
use Rattle.edl_frames.specs.declared.faults.ConformFault.TheVariants.{Memory}
use Rattle.source_files.specs.Faults.{conform_fault_text}
use Rattle.source_files.specs.Contents.{Content, Value, Root, Film, Events, Noted, Rows, Commands}
use Rattle.otio_tools.specs.Forms.{Answer, refused}

-- the media list after a list, where one was read
abbrev pub media_in : List Content → MediaRows
media_in [] = None
media_in (Rows rows ∷ more) = Some rows
media_in (Value value ∷ more) = None
media_in (Root object ∷ more) = None
media_in (Film timeline ∷ more) = None
media_in (Events list ∷ more) = None
media_in (Noted list notes ∷ more) = None
media_in (Commands commands ∷ more) = None

-- The first fault of a list that isn't conformed, told of the file of that name; else the answer to
-- its timeline.
pub data AnswersConformed (name : List ℕ) (list : EventList) (media : MediaRows)
    (Is : Timeline → Answer → Type 0) (answer : Answer) : Type 0 where
  NotConformed : (fault : ConformFault) → fault ≢ Memory → IsConformFault list media fault
      → answer ≡ refused name (conform_fault_text fault)
      → AnswersConformed name list media Is answer
  Conformed : (timeline : Timeline) → IsTimelineOf list media timeline → IsAccepted list media
      → item_count list ≤ most_items → Is timeline answer
      → AnswersConformed name list media Is answer
