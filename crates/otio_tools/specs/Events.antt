-- The answer to a list of events that is written as a list, with drop-frame timecode or without, in
-- the wide layout or the narrow one.
use Rattle.std.specs.Prelude.{◌≡◌, ◌≤◌, ◌<◌, Bool, false, IsSome, ℕ, List, Some, None, length}
use Rattle.std.specs.declared.option.Option.{Option}
use Rattle.smpte_tc.specs.Modes.{mode_of}
use Rattle.edl_list.specs.Layouts.{layout_of, most_events, FitsLayout}
use Rattle.edl_list.specs.declared.list.EventList.{EventList}
use Rattle.edl_text.specs.Labelled.{IsFirstPast}
use Rattle.edl_text.specs.Wide.{IsFirstWide}
use Rattle.source_files.specs.Faults.{no_timecode_text, events_text, reel_text, day_text}
use Rattle.otio_tools.specs.Forms.{Answer, done, refused}

-- The rate of the list has timecode in that mode, and the layout has a number for each event and
-- room for each reel.
pub record CanBeWritten (list : EventList) (drop wide : Bool) : Type 0 where
  pub timecode : IsSome (mode_of list.rate drop)
  pub fits : FitsLayout (layout_of wide) list

-- The first refusal that holds, told of the file of that name; else this text, the list in its one
-- spelling, with its notes or without.
pub data AnswersEvents (name : List ℕ) (target : Option (List ℕ)) (list : EventList)
    (drop wide : Bool) (text : List ℕ) (answer : Answer) : Type 0 where
  NoTimecode : mode_of list.rate drop ≡ None → answer ≡ refused name no_timecode_text
      → AnswersEvents name target list drop wide text answer
  TooMany : IsSome (mode_of list.rate drop) → most_events (layout_of wide) < length list.events
      → answer ≡ refused name events_text → AnswersEvents name target list drop wide text answer
  WideReel : IsSome (mode_of list.rate drop) → length list.events ≤ most_events (layout_of wide)
      → wide ≡ false → (line : ℕ) → IsFirstWide list.events (Some line)
      → answer ≡ refused name (reel_text line)
      → AnswersEvents name target list drop wide text answer
  PastDay : CanBeWritten list drop wide → (line : ℕ)
      → IsFirstPast list.rate drop list.events (Some line)
      → answer ≡ refused name (day_text line)
      → AnswersEvents name target list drop wide text answer
  Spelled : CanBeWritten list drop wide → IsFirstPast list.rate drop list.events None
      → answer ≡ done target text
      → AnswersEvents name target list drop wide text answer
