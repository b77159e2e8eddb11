-- What comes of timelines, and why there is nothing.
use Rattle.std.specs.Prelude.{List}
use Rattle.otio_model.specs.declared.timelines.Timeline.{Timeline}
use Rattle.command_words.specs.declared.tools.ToolAsked.{ToolAsked}
use Rattle.flat_stack.specs.declared.step_faults.ToolFault.{ToolFault}
use Rattle.flat_stack.specs.Chains.{Then}
use Rattle.flat_stack.specs.Gathered.{IsGathered, IsUngathered}
use Rattle.flat_stack.specs.Shaped.{IsOnly, IsStraightened, IsTrimmed, IsUntrimmed, IsFlattened, IsUnflat}

-- the inputs as one timeline, with the tracks of a kind alone, and without transitions, as asked
abbrev pub IsShaped : ToolAsked → List Timeline → Timeline → Type 0
IsShaped asked =
    Then (Then (IsGathered asked.joining) (IsOnly asked.only))
    (IsStraightened asked.remove_transitions)

-- then trimmed to a window
abbrev pub IsCut : ToolAsked → List Timeline → Timeline → Type 0
IsCut asked = Then (IsShaped asked) (IsTrimmed asked.trim)

-- and then flattened
abbrev pub IsTooled : ToolAsked → List Timeline → Timeline → Type 0
IsTooled asked = Then (IsCut asked) (IsFlattened asked.flatten asked.keep_flattened)

-- the fault of the first step that is refused
pub data IsToolFault (asked : ToolAsked) (inputs : List Timeline) (fault : ToolFault)
    : Type 0 where
  ungathered : IsUngathered asked.joining inputs fault → IsToolFault asked inputs fault
  untrimmed : (t : Timeline) → IsShaped asked inputs t → IsUntrimmed asked.trim t fault
      → IsToolFault asked inputs fault
  unflat : (t : Timeline) → IsCut asked inputs t
      → IsUnflat asked.flatten asked.keep_flattened t fault → IsToolFault asked inputs fault
