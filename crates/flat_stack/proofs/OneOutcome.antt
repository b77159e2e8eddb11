-- There is one outcome.
use Rattle.std.proofs.Common.{◌≡◌, inl, inr, List, map}
use Rattle.otio_model.specs.declared.timelines.Timeline.{Timeline}
use Rattle.otio_model.specs.Timelines.{bare}
use Rattle.command_words.specs.declared.tools.ToolAsked.{ToolAsked}
use Rattle.flat_stack.specs.declared.step_faults.ToolFault.{ToolFault}
use Rattle.flat_stack.specs.Chains.{Then, Stops}
use Rattle.flat_stack.specs.Gathered.{IsGathered, IsUngathered}
use Rattle.flat_stack.specs.Shaped.{IsOnly, IsStraightened, IsTrimmed, IsUntrimmed, IsFlattened, IsUnflat}
use Rattle.flat_stack.specs.Tooled.{IsShaped, IsCut, IsTooled, IsToolFault, ungathered, untrimmed, unflat}
use Rattle.flat_stack.proofs.OneStep.{IsSure, Never, then_sure, only_sure, straight_sure, trim_sure, flat_sure}
use Rattle.flat_stack.proofs.OneGathered.{bares, gathered_sure}

-- the steps' faults, one step after another
abbrev KeptStops : ToolAsked → List Timeline → ToolFault → Type 0
KeptStops asked = Stops (IsGathered asked.joining) (IsUngathered asked.joining) Never

abbrev ShapedStops : ToolAsked → List Timeline → ToolFault → Type 0
ShapedStops asked =
    Stops (Then (IsGathered asked.joining) (IsOnly asked.only)) (KeptStops asked) Never

abbrev CutStops : ToolAsked → List Timeline → ToolFault → Type 0
CutStops asked = Stops (IsShaped asked) (ShapedStops asked) (IsUntrimmed asked.trim)

abbrev AllStops : ToolAsked → List Timeline → ToolFault → Type 0
AllStops asked =
    Stops (IsCut asked) (CutStops asked) (IsUnflat asked.flatten asked.keep_flattened)

kept_sure : (asked : ToolAsked)
    → IsSure bares (Then (IsGathered asked.joining) (IsOnly asked.only)) (KeptStops asked)
kept_sure asked =
    then_sure bares (IsGathered asked.joining) (IsUngathered asked.joining) (IsOnly asked.only)
    Never (gathered_sure asked.joining) (only_sure asked.only)

shaped_sure : (asked : ToolAsked) → IsSure bares (IsShaped asked) (ShapedStops asked)
shaped_sure asked =
    then_sure bares (Then (IsGathered asked.joining) (IsOnly asked.only)) (KeptStops asked)
    (IsStraightened asked.remove_transitions) Never (kept_sure asked)
    (straight_sure asked.remove_transitions)

cut_sure : (asked : ToolAsked) → IsSure bares (IsCut asked) (CutStops asked)
cut_sure asked =
    then_sure bares (IsShaped asked) (ShapedStops asked) (IsTrimmed asked.trim)
    (IsUntrimmed asked.trim) (shaped_sure asked) (trim_sure asked.trim)

all_sure : (asked : ToolAsked) → IsSure bares (IsTooled asked) (AllStops asked)
all_sure asked =
    then_sure bares (IsCut asked) (CutStops asked)
    (IsFlattened asked.flatten asked.keep_flattened)
    (IsUnflat asked.flatten asked.keep_flattened) (cut_sure asked)
    (flat_sure asked.flatten asked.keep_flattened)

stops : (asked : ToolAsked) (inputs : List Timeline) (f : ToolFault)
    → IsToolFault asked inputs f → AllStops asked inputs f
stops asked inputs f (ungathered h) = inl (inl (inl (inl h)))
stops asked inputs f (untrimmed t h k) = inl (inr (t, h, k))
stops asked inputs f (unflat t h k) = inr (t, h, k)

pub one_result : (asked : ToolAsked) (a b : List Timeline) (r q : Timeline)
    → map bare a ≡ map bare b → IsTooled asked a r → IsTooled asked b q → bare r ≡ bare q
one_result asked a b r q e x y = let sure = all_sure asked in sure.one a b r q e x y

pub never_both : (asked : ToolAsked) (a b : List Timeline) (r : Timeline) (f : ToolFault)
    → map bare a ≡ map bare b → IsTooled asked a r → IsToolFault asked b f → ⊥
never_both asked a b r f e x y =
    let sure = all_sure asked in sure.never a b r f e x (stops asked b f y)

pub one_fault : (asked : ToolAsked) (a b : List Timeline) (f g : ToolFault)
    → map bare a ≡ map bare b → IsToolFault asked a f → IsToolFault asked b g → f ≡ g
one_fault asked a b f g e x y =
    let sure = all_sure asked in sure.fault a b f g e (stops asked a f x) (stops asked b g y)
