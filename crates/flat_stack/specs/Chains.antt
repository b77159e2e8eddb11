-- Steps one after another.
use Rattle.std.specs.Prelude.{◌≢◌, ◌⊎◌}
use Rattle.otio_model.specs.declared.timelines.Timeline.{Timeline}
use Rattle.flat_stack.specs.declared.step_faults.ToolFault.{ToolFault}
use Rattle.flat_stack.specs.declared.step_faults.ToolFault.TheVariants.{Memory}

-- what comes of one step and then of another
abbrev pub Then : {A : Type 0} → (A → Timeline → Type 0) → (Timeline → Timeline → Type 0)
    → A → Timeline → Type 0
Then first next a r = (m : Timeline) × first a m × next m r

-- why nothing comes of both: the first step is refused, or the other one of what came of the first
abbrev pub Stops : {A : Type 0} → (A → Timeline → Type 0) → (A → ToolFault → Type 0)
    → (Timeline → ToolFault → Type 0) → A → ToolFault → Type 0
Stops first first_stops next_stops a fault =
    first_stops a fault ⊎ ((m : Timeline) × first a m × next_stops m fault)

-- what a fault tells; want of memory may come at any time
abbrev pub Told : (ToolFault → Type 0) → ToolFault → Type 0
Told tells fault = fault ≢ Memory → tells fault
