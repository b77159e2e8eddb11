-- The edits of a drill, one after another.
use Rattle.std.specs.Prelude.{◌≡◌, ℕ, zero, suc, ◌+◌}
use Rattle.undo_log.specs.States.{State}
use Rattle.edit_script.specs.declared.commands.Act.{Act}
use Rattle.edit_script.specs.declared.faults.CommandFault.{CommandFault}
use Rattle.media_rows.specs.Rows.{MediaRows}
use Rattle.edit_script.specs.Runs.{IsHalted, Takes}
use Rattle.drill.specs.Acts.{Drawn, act}
use Rattle.drill.specs.Frames.{track_frames}

-- how far a drill is: the generator's number, the timelines and the position among them, and how
-- many edits were accepted
pub record Round : Type 0 where
  pub number : ℕ
  pub state : State
  pub accepted : ℕ

-- what is drawn next
abbrev pub drawn : Round → Drawn
drawn r = act (track_frames r.state.now) r.number

-- the act is refused in the state, for some fault
abbrev pub IsRefusedAct : MediaRows → Act → State → Type 0
IsRefusedAct media a s =
    (fault : CommandFault) × IsHalted media (record { line = 0; act = a }) s fault

-- One edit is drawn and tried. Where it is accepted it takes the state to the next one, and is
-- counted; where it is refused all stays but the generator's number.
pub data Goes (media : MediaRows) (a b : Round) : Type 0 where
  accepted : Takes media (drawn a).act a.state b.state → b.number ≡ (drawn a).state
      → b.accepted ≡ a.accepted + 1 → Goes media a b
  refused : IsRefusedAct media (drawn a).act a.state → b ≡ record a { number = (drawn a).state }
      → Goes media a b

-- so many edits are drawn and tried
abbrev pub Drills : MediaRows → ℕ → Round → Round → Type 0
Drills media zero a b = b ≡ a
Drills media (suc n) a b = (c : Round) × Drills media n a c × Goes media c b
