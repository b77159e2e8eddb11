-- How far a drill has run, on a log and its timeline.
use Rattle.std.specs.Prelude.{◌≡◌, ◌≤◌, ℕ, ◌+◌, Bool, true, false, Some, None}
use Rattle.otio_model.specs.declared.timelines.Timeline.{Timeline}
use Rattle.undo_log.specs.Histories.{History}
use Rattle.undo_log.specs.States.{State, back, state_of}
use Rattle.edit_script.specs.declared.commands.Act.{Act}
use Rattle.media_rows.specs.Rows.{MediaRows}
use Rattle.edit_script.specs.Keeping.{HoldsEdits}
use Rattle.edit_script.specs.Runs.{Takes}
use Rattle.edit_script.specs.Steps.{IsReady}
use Rattle.drill.specs.Rounds.{Drills, IsRefusedAct, Round}
use Rattle.drill.specs.Rewinding.{rewound}

-- the round that a log and its timeline are
abbrev pub round_of : ℕ → History → Timeline → ℕ → Round
round_of number h t accepted =
    record { number = number; state = state_of h t; accepted = accepted }

-- an act was tried on the log h and the timeline t, which are k and u since
abbrev pub WasTried :
    MediaRows → Act → History → Timeline → History → Timeline → Bool → Type 0
WasTried media a h t k u true = Takes media a (state_of h t) (state_of k u)
WasTried media a h t k u false =
    IsRefusedAct media a (state_of h t) × (state_of k u ≡ state_of h t)

-- so many edits were tried from one number on
pub record HasDrilled (media : MediaRows) (n number next accepted : ℕ) (h : History)
    (t : Timeline) (k : History) (u : Timeline)
    : Type 0 where
  pub ready : IsReady k u
  pub drills : Drills media n (round_of number h t 0) (round_of next k u accepted)
  pub few : accepted ≤ n
  pub holds : HoldsEdits h t → HoldsEdits k u

-- some edits were undone
pub record HasRewound (h : History) (t : Timeline) (k : History) (u : Timeline) : Type 0 where
  pub ready : IsReady k u
  pub same : rewound (state_of k u) ≡ rewound (state_of h t)
  pub holds : HoldsEdits h t → HoldsEdits k u

-- a step back was tried in the state s, which is r since
abbrev pub WentBack : State → State → Bool → Type 0
WentBack s r true = back s ≡ Some r
WentBack s r false = (back s ≡ None) × (r ≡ s)

-- one more where an edit was accepted
abbrev pub counted : ℕ → Bool → ℕ
counted n true = n + 1
counted n false = n
