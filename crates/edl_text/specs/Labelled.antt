-- The first event that has a label past the day.
use Rattle.std.specs.Prelude.{◌≡◌, ℕ, Bool, Option, Some, None, List, ◌∷◌, ◌++◌, All}
use Rattle.tick_time.specs.declared.rates.Rate.{Rate}
use Rattle.edl_list.specs.declared.list.Event.{Event}
use Rattle.edl_list.specs.Labelled.{IsLabelled}

-- the line of the first of these events that isn't such a one; none where each event is one
abbrev pub IsFirstNot : (Event → Type 0) → List Event → Option ℕ → Type 0
IsFirstNot Is events None = All Is events
IsFirstNot Is events (Some line) =
    (before : List Event) × (after : List Event) × (event : Event)
    × (events ≡ before ++ event ∷ after) × (line ≡ event.line) × All Is before
    × (Is event → ⊥)

-- the line of the first of these events that has a label past the day; none where no event has one
abbrev pub IsFirstPast : Rate → Bool → List Event → Option ℕ → Type 0
IsFirstPast rate drop events line = IsFirstNot (IsLabelled rate drop) events line
