-- The events that notes may belong to, sorted by their lines.
use Rattle.std.specs.Prelude.{◌≡◌, ◌==◌, ℕ, suc, Bool, false, cond, List, [], ◌∷◌, option_map, unwrap_or, filter}
use Rattle.std.specs.List.{slice_get}
use Rattle.std.specs.List.Sorted.{IsNonDecreasingBy}
use Rattle.tick_time.specs.declared.rates.Rate.{Rate}
use Rattle.edl_list.specs.declared.list.Event.{Event}
use Rattle.edl_frames.specs.Conformed.{is_black}
use Rattle.note_text.specs.Belonging.{does_count}
use Rattle.note_text.specs.declared.notes.Said.{Said}
use Rattle.note_text.specs.declared.notes.Note.{Note}
use Rattle.note_text.specs.declared.reading.Owner.{Owner}

-- the events that aren't black, counted from this place
abbrev pub owners_from : ℕ → List Event → List Owner
owners_from index [] = []
owners_from index (e ∷ events) =
    cond (is_black e.to.reel) (owners_from (suc index) events)
    (record { line = e.line; index = index } ∷ owners_from (suc index) events)

-- they stand in the order of their lines, and those of each line in the order of the list
pub record AreOwners (events : List Event) (owners : List Owner) : Type 0 where
  pub rising : IsNonDecreasingBy (λ (owner : Owner). owner.line) owners
  pub same : (line : ℕ)
      → filter (λ (owner : Owner). owner.line == line) owners
      ≡ filter (λ (owner : Owner). owner.line == line) (owners_from 0 events)

-- whether what is said counts for the event at a place
abbrev pub gives : Rate → List Event → Said → ℕ → Bool
gives rate events said index =
    unwrap_or (option_map (λ e. does_count rate e said) (slice_get events index)) false

-- the notes that owners have of what is said
abbrev pub notes_given : Rate → List Event → Said → List Owner → List Note
notes_given rate events said [] = []
notes_given rate events said (owner ∷ owners) =
    cond (gives rate events said owner.index)
    (record { event = owner.index; said = said } ∷ notes_given rate events said owners)
    (notes_given rate events said owners)
