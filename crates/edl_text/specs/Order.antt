-- The order of events in the record.
use Rattle.std.specs.Prelude.{◌≡◌, ◌⊎◌, ◌<◌, ◌≤◌, ◌<ℤ◌, ◌==◌, ◌&&◌, ℕ, Bool, List, filter}
use Rattle.std.specs.Ordering.{int_eq}
use Rattle.edl_list.specs.declared.list.Event.{Event}
use Rattle.edl_list.specs.Formed.{rank}

-- by record in, then by V, A and A2, then by `after` of their lines
abbrev pub StandsBy : (ℕ → ℕ → Type 0) → Event → Event → Type 0
StandsBy after a b =
    (a.rec_in <ℤ b.rec_in) ⊎ ((a.rec_in ≡ b.rec_in) ×
    ((rank a.channel < rank b.channel) ⊎ ((rank a.channel ≡ rank b.channel) × after a.line b.line)))

-- the one event stands before the other: by record in, then by V, A and A2, then by their lines
abbrev pub StandsBefore : Event → Event → Type 0
StandsBefore = StandsBy (λ m n. m < n)

-- the one event stands before the other, or both have one place in that order
abbrev pub StandsNoLater : Event → Event → Type 0
StandsNoLater = StandsBy (λ m n. m ≤ n)

-- both events have one place in that order
abbrev pub has_place_of : Event → Event → Bool
has_place_of a b =
    int_eq a.rec_in b.rec_in && (rank a.channel == rank b.channel) && (a.line == b.line)

-- the events of each place stand in the order that they had
abbrev pub KeepsPlaces : (old new : List Event) → Type 0
KeepsPlaces old new = (event : Event) → filter (has_place_of event) new
    ≡ filter (has_place_of event) old
