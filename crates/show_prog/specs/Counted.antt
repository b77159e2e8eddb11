-- How many items of each kind there are at all levels.
use Rattle.std.specs.Prelude.{ℕ, ◌+◌, List, [], ◌∷◌}
use Rattle.otio_model.specs.declared.compositions.ItemOf.{ItemOf}
use Rattle.otio_model.specs.declared.compositions.ItemOf.TheVariants.{Clip, Gap, Transition, Stack}
use Rattle.otio_model.specs.declared.compositions.ItemOf.TheVariants.{Track}
use Rattle.otio_model.specs.declared.compositions.Listed.{Listed, fold-Listed}
use Rattle.otio_model.specs.declared.compositions.Listed.TheOpen.{Listed-F}
use Rattle.show_prog.specs.declared.counting.Counts.{Counts}

-- no items
abbrev pub nothing : Counts
nothing = record { tracks = 0; stacks = 0; clips = 0; gaps = 0; transitions = 0 }

-- the items of two counts together
abbrev pub together : Counts → Counts → Counts
together a b = record {
  tracks = a.tracks + b.tracks;
  stacks = a.stacks + b.stacks;
  clips = a.clips + b.clips;
  gaps = a.gaps + b.gaps;
  transitions = a.transitions + b.transitions;
}

-- an item and all below it, where the function counts those below
abbrev pub counts_by : {C : Type 0} → (C → Counts) → ItemOf C → Counts
counts_by f (Clip c) = record nothing { clips = 1 }
counts_by f (Gap g) = record nothing { gaps = 1 }
counts_by f (Transition t) = record nothing { transitions = 1 }
counts_by f (Stack s) = together (record nothing { stacks = 1 }) (f s.children)
counts_by f (Track t) = together (record nothing { tracks = 1 }) (f t.children)

-- all items of a list, with all below them
abbrev pub counts_in : {C : Type 0} → (C → Counts) → List (ItemOf C) → Counts
counts_in f [] = nothing
counts_in f (x ∷ xs) = together (counts_by f x) (counts_in f xs)

abbrev pub counts_step : Listed-F Counts → Counts
counts_step l = counts_in (λ c. c) l.list

-- the children and all below them, by their kinds
abbrev pub counts : Listed → Counts
counts = fold-Listed Counts counts_step

-- an item and all below it, by their kinds
abbrev pub counts_of : ItemOf Listed → Counts
counts_of = counts_by counts

-- the items of all kinds
abbrev pub total : Counts → ℕ
total c = c.tracks + c.stacks + c.clips + c.gaps + c.transitions
