-- Timelines above each other.
use Rattle.std.specs.Prelude.{◌≡◌, ℕ, ◌-◌, nat_lt, ℤ, cond, List, [], ◌∷◌, ◌++◌, length, flat_map}
use Rattle.otio_model.specs.declared.timelines.Timeline.{Timeline}
use Rattle.otio_model.specs.Timelines.{bare}
use Rattle.coord.specs.Looks.{Show, FrameRate}
use Rattle.coord.specs.Programs.{at_by}
use Rattle.flat.specs.Roots.{roots, with_roots}

-- the first timeline with the root children of all of them
abbrev pub IsPiled : Timeline → List Timeline → Timeline → Type 0
IsPiled t more r = bare r ≡ bare (with_roots (roots t ++ flat_map roots more) t)

-- what each child shows where it came from
abbrev pub piled_shows : (FrameRate → FrameRate) → Timeline → List Timeline → ℕ → ℤ → Show
piled_shows rate_kept t [] k u = at_by rate_kept t k u
piled_shows rate_kept t (m ∷ more) k u =
    cond (nat_lt k (length (roots t))) (at_by rate_kept t k u)
    (piled_shows rate_kept m more (k - length (roots t)) u)
