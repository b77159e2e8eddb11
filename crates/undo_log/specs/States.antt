-- The timelines that a timeline and its log stand for, and a position among them.
use Rattle.std.specs.Prelude.{◌≡◌, List, [], ◌∷◌, Option, Some, None}
use Rattle.otio_model.specs.declared.patches.Patch.{Patch}
use Rattle.otio_model.specs.declared.timelines.Timeline.{Timeline}
use Rattle.otio_model.specs.Patches.{IsFit, applied, undoing}
use Rattle.otio_model.specs.Timelines.{bare}
use Rattle.undo_log.specs.Histories.{History}

-- a list of timelines, in order of the changes, and a position: the timelines before it, the
-- nearest first, the one there, and those behind it, the nearest first
pub record State : Type 0 where
  pub before : List Timeline
  pub now : Timeline
  pub after : List Timeline

-- the timelines that patches give one after another
abbrev pub run : Timeline → List Patch → List Timeline
run t [] = []
run t (p ∷ ps) = applied p t ∷ run (applied p t) ps

-- each patch fits the timeline that those before it give
abbrev pub AreFit : Timeline → List Patch → Type 0
AreFit t [] = Unit {0}
AreFit t (p ∷ ps) = IsFit p t × AreFit (applied p t) ps

-- each patch of the log turns a timeline into its neighbour
pub record IsKept (h : History) (t : Timeline) : Type 0 where
  pub past : AreFit (bare t) h.past
  pub future : AreFit (bare t) h.future

-- the state that a timeline and its log stand for: the timeline is the one at the position
abbrev pub state_of : History → Timeline → State
state_of h t = record { before = run (bare t) h.past; now = bare t; after = run (bare t) h.future }

-- a change drops the timelines behind the position, adds one and moves on to it
abbrev pub committed : Patch → State → State
committed p s = record { before = s.now ∷ s.before; now = applied p s.now; after = [] }

abbrev pub moved : List Timeline → Timeline → List Timeline → Option State
moved [] t after = None
moved (b ∷ before) t after = Some (record { before = before; now = b; after = t ∷ after })

-- back by one, where there is one before
abbrev pub back : State → Option State
back s = moved s.before s.now s.after

-- the state seen from its end
abbrev pub turned : State → State
turned s = record { before = s.after; now = s.now; after = s.before }

abbrev pub turned_some : Option State → Option State
turned_some None = None
turned_some (Some s) = Some (turned s)

-- forward by one, where there is one behind
abbrev pub forth : State → Option State
forth s = turned_some (back (turned s))

-- The first patch of one side of the log was applied to the timeline, and the one that undoes it
-- stands first on the other side.
pub record CrossesOver (t : Timeline) (from to left kept : List Patch) : Type 0 where
  pub patch : Patch
  pub taken : from ≡ patch ∷ left
  pub undoes : kept ≡ undoing patch t ∷ to
