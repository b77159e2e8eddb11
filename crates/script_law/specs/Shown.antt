-- The edits between the timelines of a state, and what they show.
use Rattle.std.specs.Prelude.{◌≡◌, List, [], ◌∷◌}
use Rattle.otio_model.specs.declared.timelines.Timeline.{Timeline}
use Rattle.otio_model.specs.declared.edit_types.Edit.{Edit}
use Rattle.otio_model.specs.Timelines.{bare}
use Rattle.undo_log.specs.States.{State}
use Rattle.edits.specs.Refusals.{IsAfter}
use Rattle.edit_plans.specs.Planned.{ShowsThrough}

-- a timeline that no command has changed yet
abbrev pub opened : Timeline → State
opened timeline = record { before = []; now = bare timeline; after = [] }

-- an edit turns one timeline into the other, and every frame of that shows what the edit's law says
pub record IsShown (old new : Timeline) : Type 0 where
  pub edit : Edit
  pub after : IsAfter old edit new
  pub shows : ShowsThrough old edit new

-- so it is of each timeline and the one before it, from the latest back
abbrev pub AreShownBack : Timeline → List Timeline → Type 0
AreShownBack t [] = Unit {0}
AreShownBack t (b ∷ before) = IsShown b t × AreShownBack b before

-- and of each and the one behind it
abbrev pub AreShownOn : Timeline → List Timeline → Type 0
AreShownOn t [] = Unit {0}
AreShownOn t (a ∷ after) = IsShown t a × AreShownOn a after

-- the timeline that undoing all edits gives
abbrev pub undone : Timeline → List Timeline → Timeline
undone t [] = t
undone t (b ∷ before) = undone b before

-- each step of the state is an edit that shows what it should, and the first timeline is this one,
-- the memory that it keeps to spare aside
pub record IsEditedFrom (first : Timeline) (s : State) : Type 0 where
  pub back : AreShownBack s.now s.before
  pub on : AreShownOn s.now s.after
  pub undone_is : undone s.now s.before ≡ bare first
