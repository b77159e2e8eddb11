-- What is kept while a script runs: timelines that can be edited, and small patches.
use Rattle.std.specs.Prelude.{ℕ, ◌+◌, ◌≤◌, ◌<◌, ◌^◌, List, [], ◌∷◌, length}
use Rattle.otio_model.specs.declared.patches.Patch.{Patch}
use Rattle.otio_model.specs.declared.timelines.Timeline.{Timeline}
use Rattle.otio_model.specs.declared.edit_types.Edit.{Edit}
use Rattle.otio_model.specs.Counts.{count}
use Rattle.otio_model.specs.Patches.{applied, comes, goes}
use Rattle.otio_model.specs.Timelines.{bare}
use Rattle.coord.specs.Soundness.{IsSound}
use Rattle.undo_log.specs.Histories.{History}
use Rattle.undo_log.specs.States.{State}
use Rattle.edits.specs.After.{frame_of, list_of}
use Rattle.edits.specs.Refusals.{IsAfter}
use Rattle.edits.specs.Zones.{touches}

-- a sound timeline of fewer than 2^32 items
pub record IsEditable (t : Timeline) : Type 0 where
  pub sound : IsSound t
  pub few : count t.tracks.children < 2 ^ 32

abbrev pub AreEditable : List Timeline → Type 0
AreEditable [] = Unit {0}
AreEditable (t ∷ ts) = IsEditable t × AreEditable ts

-- each timeline of the state can be edited
pub record IsEditableState (s : State) : Type 0 where
  pub before : AreEditable s.before
  pub now : IsEditable s.now
  pub after : AreEditable s.after

-- An edit turns the timeline a into b. Few children more than it touches are put back to undo it,
-- and few more are put in to redo it.
pub record IsNarrow (a b : Timeline) (undone redone : ℕ) : Type 0 where
  pub edit : Edit
  pub after : IsAfter a edit b
  pub to_undo : undone ≤ touches (frame_of a) edit (list_of a edit) + 2
  pub to_redo : redone ≤ touches (frame_of a) edit (list_of a edit) + 4

-- the patches that undo edits, the latest first, from the timeline behind them; each takes out what
-- would be put in to redo its edit
abbrev pub AreUndoing : Timeline → List Patch → Type 0
AreUndoing t [] = Unit {0}
AreUndoing t (p ∷ ps) =
    IsNarrow (applied p t) t (comes p.put) (goes p.put) × AreUndoing (applied p t) ps

-- the patches that redo edits, the next first, from the timeline before them
abbrev pub AreRedoing : Timeline → List Patch → Type 0
AreRedoing t [] = Unit {0}
AreRedoing t (p ∷ ps) =
    IsNarrow t (applied p t) (goes p.put) (comes p.put) × AreRedoing (applied p t) ps

-- each patch of the log stands for an edit, and holds few children more than that touches
pub record HoldsEdits (h : History) (t : Timeline) : Type 0 where
  pub past : AreUndoing (bare t) h.past
  pub future : AreRedoing (bare t) h.future
