-- The edits whose patches a log holds, one by one.
use Rattle.std.specs.Prelude.{◌≡◌, ℕ, zero, suc, ◌+◌, ◌≤◌, List, [], ◌∷◌, length, slice_get, IsSomeAnd}
use Rattle.otio_model.specs.declared.patches.Patch.{Patch}
use Rattle.otio_model.specs.declared.timelines.Timeline.{Timeline}
use Rattle.otio_model.specs.declared.edit_types.Edit.{Edit}
use Rattle.otio_model.specs.Patches.{applied, comes, goes}
use Rattle.otio_model.specs.Timelines.{bare}
use Rattle.undo_log.specs.Histories.{History}
use Rattle.undo_log.specs.States.{State, state_of}
use Rattle.edits.specs.After.{frame_of, list_of}
use Rattle.edits.specs.Refusals.{IsAfter}
use Rattle.edits.specs.Zones.{touches}
use Rattle.media_rows.specs.Rows.{MediaRows}
use Rattle.edit_script.specs.declared.commands.Act.{Act}
use Rattle.edit_script.specs.declared.commands.Act.TheVariants as A
use Rattle.edit_script.specs.declared.commands.ScriptCommand.{ScriptCommand}
use Rattle.edit_script.specs.Runs.{AsksFor, Takes}

-- the edits that were made, the latest first, and those that were undone, the next to be redone
-- first
pub record EditHistory : Type 0 where
  pub made : List Edit
  pub undone : List Edit

-- This edit turns the timeline a into b. Few children more than it touches are put back to undo it,
-- and few more are put in to redo it.
pub record IsNarrowFor (e : Edit) (a b : Timeline) (undone redone : ℕ) : Type 0 where
  pub after : IsAfter a e b
  pub to_undo : undone ≤ touches (frame_of a) e (list_of a e) + 2
  pub to_redo : redone ≤ touches (frame_of a) e (list_of a e) + 4

-- the patches that undo these edits, from the timeline after them
abbrev pub AreUndoingEach : Timeline → List Edit → List Patch → Type 0
AreUndoingEach t [] [] = Unit {0}
AreUndoingEach t [] (p ∷ ps) = ⊥
AreUndoingEach t (e ∷ es) [] = ⊥
AreUndoingEach t (e ∷ es) (p ∷ ps) =
    IsNarrowFor e (applied p t) t (comes p.put) (goes p.put) × AreUndoingEach (applied p t) es ps

-- the patches that redo these edits, from the timeline before them
abbrev pub AreRedoingEach : Timeline → List Edit → List Patch → Type 0
AreRedoingEach t [] [] = Unit {0}
AreRedoingEach t [] (p ∷ ps) = ⊥
AreRedoingEach t (e ∷ es) [] = ⊥
AreRedoingEach t (e ∷ es) (p ∷ ps) =
    IsNarrowFor e t (applied p t) (goes p.put) (comes p.put) × AreRedoingEach (applied p t) es ps

-- each patch of the log is that of the edit at its place, and holds few children more than that
-- touches
pub record HoldsEach (edits : EditHistory) (h : History) (t : Timeline) : Type 0 where
  pub past : AreUndoingEach (bare t) edits.made h.past
  pub future : AreRedoingEach (bare t) edits.undone h.future

-- an act on the timeline turns the edits of a log into others
pub data Records (media : MediaRows) (act : Act) (t : Timeline) (old new : EditHistory)
    : Type 0 where
  makes : (e : Edit) → AsksFor media act t e
      → new ≡ record { made = e ∷ old.made; undone = [] } → Records media act t old new
  takes_back : (e : Edit) (es : List Edit) → act ≡ A.Undo → old.made ≡ e ∷ es
      → new ≡ record { made = es; undone = e ∷ old.undone } → Records media act t old new
  brings_back : (e : Edit) (es : List Edit) → act ≡ A.Redo → old.undone ≡ e ∷ es
      → new ≡ record { made = e ∷ old.made; undone = es } → Records media act t old new

-- an act on the log h, whose edits are known, turns it into k
abbrev pub KeepsEach : MediaRows → Act → History → Timeline → History → Timeline → Type 0
KeepsEach media act h t k u = (old : EditHistory) → HoldsEach old h t
    → (new : EditHistory) × Records media act (bare t) old new × HoldsEach new k u

-- the first n commands of the script take the state s, and the edits of its log, to others
abbrev pub RunsOver : MediaRows → List ScriptCommand → ℕ → State → EditHistory → State
    → EditHistory → Type 0
RunsOver media script zero s old r new = (r ≡ s) × (new ≡ old)
RunsOver media script (suc n) s old r new = (q : State) × (mid : EditHistory)
    × RunsOver media script n s old q mid × IsSomeAnd (slice_get script n)
    (λ c. Takes media c.act q r × Records media c.act q.now mid new)

-- The first n commands took the log h and its timeline to k and u. If the patches of h are those of
-- known edits, so are those of k: each stands where its edit does.
abbrev pub RunsEach : MediaRows → List ScriptCommand → ℕ → History → Timeline → History → Timeline
    → Type 0
RunsEach media script n h t k u = (old : EditHistory) → HoldsEach old h t → (new : EditHistory)
    × RunsOver media script n (state_of h t) old (state_of k u) new × HoldsEach new k u
