-- The patches of a log as those of known edits, and of some edits.
use Rattle.std.proofs.Common.{ℕ, List, [], ◌∷◌}
use Rattle.otio_model.specs.declared.patches.Patch.{Patch}
use Rattle.otio_model.specs.declared.timelines.Timeline.{Timeline}
use Rattle.otio_model.specs.declared.edit_types.Edit.{Edit}
use Rattle.otio_model.specs.Patches.{applied}
use Rattle.otio_model.specs.Timelines.{bare}
use Rattle.undo_log.specs.Histories.{History}
use Rattle.edit_script.specs.Keeping.{AreRedoing, AreUndoing, HoldsEdits, IsNarrow}
use Rattle.edit_script.specs.EditHistories.{AreRedoingEach, AreUndoingEach, EditHistory, HoldsEach, IsNarrowFor}

narrow-chosen : {a b : Timeline} {undone redone : ℕ} (n : IsNarrow a b undone redone)
    → IsNarrowFor n.edit a b undone redone
narrow-chosen n = record { after = n.after; to_undo = n.to_undo; to_redo = n.to_redo }

narrow-some : {e : Edit} {a b : Timeline} {undone redone : ℕ} → IsNarrowFor e a b undone redone
    → IsNarrow a b undone redone
narrow-some {e} n =
    record { edit = e; after = n.after; to_undo = n.to_undo; to_redo = n.to_redo }

undoing-chosen : (t : Timeline) (ps : List Patch) → AreUndoing t ps
    → (es : List Edit) × AreUndoingEach t es ps
undoing-chosen t [] w = ([], tt)
undoing-chosen t (p ∷ ps) w =
    let more = undoing-chosen (applied p t) ps w.1 in
    (w.0.edit ∷ more.0, (narrow-chosen w.0, more.1))

redoing-chosen : (t : Timeline) (ps : List Patch) → AreRedoing t ps
    → (es : List Edit) × AreRedoingEach t es ps
redoing-chosen t [] w = ([], tt)
redoing-chosen t (p ∷ ps) w =
    let more = redoing-chosen (applied p t) ps w.1 in
    (w.0.edit ∷ more.0, (narrow-chosen w.0, more.1))

undoing-some : (t : Timeline) (es : List Edit) (ps : List Patch) → AreUndoingEach t es ps
    → AreUndoing t ps
undoing-some t [] [] w = tt
undoing-some t [] (p ∷ ps) w = absurd w
undoing-some t (e ∷ es) [] w = absurd w
undoing-some t (e ∷ es) (p ∷ ps) w = (narrow-some w.0, undoing-some (applied p t) es ps w.1)

redoing-some : (t : Timeline) (es : List Edit) (ps : List Patch) → AreRedoingEach t es ps
    → AreRedoing t ps
redoing-some t [] [] w = tt
redoing-some t [] (p ∷ ps) w = absurd w
redoing-some t (e ∷ es) [] w = absurd w
redoing-some t (e ∷ es) (p ∷ ps) w = (narrow-some w.0, redoing-some (applied p t) es ps w.1)

pub edits-chosen : (h : History) (t : Timeline) → HoldsEdits h t
    → (edits : EditHistory) × HoldsEach edits h t
edits-chosen h t w =
    let past = undoing-chosen (bare t) h.past w.past in
    let future = redoing-chosen (bare t) h.future w.future in (
      record { made = past.0; undone = future.0 },
      record { past = past.1; future = future.1 },
    )

pub edits-some : (edits : EditHistory) (h : History) (t : Timeline) → HoldsEach edits h t
    → HoldsEdits h t
edits-some edits h t w = record {
  past = undoing-some (bare t) edits.made h.past w.past;
  future = redoing-some (bare t) edits.undone h.future w.future;
}
