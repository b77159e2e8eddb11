-- Where a script begins: a timeline, and a log of nothing.
use Rattle.std.proofs.Common.{◌≡◌, ◌<◌, ◌^◌, List, [], refl, sym, ap, subst, ◌∙◌}
use Rattle.otio_model.specs.Counts.{count as count_below}
use Rattle.otio_model.specs.Timelines.{bare}
use Rattle.otio_model.specs.declared.timelines.Timeline.{Timeline}
use Rattle.coord.specs.Soundness.{IsSound}
use Rattle.coord.proofs.SpareLemmas.{sound_bare}
use Rattle.undo_log.specs.Histories.{History}
use Rattle.undo_log.specs.States.{AreFit, IsKept, State, run, state_of}
use Rattle.edit_script.specs.Keeping.{AreRedoing, AreUndoing, HoldsEdits, IsEditableState}
use Rattle.script_law.specs.Shown.{opened}

state_with : Timeline → List Timeline → List Timeline → State
state_with t before after = record { before = before; now = bare t; after = after }

-- a log of nothing stands for the timeline as it was opened
pub start_state : (h : History) (t : Timeline) → h.past ≡ [] → h.future ≡ []
    → state_of h t ≡ opened t
unfolding state_with
start_state h t e f =
    ap (λ p. state_with t (run (bare t) p) (run (bare t) h.future)) e
    ∙ ap (λ p. state_with t [] (run (bare t) p)) f

pub start_kept : (h : History) (t : Timeline) → h.past ≡ [] → h.future ≡ [] → IsKept h t
start_kept h t e f = record {
  past = subst (AreFit (bare t)) (sym e) tt;
  future = subst (AreFit (bare t)) (sym f) tt;
}

pub start_holds : (h : History) (t : Timeline) → h.past ≡ [] → h.future ≡ [] → HoldsEdits h t
start_holds h t e f = record {
  past = subst (AreUndoing (bare t)) (sym e) tt;
  future = subst (AreRedoing (bare t)) (sym f) tt;
}

pub start_editable : (h : History) (t : Timeline) → h.past ≡ [] → h.future ≡ [] → IsSound t
    → count_below t.tracks.children < 2 ^ 32 → IsEditableState (state_of h t)
start_editable h t e f sound few = subst IsEditableState (sym (start_state h t e f)) (record {
  before = tt;
  now = record { sound = sound_bare t (bare t) refl sound; few = few };
  after = tt;
})
