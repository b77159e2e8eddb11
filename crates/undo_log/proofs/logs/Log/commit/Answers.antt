-- The patch was applied, what undoes it is kept, and what stood behind is dropped.
use Rattle.std.proofs.Common.{arith, ap, sym, ◌∙◌, subst}
use Rattle.std.specs.Prelude.{reverse}
use Rattle.undo_log.specs.Histories.{History}
use Rattle.undo_log.specs.States.{AreFit, IsKept, committed, state_of, run}
use Rattle.otio_model.specs.Timelines.{bare}
use Rattle.undo_log.proofs.Moves.{added, state_by}
use Rattle.undo_log.proofs.RoomLemmas.{has_commit}
use Rattle.undo_log.proofs.logs.Log.commit.Goals as goal

pub apply-undo-requires-clause-spare : goal.apply-undo-requires-clause-spare
apply-undo-requires-clause-spare c =
    (has_commit c.args.patch c.args.self.now c.args.timeline.now c.requires.room).patch

pub keep-requires : goal.keep-requires
keep-requires c =
    omega (
      arith,
      (has_commit c.args.patch c.args.self.now c.args.timeline.now c.requires.room).one,
      ap (λ (h : History). h.past_room) c.self.view_is,
    )

pub returns-clause-kept : goal.returns-clause-kept
returns-clause-kept c =
    let k = subst (λ h. IsKept h c.args.timeline.now) (sym c.self.view_is) c.requires.kept in
    let w = added c.apply-undo.new.self c.keep.ensures.items c.requires.fits k.past
    c.apply-undo.ensures.new c.apply-undo.ensures.undo in
    record {
      past = w.fits;
      future =
          subst (AreFit (bare c.apply-undo.new.self)) (sym (ap reverse c.clear.ensures.items)) tt;
    }

pub returns-clause-state : goal.returns-clause-state
returns-clause-state c =
    let k = subst (λ h. IsKept h c.args.timeline.now) (sym c.self.view_is) c.requires.kept in
    let w = added c.apply-undo.new.self c.keep.ensures.items c.requires.fits k.past
    c.apply-undo.ensures.new c.apply-undo.ensures.undo in
    ap (λ l. state_by (run (bare c.apply-undo.new.self) (reverse c.keep.new.patches.items))
    (bare c.apply-undo.new.self) (run (bare c.apply-undo.new.self) (reverse l)))
    c.clear.ensures.items
    ∙ w.state
    ∙ ap (λ h. committed c.args.patch (state_of h c.args.timeline.now)) c.self.view_is
