-- The last patch of one side was applied, and what undoes it is on the other side.
use Rattle.std.proofs.Common.{arith, ap, sym, ◌∙◌, subst}
use Rattle.undo_log.specs.Histories.{History}
use Rattle.undo_log.specs.States.{IsKept, back, state_of}
use Rattle.undo_log.proofs.Moves.{crossed, first_kept, went}
use Rattle.undo_log.proofs.RoomLemmas.{has_undo}
use Rattle.undo_log.proofs.logs.Log.undo.Goals as goal

pub apply-redo-requires-clause-spare : goal.apply-redo-requires-clause-spare
apply-redo-requires-clause-spare c =
    (has_undo c.args.self.now (first_kept c.pop.new.self.items c.in-Some.patch
    (ap (λ (h : History). h.past) c.self.view_is) c.in-Some.ensures.items) c.requires.room).patch

pub keep-requires : goal.keep-requires
keep-requires c =
    let room = has_undo c.args.self.now (first_kept c.pop.new.self.items c.in-Some.patch
    (ap (λ (h : History). h.past) c.self.view_is) c.in-Some.ensures.items) c.requires.room in
    omega (arith, room.one, ap (λ (h : History). h.future_room) c.self.view_is)

pub returns-clause-kept : goal.returns-clause-kept
returns-clause-kept c =
    let k = subst (λ h. IsKept h c.args.timeline.now) (sym c.self.view_is) c.requires.kept in
    let w = went c.args.timeline.now c.apply-redo.new.self c.in-Some.patch c.in-Some.ensures.items
    c.keep.ensures.items k.past k.future c.apply-redo.ensures.new c.apply-redo.ensures.undo in
    record { past = w.left; future = w.fits }

pub returns-clause-state : goal.returns-clause-state
returns-clause-state c =
    let k = subst (λ h. IsKept h c.args.timeline.now) (sym c.self.view_is) c.requires.kept in
    let w = went c.args.timeline.now c.apply-redo.new.self c.in-Some.patch c.in-Some.ensures.items
    c.keep.ensures.items k.past k.future c.apply-redo.ensures.new c.apply-redo.ensures.undo in
    ap (λ h. back (state_of h c.args.timeline.now)) (sym c.self.view_is) ∙ w.moves

pub returns-clause-patches : goal.returns-clause-patches
returns-clause-patches c =
    crossed _ _ c.apply-redo.result c.args.timeline.now c.in-Some.patch c.in-Some.ensures.items
    c.keep.ensures.items (ap (λ (h : History). h.past) c.self.view_is)
    (ap (λ (h : History). h.future) c.self.view_is) c.apply-redo.ensures.undo
