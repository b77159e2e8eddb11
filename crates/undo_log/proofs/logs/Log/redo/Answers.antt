-- The last patch of one side was applied, and what undoes it is on the other side.
use Rattle.std.proofs.Common.{arith, ap, sym, ◌∙◌, subst}
use Rattle.undo_log.specs.Histories.{History}
use Rattle.undo_log.specs.States.{IsKept, forth, state_of, turned_some}
use Rattle.undo_log.proofs.Moves.{crossed, first_kept, went}
use Rattle.undo_log.proofs.RoomLemmas.{has_redo}
use Rattle.undo_log.proofs.logs.Log.redo.Goals as goal

pub apply-undo-requires-clause-spare : goal.apply-undo-requires-clause-spare
apply-undo-requires-clause-spare c =
    (has_redo c.args.self.now (first_kept c.pop.new.self.items c.in-Some.patch
    (ap (λ (h : History). h.future) c.self.view_is) c.in-Some.ensures.items) c.requires.room).patch

pub keep-requires : goal.keep-requires
keep-requires c =
    let room = has_redo c.args.self.now (first_kept c.pop.new.self.items c.in-Some.patch
    (ap (λ (h : History). h.future) c.self.view_is) c.in-Some.ensures.items) c.requires.room in
    omega (arith, room.one, ap (λ (h : History). h.past_room) c.self.view_is)

pub returns-clause-kept : goal.returns-clause-kept
returns-clause-kept c =
    let k = subst (λ h. IsKept h c.args.timeline.now) (sym c.self.view_is) c.requires.kept in
    let w = went c.args.timeline.now c.apply-undo.new.self c.in-Some.patch c.in-Some.ensures.items
    c.keep.ensures.items k.future k.past c.apply-undo.ensures.new c.apply-undo.ensures.undo in
    record { past = w.fits; future = w.left }

pub returns-clause-state : goal.returns-clause-state
returns-clause-state c =
    let k = subst (λ h. IsKept h c.args.timeline.now) (sym c.self.view_is) c.requires.kept in
    let w = went c.args.timeline.now c.apply-undo.new.self c.in-Some.patch c.in-Some.ensures.items
    c.keep.ensures.items k.future k.past c.apply-undo.ensures.new c.apply-undo.ensures.undo in
    ap (λ h. forth (state_of h c.args.timeline.now)) (sym c.self.view_is) ∙ ap turned_some w.moves

pub returns-clause-patches : goal.returns-clause-patches
returns-clause-patches c =
    crossed _ _ c.apply-undo.result c.args.timeline.now c.in-Some.patch c.in-Some.ensures.items
    c.keep.ensures.items (ap (λ (h : History). h.future) c.self.view_is)
    (ap (λ (h : History). h.past) c.self.view_is) c.apply-undo.ensures.undo
