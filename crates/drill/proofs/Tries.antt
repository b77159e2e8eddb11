-- A script of one command.
use Rattle.std.proofs.Common.{◌≡◌, sym, subst, ℕ, zero, suc, Bool, true, false, [], ◌∷◌, Some, None, slice_get}
use Rattle.std.specs.Prelude.{◌≢◌, IfOk, Result, Ok, Err}
use Rattle.undo_log.specs.States.{State, back}
use Rattle.undo_log.specs.Histories.{History}
use Rattle.undo_log.specs.States.{state_of}
use Rattle.otio_model.specs.declared.timelines.Timeline.{Timeline}
use Rattle.edit_script.specs.declared.commands.Act.{Act}
use Rattle.edit_script.specs.declared.commands.Act.TheVariants as A
use Rattle.edit_script.specs.declared.commands.ScriptCommand.{ScriptCommand}
use Rattle.edit_script.specs.declared.faults.CommandFault.{CommandFault}
use Rattle.edit_script.specs.declared.faults.CommandFault.TheVariants as F
use Rattle.media_rows.specs.Rows.{MediaRows}
use Rattle.edit_script.specs.Runs.{Halts, IsHalted, Runs, Takes, edits, undoes, redoes, unlisted, far, refused, nothing_done, nothing_undone}
use Rattle.drill.specs.Turns.{WasTried, WentBack}

-- it is carried out by its command
pub ran_one : (m : MediaRows) (c : ScriptCommand) (s r : State) → Runs m (c ∷ []) 1 s r
    → Takes m c.act s r
ran_one m c s r (q, e, t) = subst (λ x. Takes m c.act x r) e t

-- it stops at its command, and nothing is done then
halted_at : (m : MediaRows) (c d : ScriptCommand) (n : ℕ) (s r : State) (f : CommandFault)
    → Runs m (c ∷ []) n s r → slice_get (c ∷ []) n ≡ Some d → IsHalted m d r f
    → IsHalted m c s f × (r ≡ s)
halted_at m c d zero s r f ran next h =
    let same : c ≡ d = (let e : Some c ≡ Some d = next in cc e) in
    (subst (λ x. IsHalted m c x f) ran (subst (λ b. IsHalted m b r f) (sym same) h), ran)
halted_at m c d (suc n) s r f ran next h = absurd (let e : None ≡ Some d = next in cc e)

pub halted_one : (m : MediaRows) (c : ScriptCommand) (s r : State) (f : CommandFault)
    → Halts m (c ∷ []) s r f → IsHalted m c s f × (r ≡ s)
halted_one m c s r f h = halted_at m c h.command h.done s r f h.ran h.next h.halted

pub tried_no : {E : Type 0} (m : MediaRows) (a : Act) (h k : History) (t u : Timeline)
    (f : CommandFault) (res : Result Bool E) → IfOk res (λ done. done ≡ false)
    → IfOk res (λ done. f ≢ F.Memory)
    → (f ≢ F.Memory → Halts m (record { line = 0; act = a } ∷ []) (state_of h t) (state_of k u) f)
    → IfOk res (WasTried m a h t k u)
tried_no m a h k t u f (Err x) stays other halts = tt
tried_no m a h k t u f (Ok done) stays other halts =
    let one = halted_one m (record { line = 0; act = a }) (state_of h t) (state_of k u) f
    (halts other) in
    subst (WasTried m a h t k u) (sym stays) ((f, one.0), one.1)

-- ---- undo

takes_back : (m : MediaRows) (s r : State) → Takes m A.Undo s r → back s ≡ Some r
takes_back m s r (edits e t asks after same) = absurd asks.edit
takes_back m s r (undoes e b) = b
takes_back m s r (redoes e b) = absurd (let g : A.Undo ≡ A.Redo = e in cc g)

halts_back : (m : MediaRows) (n : ℕ) (s : State) (f : CommandFault)
    → IsHalted m (record { line = n; act = A.Undo }) s f → back s ≡ None
halts_back m n s f (unlisted e is) = absurd (let g : false ≡ true = e in cc g)
halts_back m n s f (far l e is) = absurd (let g : false ≡ true = e in cc g)
halts_back m n s f (refused e why asks r is) = absurd asks.edit
halts_back m n s f (nothing_done e b is) = b
halts_back m n s f (nothing_undone e b is) = absurd (let g : A.Undo ≡ A.Redo = e in cc g)

pub went_back : (m : MediaRows) (n : ℕ) (s r : State)
    → Runs m (record { line = n; act = A.Undo } ∷ []) 1 s r → back s ≡ Some r
went_back m n s r ran = takes_back m s r (ran_one m (record { line = n; act = A.Undo }) s r ran)

pub stayed : {E : Type 0} (m : MediaRows) (s r : State) (f : CommandFault) (res : Result Bool E)
    → IfOk res (λ done. done ≡ false) → IfOk res (λ done. f ≢ F.Memory)
    → (f ≢ F.Memory → Halts m (record { line = 0; act = A.Undo } ∷ []) s r f)
    → IfOk res (WentBack s r)
stayed m s r f (Err x) stays other halts = tt
stayed m s r f (Ok done) stays other halts =
    let one = halted_one m (record { line = 0; act = A.Undo }) s r f (halts other) in
    subst (WentBack s r) (sym stays) (halts_back m 0 s f one.0, one.1)
