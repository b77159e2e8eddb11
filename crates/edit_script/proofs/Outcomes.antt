-- A script has one result at most, or stops at one place.
use Rattle.std.proofs.Common.{◌≡◌, refl, sym, ap, subst, ◌∙◌, ℕ, zero, suc, ◌<◌, ◌⊎◌, inl, inr, List, Option, Some, None, slice_get, length, arith}
use Rattle.std.specs.Prelude.{IsSomeAnd}
use Rattle.std.proofs.Math.Nat.{eq-or-lt_of_le}
use Rattle.std.proofs.lemmas.Option.{slice_get_within}
use Rattle.undo_log.specs.States.{State}
use Rattle.edit_script.specs.declared.commands.ScriptCommand.{ScriptCommand}
use Rattle.edit_script.specs.declared.faults.CommandFault.{CommandFault}
use Rattle.media_rows.specs.Rows.{MediaRows}
use Rattle.edit_script.specs.Runs.{Halts, IsHalted, Runs, Takes}
use Rattle.edit_script.proofs.OnceRun.{kept_on, one_fault, one_result}

-- what is known of a member of a list, where there is one
record At (media : MediaRows) (o : Option ScriptCommand) (q r : State) : Type 0 where
  command : ScriptCommand
  there : o ≡ Some command
  takes : Takes media command.act q r

at : (media : MediaRows) (o : Option ScriptCommand) (q r : State)
    → IsSomeAnd o (λ c. Takes media c.act q r) → At media o q r
at media None q r h = absurd h
at media (Some c) q r h = record { command = c; there = refl; takes = h }

-- two runs of as many commands
pub one_state : (media : MediaRows) (script : List ScriptCommand) (n : ℕ) (s q r : State)
    → Runs media script n s q → Runs media script n s r → q ≡ r
one_state media script zero s q r h k = h ∙ sym k
one_state media script (suc n) s q r h k =
    let same : h.0 ≡ k.0 = one_state media script n s h.0 k.0 h.1 k.1 in
    by (slice_get script n) h.2
    (subst (λ x. IsSomeAnd (slice_get script n) (λ c. Takes media c.act x r)) (sym same) k.2)
  where
    by : (o : Option ScriptCommand) → IsSomeAnd o (λ c. Takes media c.act h.0 q)
        → IsSomeAnd o (λ c. Takes media c.act h.0 r) → q ≡ r
    by None a b = absurd a
    by (Some c) a b = one_result media c.act h.0 q r a b

-- a longer run goes through a shorter one, and takes its next command
record Through (media : MediaRows) (script : List ScriptCommand) (n : ℕ) (s : State) : Type 0 where
  from : State
  to : State
  ran : Runs media script n s from
  takes : IsSomeAnd (slice_get script n) (λ c. Takes media c.act from to)

through : (media : MediaRows) (script : List ScriptCommand) (n m : ℕ) (s r : State) → n < m
    → Runs media script m s r → Through media script n s
through media script n zero s r less h = absurd (omega (arith, less))
through media script n (suc m) s r less h =
    by (split n m less) (λ l. through media script n m s h.0 l h.1)
  where
    split : (i j : ℕ) → i < suc j → (i ≡ j) ⊎ (i < j)
    split i j l = eq-or-lt_of_le (omega (arith, l))

    by : (n ≡ m) ⊎ (n < m) → (n < m → Through media script n s) → Through media script n s
    by (inl e) f = subst (λ k. Through media script k s) (sym e)
        (record { from = h.0; to = r; ran = h.1; takes = h.2 })
    by (inr l) f = f l

-- a script that stops at a command doesn't run past it
not_past : (media : MediaRows) (script : List ScriptCommand) (m : ℕ) (s q r : State) (f :
    CommandFault)
    (h : Halts media script s q f) → h.done < m → Runs media script m s r → ⊥
not_past media script m s q r f h less k =
    let t = through media script h.done m s r less k in
    let same : t.from ≡ q = one_state media script h.done s t.from q t.ran h.ran in
    let a = at media (slice_get script h.done) t.from t.to t.takes in
    let own : a.command ≡ h.command = let e : Some a.command ≡ Some h.command = sym a.there
    ∙ h.next in cc e in
    kept_on media h.command q t.to f
    (subst (λ x. Takes media h.command.act x t.to) same
    (subst (λ (c : ScriptCommand). Takes media c.act t.from t.to) own a.takes)) h.halted

-- it stops after as many commands each time
same_place : (media : MediaRows) (script : List ScriptCommand) (s q r : State) (f g : CommandFault)
    (h : Halts media script s q f) (k : Halts media script s r g) → h.done ≡ k.done
same_place media script s q r f g h k =
    by_order h.done k.done (λ l. not_past media script k.done s q r f h l k.ran)
    (λ l. not_past media script h.done s r q g k l h.ran)
  where
    by_order : (m n : ℕ) → (m < n → ⊥) → (n < m → ⊥) → m ≡ n
    by_order m n a b = omega (arith, a, b)

pub one_place : (media : MediaRows) (script : List ScriptCommand) (s q r : State) (f g :
    CommandFault)
    → Halts media script s q f → Halts media script s r g → q ≡ r
one_place media script s q r f g h k =
    one_state media script k.done s q r
    (subst (λ n. Runs media script n s q) (same_place media script s q r f g h k) h.ran) k.ran

pub one_halt : (media : MediaRows) (script : List ScriptCommand) (s q r : State) (f g :
    CommandFault)
    → Halts media script s q f → Halts media script s r g → f ≡ g
one_halt media script s q r f g h k =
    let own : h.command ≡ k.command =
    let e : Some h.command ≡ Some k.command =
    sym h.next ∙ ap (slice_get script) (same_place media script s q r f g h k) ∙ k.next in cc e in
    one_fault media k.command r f g
    (subst (λ x. IsHalted media k.command x f) (one_place media script s q r f g h k)
    (subst (λ c. IsHalted media c q f) own h.halted)) k.halted

pub never_both : (media : MediaRows) (script : List ScriptCommand) (s q r : State) (f :
    CommandFault)
    → Runs media script (length script) s q → Halts media script s r f → ⊥
never_both media script s q r f h k =
    not_past media script (length script) s r q f k
    (slice_get_within script k.done k.command k.next) h
