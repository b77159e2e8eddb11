-- What is said of a patch, of an edit and of a command.
use Rattle.std.proofs.Common.{◌≡◌, refl, sym, subst, ◌∙◌, ℕ, ℤ, ◌||◌, false}
use Rattle.std.specs.Prelude.{IfErr, IfOk, OnOk, Result, Ok, Err, ◌≢◌}
use Rattle.std.proofs.lemmas.Bool.{or_parts}
use Rattle.tick_time.specs.declared.rates.Rate.{Rate}
use Rattle.otio_model.specs.declared.edit_types.Edit.{Edit}
use Rattle.otio_model.specs.declared.edit_types.EditFault.{EditFault}
use Rattle.otio_model.specs.declared.edit_types.EditFault.TheVariants as E
use Rattle.otio_model.specs.declared.patches.Patch.{Patch}
use Rattle.otio_model.specs.declared.timelines.Timeline.{Timeline}
use Rattle.otio_model.specs.Timelines.{bare}
use Rattle.undo_log.specs.Histories.{History}
use Rattle.undo_log.specs.States.{State}
use Rattle.edits.specs.After.{rate_of}
use Rattle.edits.specs.Refusals.{IsRefused}
use Rattle.edit_plans.specs.Planned.{IsPlan}
use Rattle.edit_script.specs.declared.commands.Act.{Act}
use Rattle.edit_script.specs.declared.commands.Act.TheVariants as A
use Rattle.edit_script.specs.declared.commands.ScriptCommand.{ScriptCommand}
use Rattle.edit_script.specs.declared.faults.CommandFault.{CommandFault}
use Rattle.edit_script.specs.declared.faults.CommandFault.TheVariants as F
use Rattle.edit_script.specs.Items.{is_far, is_wrong_put}
use Rattle.media_rows.specs.Rows.{MediaRows}
use Rattle.edit_script.specs.declared.commands.Put.{Put}
use Rattle.edit_script.specs.RunActs.{IsEditOf, is_beyond, is_unlisted}
use Rattle.edit_script.specs.Groups.{ActGroup, Back, Forth, OfEdges, OfLists}
use Rattle.edit_script.specs.Plans.{IsPlanOf, IsRefusalOf}
use Rattle.edit_script.specs.Runs.{AsksFor, IsHalted, refused}
use Rattle.edit_script.specs.Steps.{IsDone, IsReady, IsSame}
use Rattle.edit_script.proofs.Bares.{refused_bare}

-- ---- plans

asks_as : (media : MediaRows) (act : Act) (t : Timeline) (e : Edit) (r : Rate) → r ≡ rate_of t
    → is_unlisted media act ≡ false → is_beyond (rate_of t) media act ≡ false
    → IsEditOf r media act e → AsksFor media act t e
asks_as media act t e r same l n i = record {
  listed = l;
  near = n;
  edit = subst (λ q. IsEditOf q media act e) same i;
}

pub planned : {F : Type 0} (media : MediaRows) (act : Act) (t : Timeline) (e : Edit) (r : Rate)
    (res : Result Patch F) → r ≡ rate_of t → is_unlisted media act ≡ false
    → is_beyond (rate_of t) media act ≡ false → IsEditOf r media act e → IfOk res (IsPlan t e)
    → IfOk res (IsPlanOf media act t)
planned media act t e r (Err f) same l n i h = tt
planned media act t e r (Ok p) same l n i h =
    record { edit = e; asks = asks_as media act t e r same l n i; plan = h }

pub refusal : (media : MediaRows) (act : Act) (t : Timeline) (e : Edit) (r : Rate)
    (res : Result Patch EditFault) → r ≡ rate_of t → is_unlisted media act ≡ false
    → is_beyond (rate_of t) media act ≡ false → IsEditOf r media act e
    → IfErr res (λ f. f ≢ E.Memory → IsRefused t e f)
    → IfErr res (λ f. f ≢ E.Memory → IsRefusalOf media act t f)
refusal media act t e r (Ok p) same l n i h = tt
refusal media act t e r (Err f) same l n i h =
    λ k. record { edit = e; asks = asks_as media act t e r same l n i; refused = h k }

-- an act that asks for an edit, and for none of a list, asks for one of edges
pub edges-left : (g : ActGroup) → (g ≡ OfLists → ⊥) → (g ≡ Back → ⊥) → (g ≡ Forth → ⊥) → g ≡ OfEdges
edges-left OfLists h k l = absurd (h refl)
edges-left OfEdges h k l = refl
edges-left Back h k l = absurd (k refl)
edges-left Forth h k l = absurd (l refl)

-- ---- why a command is refused

pub halts_edit : (media : MediaRows) (c : ScriptCommand) (t : Timeline) (why : EditFault)
    → IsRefusalOf media c.act t why → (s : State) → s.now ≡ bare t
    → IsHalted media c s (F.Edit c.line why)
halts_edit media c t why i s now =
    refused i.edit why
    (subst (λ x. AsksFor media c.act x i.edit) (sym now)
    (record { listed = i.asks.listed; near = i.asks.near; edit = i.asks.edit }))
    (subst (λ x. IsRefused x i.edit why) (sym now) (refused_bare t i.edit why i.refused)) refl

-- what the fault of an edit is at a line
pub record IsAtLine (line : ℕ) (why : EditFault) (f : CommandFault) : Type 0 where
  pub memory : why ≡ E.Memory → f ≡ F.Memory
  pub other : why ≢ E.Memory → f ≡ F.Edit line why

pub halts_at : (media : MediaRows) (c : ScriptCommand) (t : Timeline) (why : EditFault)
    (f : CommandFault) → IsAtLine c.line why f
    → (why ≢ E.Memory → IsRefusalOf media c.act t why) → f ≢ F.Memory → (s : State)
    → s.now ≡ bare t → IsHalted media c s f
halts_at media c t why f a h k s now =
    let other : why ≢ E.Memory = λ e. k (a.memory e) in
    subst (IsHalted media c s) (sym (a.other other)) (halts_edit media c t why (h other) s now)

pub inner_at : (line : ℕ) (why : EditFault) (f : CommandFault) → IsAtLine line why f → (n : ℕ)
    → f ≢ F.Edit n E.Memory
inner_at line why f a n e =
    let other : why ≢ E.Memory = λ g. (let x : F.Memory ≡ F.Edit n E.Memory = sym (a.memory g)
    ∙ e in cc x) in
    let same : F.Edit line why ≡ F.Edit n E.Memory = sym (a.other other) ∙ e in
    let own : why ≡ E.Memory = cc same in other own

-- what is put in is right where no time is out of range
pub near_put : (r : Rate) (media : MediaRows) (at : ℤ) (put : Put)
    → (is_far r at || is_wrong_put r media put) ≡ false → is_wrong_put r media put ≡ false
near_put r media at put e = (or_parts (is_far r at) (is_wrong_put r media put) e).1

-- ---- edits, undo and redo as commands

pub same_self : (h : History) (t : Timeline) → IsReady h t → IsSame h t h t
same_self h t r = record { ready = r; state = refl; holds = λ d. d; each = λ own d. d }

pub done_as : {F : Type 0} (media : MediaRows) (act : Act) (h k : History) (t u : Timeline)
    (p : Patch) (res : Result (Unit {0}) F) → IsPlanOf media act t p
    → OnOk res ((m : MediaRows) (a : Act) → IsPlanOf m a t p → IsDone m a h t k u)
    → OnOk res (IsDone media act h t k u)
done_as media act h k t u p (Err f) i d = tt
done_as media act h k t u p (Ok x) i d = d media act i

pub never_halts : (media : MediaRows) (c : ScriptCommand) (s : State)
    (res : Result (Unit {0}) CommandFault)
    → IfErr res (λ f. f ≡ F.Memory) → IfErr res (λ f. f ≢ F.Memory → IsHalted media c s f)
never_halts media c s (Ok x) h = tt
never_halts media c s (Err f) h = λ k. absurd (k h)

pub never_inner : (res : Result (Unit {0}) CommandFault) → IfErr res (λ f. f ≡ F.Memory)
    → IfErr res (λ f. (line : ℕ) → f ≢ F.Edit line E.Memory)
never_inner (Ok x) h = tt
never_inner (Err f) h = λ line e. let g : F.Memory ≡ F.Edit line E.Memory = sym h ∙ e in cc g

pub done_by_undo : {F : Type 0} (media : MediaRows) (act : Act) (h k : History) (t u : Timeline)
    (res : Result (Unit {0}) F) → OnOk res ((m : MediaRows) → IsDone m A.Undo h t k u)
    → act ≡ A.Undo → OnOk res (IsDone media act h t k u)
done_by_undo media act h k t u (Err f) d e = tt
done_by_undo media act h k t u (Ok x) d e =
    subst (λ a. IsDone media a h t k u) (sym e) (d media)

pub done_by_redo : {F : Type 0} (media : MediaRows) (act : Act) (h k : History) (t u : Timeline)
    (res : Result (Unit {0}) F) → OnOk res ((m : MediaRows) → IsDone m A.Redo h t k u)
    → act ≡ A.Redo → OnOk res (IsDone media act h t k u)
done_by_redo media act h k t u (Err f) d e = tt
done_by_redo media act h k t u (Ok x) d e =
    subst (λ a. IsDone media a h t k u) (sym e) (d media)
