-- What the plan of an edit comes to, from what a part of it gives.
use Rattle.std.proofs.Common.{◌≡◌, ◌≢◌, refl, sym, ap, subst, ◌∙◌, ℕ, ℤ, FitsSigned, List, Result, Err, to_z, of_z, arith}
use mir.Syntax.{w64}
use Rattle.std.specs.Result.{IfErr, IfOk}
use Rattle.std.proofs.lemmas.Int.{ints}
use Rattle.std.proofs.lemmas.Result.{IfErr-weaker, IfOk-weaker}
use Rattle.otio_model.specs.declared.compositions.ItemOf.{ItemOf}
use Rattle.otio_model.specs.declared.compositions.Listed.{Listed}
use Rattle.otio_model.specs.declared.timelines.Timeline.{Timeline}
use Rattle.otio_model.specs.declared.patches.Patch.{Patch}
use Rattle.otio_model.specs.declared.edit_types.Edit.{Edit}
use Rattle.otio_model.specs.declared.edit_types.EditFault.{EditFault}
use Rattle.otio_model.specs.declared.edit_types.EditFault.TheVariants as F
use Rattle.otio_model.specs.Patches.{applied}
use Rattle.coord.specs.Soundness.{IsSound}
use Rattle.edits_law.specs.Editable.{HasEditItem}
use Rattle.edits.specs.Refusals.{IsRefused}
use Rattle.edit_plans.specs.Planned.{IsMiddle, IsPlan, ShowsThrough}
use Rattle.edit_plans.proofs.Shown.{shows_through}
use Rattle.edit_ops.specs.Answered.{IsAnswer}

pub answer-refused : (t : Timeline) (e : Edit) (f : EditFault)
    → (f ≢ F.Memory → IsRefused t e f) → IsAnswer t e (Err f)
answer-refused t e f h = record { plan = tt; fault = h }

pub answer-memory : (t : Timeline) (e : Edit) → IsAnswer t e (Err F.Memory)
answer-memory t e = record { plan = tt; fault = λ free. absurd (free refl) }

-- the patch of a middle
pub answer-finished : (t : Timeline) (p : List ℕ) (at count : ℕ) (new : List (ItemOf Listed))
    (r : Result Patch EditFault)
    → IfOk r (λ (q : Patch). (e : Edit) → IsMiddle t e p at count new → IsPlan t e q)
    → IfErr r (λ (y : EditFault). (e : Edit) → IsMiddle t e p at count new → IsRefused t e y)
    → (e : Edit) → IsMiddle t e p at count new → IsAnswer t e r
answer-finished t p at count new r h k e m = record {
  plan =
      IfOk-weaker r (λ (q : Patch). (e : Edit) → IsMiddle t e p at count new → IsPlan t e q)
      (λ (q : Patch). IsPlan t e q) (λ q g. g e m) h;
  fault =
      IfErr-weaker r
      (λ (y : EditFault). (e : Edit) → IsMiddle t e p at count new → IsRefused t e y)
      (λ (y : EditFault). y ≢ F.Memory → IsRefused t e y) (λ y g free. g e m) k;
}

-- the edit whose record frame comes as a word of 64 bits
pub answer-of_word : (t : Timeline) (e : Edit) (E : ℤ → Edit) (at : ℤ) (r : Result Patch EditFault)
    → FitsSigned w64 at → e ≡ E at → IsAnswer t (E (to_z w64 (of_z w64 at))) r → IsAnswer t e r
answer-of_word t e E at r fits i a =
    let same : to_z w64 (of_z w64 at) ≡ at = omega (arith, ints, fits) in
    subst (λ d. IsAnswer t d r) (ap E same ∙ sym i) a

pub item-of_edit : (e d : Edit) → e ≡ d → HasEditItem e → HasEditItem d
item-of_edit e d s h = subst HasEditItem s h

-- the new timeline shows what the edit's law says
pub answer-shown : (t : Timeline) (e : Edit) (r : Result Patch EditFault) → IsSound t
    → HasEditItem e → IsAnswer t e r → IfOk r (λ (p : Patch). ShowsThrough t e (applied p t))
answer-shown t e r sound item a =
    IfOk-weaker r (λ (p : Patch). IsPlan t e p) (λ (p : Patch). ShowsThrough t e (applied p t))
    (λ p (k : IsPlan t e p). shows_through t e (applied p t) sound item k.after) a.plan
