-- What fills a gap, as a list.
use Rattle.std.proofs.Common.{◌≡◌, ◌≢◌, refl, sym, ap, ◌∙◌, ℤ, ◌≤◌, true, false, List, [], ◌∷◌, Some, length, arith}
use Rattle.tick_time.specs.declared.rates.Rate.{Rate}
use Rattle.otio_model.specs.declared.compositions.ItemOf.{ItemOf}
use Rattle.otio_model.specs.declared.compositions.Listed.{Listed}
use Rattle.otio_model.specs.declared.edit_types.EditFault.{EditFault}
use Rattle.otio_model.specs.declared.edit_types.EditFault.TheVariants as F
use Rattle.otio_model.specs.declared.edit_types.FillMode.{FillMode}
use Rattle.otio_model.specs.declared.edit_types.RemoveMode.{RemoveMode}
use Rattle.otio_model.specs.declared.edit_types.RemoveMode.TheVariants as R
use Rattle.edits.specs.Children.{all_made, made, new_gap, with_first}
use Rattle.edits.specs.Edits.{filling}
use Rattle.edits.specs.Refusals.{cuts_filling}
use Rattle.edit_plans.specs.Filled.{IsFilling, IsMisfit, is_wrong}
use Rattle.edit_plans.specs.declared.gap_fill.FillFault.{FillFault}
use Rattle.edit_plans.specs.declared.gap_fill.FillFault.TheVariants as G
use Rattle.edit_ops.specs.Zoned.{in_place, misfit, told}

pub right_of : (mode : FillMode) (x y : ItemOf Listed) (m room : ℤ) (rate : Rate)
    → IsFilling mode x m rate y → m ≡ room → is_wrong mode x room ≡ false
right_of mode x y m room rate f e = ap (is_wrong mode x) (sym e) ∙ f.right

pub whole_of : (mode : FillMode) (x y : ItemOf Listed) (m room : ℤ) (rate : Rate)
    → IsFilling mode x m rate y → m ≡ room → cuts_filling mode x room ≡ true
whole_of mode x y m room rate f e = ap (cuts_filling mode x) (sym e) ∙ f.whole

pub list_of_one : (mode : FillMode) (x y : ItemOf Listed) (m room : ℤ) (rate : Rate)
    (put : List (ItemOf Listed)) → IsFilling mode x m rate y → m ≡ room → put ≡ y ∷ []
    → all_made rate (filling mode x room ∷ []) ≡ Some put
list_of_one mode x y m room rate put f e g =
    ap (λ z. all_made rate (filling mode x z ∷ [])) (sym e)
    ∙ ap (λ o. with_first o (Some [])) f.made ∙ ap Some (sym g)

pub one_long : (put : List (ItemOf Listed)) (y : ItemOf Listed) → put ≡ y ∷ [] → length put ≡ 1
one_long put y e = ap length e

pub one_few : (put : List (ItemOf Listed)) (y : ItemOf Listed) → put ≡ y ∷ [] → length put ≤ 1
one_few put y e = let k : length put ≡ 1 = ap length e in omega (arith, k)

pub misfit_of : (mode : FillMode) (x : ItemOf Listed) (m room : ℤ) (fault : FillFault)
    → IsMisfit mode x m fault → m ≡ room → told fault ≢ F.Memory
    → misfit mode x room (Some F.Memory) ≡ Some (told fault)
misfit_of mode x m room G.Speed h e n =
    let w : is_wrong mode x room ≡ true = ap (is_wrong mode x) (sym e) ∙ h in rw w refl
misfit_of mode x m room G.Phase h e n =
    let w : is_wrong mode x room ≡ false = ap (is_wrong mode x) (sym e) ∙ h.0 in
    let k : cuts_filling mode x room ≡ false = ap (cuts_filling mode x) (sym e) ∙ h.1 in
    rw (w, k) refl
misfit_of mode x m room G.Memory h e n = absurd (n refl)

pub misfit_told : (mode : FillMode) (x : ItemOf Listed) (m room : ℤ) (fault : FillFault)
    (r : EditFault) → IsMisfit mode x m fault → m ≡ room → r ≡ told fault → r ≢ F.Memory
    → misfit mode x room (Some F.Memory) ≡ Some r
misfit_told mode x m room fault r h e f n =
    misfit_of mode x m room fault h e (λ g. n (f ∙ g)) ∙ ap Some (sym f)

-- ---- a gap in place of an item

pub gap_made : (rate : Rate) (mode : RemoveMode) (n m : ℤ) (y : ItemOf Listed)
    (put : List (ItemOf Listed)) → mode ≡ R.Gap → made rate (new_gap m) ≡ Some y → m ≡ n
    → put ≡ y ∷ [] → all_made rate (in_place mode n) ≡ Some put
gap_made rate mode n m y put h f e g =
    ap (λ z. all_made rate (in_place z n)) h
    ∙ ap (λ z. all_made rate (new_gap z ∷ [])) (sym e)
    ∙ ap (λ o. with_first o (Some [])) f ∙ ap Some (sym g)
