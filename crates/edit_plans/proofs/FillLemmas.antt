-- What fills a gap, and that it is never out of range.
use Rattle.std.proofs.Common.{◌≡◌, refl, sym, ap, subst, ◌∙◌, ℤ, pos, ◌-ℤ◌, ◌≤ℤ◌, ◌<ℤ◌, Bool, true, false, Some, arith}
use Rattle.std.specs.Prelude.{int_lt, IfErr}
use Rattle.std.specs.declared.result.Result.{Result}
use Rattle.std.specs.declared.result.Result.TheVariants.{Ok, Err}
use Rattle.std.proofs.lemmas.Int.{ints}
use Rattle.limits.specs.Limits.{most_ticks}
use Rattle.otio_model.specs.declared.compositions.ItemOf.{ItemOf}
use Rattle.otio_model.specs.declared.compositions.Listed.{Listed}
use Rattle.tick_time.specs.declared.rates.Rate.{Rate}
use Rattle.otio_model.specs.declared.edit_types.FillMode.{FillMode}
use Rattle.otio_model.specs.declared.edit_types.FillMode.TheVariants as M
use Rattle.otio_model.specs.Lengths.{trimmed_start}
use Rattle.edits.specs.Children.{Ranged, child_ticks, is_far, made, ticks}
use Rattle.edits.specs.Cuts.{is_whole_at}
use Rattle.edits.specs.Edits.{filling, fitted}
use Rattle.edits.specs.Refusals.{is_wrong_fit}
use Rattle.pieces.proofs.Tests.{lt_no, lt_yes}
use Rattle.edit_plans.specs.Filled.{IsFilling, IsMisfit}
use Rattle.edit_plans.specs.declared.gap_fill.FillFault.{FillFault}
use Rattle.edit_plans.specs.declared.gap_fill.FillFault.TheVariants as F
use Rattle.pieces.proofs.SameTimes.{range_yes}

-- a start and a length in range aren't far
pub not_far : (x : ItemOf Listed) (s n : ℤ) → (pos 0 -ℤ pos most_ticks) ≤ℤ s → s ≤ℤ pos most_ticks
    → pos 0 ≤ℤ n → n ≤ℤ pos most_ticks → is_far (Ranged x s n) ≡ true → ⊥
not_far x s n a b c d e =
    let k = range_yes s a b in
    let m = range_yes n (omega (arith, ints)) d in
    let f : is_far (Ranged x s n) ≡ false = rw (k, m) refl in
    cc (sym e ∙ f)

pub ruleset near = (not_far)

-- ---- how long it is

pub longer : (x : ItemOf Listed) (room n : ℤ) → n ≡ ticks x → room <ℤ n
    → room ≡ child_ticks (filling M.Sequence x room)
longer x room n e h =
    let k : int_lt room (ticks x) ≡ true = ap (int_lt room) (sym e) ∙ lt_yes room n h in
    rw k refl

pub shorter : (x : ItemOf Listed) (room n : ℤ) → n ≡ ticks x → n ≤ℤ room
    → n ≡ child_ticks (filling M.Sequence x room)
shorter x room n e h =
    let k : int_lt room (ticks x) ≡ false = ap (int_lt room) (sym e) ∙ lt_no room n h in
    rw k e

pub ruleset lengths = (longer, shorter)

-- ---- an item that is cut

pub whole : (x : ItemOf Listed) (room n : ℤ) (rate : Rate) → n ≡ ticks x → n ≤ℤ room
    → IsFilling M.Sequence x room rate x
whole x room n rate e h =
    let k : int_lt room (ticks x) ≡ false = ap (int_lt room) (sym e) ∙ lt_no room n h in
    record { right = refl; whole = rw k refl; made = rw k refl }

pub piece : (x y : ItemOf Listed) (room n s : ℤ) (rate : Rate) (b : Bool) → n ≡ ticks x
    → room <ℤ n → b ≡ is_whole_at x room → b ≡ true → s ≡ trimmed_start x
    → made rate (Ranged x s room) ≡ Some y → IsFilling M.Sequence x room rate y
piece x y room n s rate b e h f g i m =
    let k : int_lt room (ticks x) ≡ true = ap (int_lt room) (sym e) ∙ lt_yes room n h in
    let w : is_whole_at x room ≡ true = sym f ∙ g in
    record {
      right = refl;
      whole = rw (k, w) refl;
      made = rw k (subst (λ z. made rate (Ranged x z room) ≡ Some y) i m);
    }

pub piece_as : (x y : ItemOf Listed) (room m k n s : ℤ) (rate : Rate) (b : Bool) → n ≡ ticks x
    → room <ℤ n → m ≡ room → b ≡ is_whole_at x m → b ≡ true → k ≡ room → s ≡ trimmed_start x
    → made rate (Ranged x s k) ≡ Some y → IsFilling M.Sequence x room rate y
piece_as x y room m k n s rate b e h q f g j i u =
    piece x y room n s rate b e h (f ∙ ap (is_whole_at x) q) g i
    (subst (λ z. made rate (Ranged x s z) ≡ Some y) j u)

pub no_piece : (x : ItemOf Listed) (room m n : ℤ) (b : Bool) → n ≡ ticks x → room <ℤ n
    → m ≡ room → b ≡ is_whole_at x m → b ≡ false → IsMisfit M.Sequence x room F.Phase
no_piece x room m n b e h q f g =
    let k : int_lt room (ticks x) ≡ true = ap (int_lt room) (sym e) ∙ lt_yes room n h in
    let w : is_whole_at x room ≡ false = ap (is_whole_at x) (sym q) ∙ sym f ∙ g in
    (refl, rw (k, w) refl)

-- ---- an item at another speed

pub fit : (x fast y : ItemOf Listed) (room s : ℤ) (rate : Rate) → is_wrong_fit x room ≡ false
    → fast ≡ fitted x room → s ≡ trimmed_start x → made rate (Ranged fast s room) ≡ Some y
    → IsFilling M.Fit x room rate y
fit x fast y room s rate w e f m = record {
  right = w;
  whole = refl;
  made = subst (λ z. made rate (Ranged z (trimmed_start x) room) ≡ Some y) e
      (subst (λ z. made rate (Ranged fast z room) ≡ Some y) f m);
}

pub fit_as : (x fast y : ItemOf Listed) (room m k s : ℤ) (rate : Rate) → is_wrong_fit x m ≡ false
    → fast ≡ fitted x m → m ≡ room → k ≡ room → s ≡ trimmed_start x
    → made rate (Ranged fast s k) ≡ Some y → IsFilling M.Fit x room rate y
fit_as x fast y room m k s rate w e q j f u =
    fit x fast y room s rate (subst (λ z. is_wrong_fit x z ≡ false) q w)
    (e ∙ ap (fitted x) q) f (subst (λ z. made rate (Ranged fast s z) ≡ Some y) j u)

pub misfit_still : (x : ItemOf Listed) (room : ℤ) (fault : FillFault) → fault ≡ F.Speed
    → is_wrong_fit x room ≡ true → IsMisfit M.Fit x room fault
misfit_still x room fault e w = subst (IsMisfit M.Fit x room) (sym e) w

-- ---- a whole item

pub source : (x : ItemOf Listed) (room : ℤ) (rate : Rate) → IsFilling M.Source x room rate x
source x room rate = record { right = refl; whole = refl; made = refl }

-- ---- as the code counts

pub sized_as : (r : Rate) (x y : ItemOf Listed) (s n a b : ℤ) → made r (Ranged x s n) ≡ Some y
    → s ≡ a → n ≡ b → made r (Ranged x a b) ≡ Some y
sized_as r x y s n a b m e f =
    subst (λ z. made r (Ranged x a z) ≡ Some y) f
    (subst (λ z. made r (Ranged x z n) ≡ Some y) e m)

pub not_far_as : (x : ItemOf Listed) (s n a b : ℤ) → is_far (Ranged x s n) ≡ true → s ≡ a → n ≡ b
    → (pos 0 -ℤ pos most_ticks) ≤ℤ a → a ≤ℤ pos most_ticks → pos 0 ≤ℤ b → b ≤ℤ pos most_ticks → ⊥
not_far_as x s n a b e f g low high least most =
    not_far x a b low high least most
    (subst (λ z. is_far (Ranged x a z) ≡ true) g
    (subst (λ z. is_far (Ranged x z n) ≡ true) f e))

pub source_as : (mode : FillMode) (x : ItemOf Listed) (room : ℤ) (rate : Rate)
    → mode ≡ M.Source → IsFilling mode x room rate x
source_as mode x room rate e =
    subst (λ z. IsFilling z x room rate x) (sym e) (source x room rate)

pub filling_as : (mode own : FillMode) (x y : ItemOf Listed) (m room : ℤ) (rate : Rate)
    → mode ≡ own → m ≡ room → IsFilling own x m rate y → IsFilling mode x room rate y
filling_as mode own x y m room rate g e f =
    subst (λ z. IsFilling z x room rate y) (sym g) (subst (λ z. IsFilling own x z rate y) e f)

pub misfit_in : (mode : FillMode) (x : ItemOf Listed) (m room : ℤ) (fault : FillFault) → m ≡ room
    → IsMisfit mode x m fault → IsMisfit mode x room fault
misfit_in mode x m room fault e f = subst (λ z. IsMisfit mode x z fault) e f

pub misfit_as : (mode own : FillMode) (x : ItemOf Listed) (m room : ℤ) (fault : FillFault)
    → mode ≡ own → m ≡ room → IsMisfit own x m fault → IsMisfit mode x room fault
misfit_as mode own x m room fault g e f =
    subst (λ z. IsMisfit z x room fault) (sym g) (misfit_in own x m room fault e f)

-- two facts of one fault
pub faults_both : {A E : Type 0} {P Q R : E → Type 0} (r : Result A E) → IfErr r P → IfErr r Q
    → ((e : E) → P e → Q e → R e) → IfErr r R
faults_both (Ok x) p q k = tt
faults_both (Err e) p q k = k e p q
