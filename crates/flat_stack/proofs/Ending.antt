-- How the calls end.
use Rattle.std.proofs.Common.{◌≡◌, ◌≢◌, refl, sym, ap, ◌∙◌, ℕ, zero, suc, ◌+◌, ◌≤◌, ◌<◌, Bool, true, false, All, List, [], ◌∷◌, ◌++◌, Some, arith}
use Rattle.std.specs.Prelude.{cond, filter, flat_map, slice_get, take}
use Rattle.std.proofs.lemmas.List.Elements.{filter-append}
use Rattle.limits.specs.Limits.{most_items}
use Rattle.otio_model.specs.declared.timelines.Timeline.{Timeline}
use Rattle.otio_model.specs.Counts.{count}
use Rattle.flat.specs.Answers.{AreSound, AreFree, Joins, joins}
use Rattle.flat.specs.Joined.{AreFit}
use Rattle.flat.specs.Piled.{IsPiled}
use Rattle.flat.specs.Roots.{roots, with_roots}
use Rattle.flat_law.proofs.OthersSound.{join_there}
use Rattle.flat_stack.specs.declared.step_faults.ToolFault.{ToolFault}
use Rattle.flat_stack.specs.declared.step_faults.ToolFault.TheVariants.{Items}
use Rattle.flat_stack.specs.Gathered.{IsMany, IsConcatFault, many, Piles, IsStack, IsStackFault, items_in}
use Rattle.flat_stack.specs.Ready.{IsReady}
use Rattle.flat_stack.proofs.Carrying.{all_sound}
use Rattle.flat_stack.proofs.CountedSteps.{piled_count}

-- ---- one after another

fit : (s : Bool) (t : Timeline) (more : List Timeline) → AreSound (t ∷ more) → AreFree s (t ∷ more)
    → AreFit s t more
fit s t [] a f = record { sound = a.0; free = f }
fit s t (m ∷ more) a f = (record { sound = a.0; free = f.0 }, fit false m more a.1 f.1)

-- too many items, where nothing refuses the inputs
pub too_many : (l : List Timeline) (f : ToolFault) → All IsReady l → l ≢ [] → AreFree true l
    → ((r : Timeline) → Joins l r → IsMany r) → f ≡ Items → IsConcatFault l f
too_many [] f a n free h e = absurd (n refl)
too_many (t ∷ more) f a n free h e =
    let there = join_there t more (fit true t more (all_sound (t ∷ more) a) free) in
    let joined = joins t more (t ∷ more) there.0 refl free there.1 in
    many there.0 joined (h there.0 joined) e

-- ---- above each other

pub piles : (l : List Timeline) (r : Timeline) → l ≢ []
    → ((t : Timeline) (more : List Timeline) → l ≡ t ∷ more → IsPiled t more r) → Piles l r
piles [] r n h = absurd (n refl)
piles (t ∷ more) r n h = (t, more, refl, h t more refl)

pile_count : (l : List Timeline) (r : Timeline) → Piles l r
    → count r.tracks.children ≡ items_in l
pile_count l r p = piled_count p.0 r p.1 p.3 ∙ sym (ap items_in p.2)

pub stack_few : (l : List Timeline) (r : Timeline) → items_in l ≤ most_items → Piles l r
    → IsStack l r
stack_few l r few p = (p, omega (arith, few, pile_count l r p))

pub stack_many : (l : List Timeline) (f : ToolFault) → l ≢ [] → most_items < items_in l
    → f ≡ Items → IsStackFault l f
stack_many [] f n h e = absurd (n refl)
stack_many (t ∷ more) f n h e =
    let r : Timeline = with_roots (roots t ++ flat_map roots more) t in
    let p : Piles (t ∷ more) r = (t, more, refl, refl) in
    (r, p, omega (arith, h, pile_count (t ∷ more) r p), e)

-- ---- some of a list

take_next : {A : Type 0} (l : List A) (i : ℕ) (x : A) → slice_get l i ≡ Some x
    → take (suc i) l ≡ take i l ++ x ∷ []
take_next [] i x e = absurd (cc e)
take_next (y ∷ l) zero x e = let same : y ≡ x = cc e in ap (λ z. z ∷ []) same
take_next (y ∷ l) (suc i) x e = ap (λ m. y ∷ m) (take_next l i x e)

filter_next : {A : Type 0} (p : A → Bool) (l : List A) (i : ℕ) (x : A) → slice_get l i ≡ Some x
    → filter p (take (i + 1) l) ≡ filter p (take i l) ++ cond (p x) (x ∷ []) []
filter_next p l i x e =
    let next : i + 1 ≡ suc i = omega arith in
    ap (λ n. filter p (take n l)) next ∙ ap (filter p) (take_next l i x e)
    ∙ filter-append p (take i l) (x ∷ [])

pub kept_more : {A : Type 0} (p : A → Bool) (l old new : List A) (i : ℕ) (x y : A) (b : Bool)
    → old ≡ filter p (take i l) → slice_get l i ≡ Some x → b ≡ p x → b ≡ true → y ≡ x
    → new ≡ old ++ y ∷ [] → new ≡ filter p (take (i + 1) l)
kept_more p l old new i x y b h e f t g n =
    n ∙ ap (λ m. m ++ y ∷ []) h ∙ ap (λ z. filter p (take i l) ++ z ∷ []) g
    ∙ ap (λ c. filter p (take i l) ++ cond c (x ∷ []) []) (sym t ∙ f)
    ∙ sym (filter_next p l i x e)

none_more : {A : Type 0} (l : List A) → l ++ [] ≡ l
none_more [] = refl
none_more (x ∷ l) = ap (λ m. x ∷ m) (none_more l)

pub kept_less : {A : Type 0} (p : A → Bool) (l old new : List A) (i : ℕ) (x : A) (b : Bool)
    → old ≡ filter p (take i l) → slice_get l i ≡ Some x → b ≡ p x → b ≡ false
    → new ≡ old → new ≡ filter p (take (i + 1) l)
kept_less p l old new i x b h e f t n =
    n ∙ h ∙ sym (none_more (filter p (take i l)))
    ∙ ap (λ c. filter p (take i l) ++ cond c (x ∷ []) []) (sym t ∙ f)
    ∙ sym (filter_next p l i x e)
