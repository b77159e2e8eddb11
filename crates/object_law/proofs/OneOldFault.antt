-- An object has at most one first fault of the older family, and none where it has a form there.
use Rattle.std.proofs.Common.{◌≡◌, ◌≢◌, refl, sym, ap, ◌∙◌, ℕ, zero, suc, List, [], ◌∷◌, map, Option, Some, None, slice_get}
use Rattle.std.specs.Prelude.{option_and_then}
use Rattle.json_value.specs.declared.Json.{Json}
use Rattle.otio_model.specs.declared.compositions.ItemOf.{ItemOf}
use Rattle.otio_model.specs.declared.compositions.ItemOf.TheVariants as I
use Rattle.otio_model.specs.declared.compositions.Listed.{Listed}
use Rattle.otio_model.specs.declared.timelines.Timeline.{Timeline}
use Rattle.otio_model.specs.Timelines.{bare}
use Rattle.otio_model.specs.Trees.{below}
use Rattle.otio_model.specs.declared.objects.Object.{Object, out-Object, Timeline as ObjectOfTimeline}
use Rattle.otio_model.specs.declared.objects.Object.TheOpen.{Object-F}
use Rattle.otio_model.specs.declared.objects.Object.TheFolds.{fold-roll-Object, fold-roll-Collection}
use Rattle.otio_model.specs.declared.objects.Object.TheViews.{roll-Object, roll-out-Object, roll-out-Collection}
use Rattle.otio_model.specs.declared.objects.Collection.{Collection, fold-Collection, out-Collection}
use Rattle.coord.proofs.Order.{same, before, behind, compared}
use Rattle.schema_rows.specs.Stands.{Stands}
use Rattle.schema_write.specs.declared.old_faults.OldFault.{OldFault}
use Rattle.schema_write.specs.declared.old_faults.OldFault.TheVariants.{Keys, Member}
use Rattle.schema_write.specs.declared.old_faults.FamilyFault.{FamilyFault}
use Rattle.schema_write.specs.declared.old_faults.FamilyFault.TheVariants as F
use Rattle.schema_write.specs.OldForms.{old_fault_of, held_in, held_at, HasOldForm, IsFirstOld, IsOldFault, fault_at}
use Rattle.schema_write.specs.OldWalk.{Way}
use Rattle.object_law.proofs.SeenValues.{Folded, of_object}
use Rattle.object_law.proofs.Verdicts.{folded_once}

-- two objects lead to the same items
abbrev pub SamePlaces : Object → Object → Type 0
SamePlaces a b = (place : List ℕ) → held_at place a ≡ held_at place b

at_one : (a b : Object) (p q : List ℕ) (f g : OldFault) (x y : ItemOf Listed) → SamePlaces a b
    → p ≡ q → held_at p a ≡ Some x → held_at q b ≡ Some y → old_fault_of x ≡ Some f
    → old_fault_of y ≡ Some g → f ≡ g
at_one a b p q f g x y places e h k u v =
    let is : x ≡ y = cc (sym h ∙ places p ∙ ap (λ r. held_at r b) e ∙ k) in
    let both : Some f ≡ Some g = sym u ∙ ap old_fault_of is ∙ v in cc both

some_none : {A : Type 0} (o : Option A) (x : A) {P : Type 0} → o ≡ Some x → o ≡ None → P
some_none o x e n = absurd (cc (e, n))

one_first : (a b : Object) (p q : List ℕ) (f g : OldFault) → SamePlaces a b → IsFirstOld a p f
    → IsFirstOld b q g → (p ≡ q) × (f ≡ g)
one_first a b p q f g places u v = elim (compared p q) [
  | same e ↦ (e, at_one a b p q f g u.item v.item places e u.there v.there u.has v.has)
  | before h ↦ some_none (old_fault_of u.item) f u.has
      (v.first p u.item h (sym (places p) ∙ u.there))
  | behind h ↦ some_none (old_fault_of v.item) g v.has
      (u.first q v.item h (places q ∙ v.there))
]

both : (a b : Object) (p q : List ℕ) (f g : OldFault) → SamePlaces a b → IsFirstOld a p f
    → IsFirstOld b q g → fault_at p f ≡ fault_at q g
both a b p q f g places u v =
    let e = one_first a b p q f g places u v in
    ap (λ (r : List ℕ). fault_at r f) e.0 ∙ ap (fault_at q) e.1

-- two first faults other than out of memory are one
pub one_old_fault : (a b : Object) (f g : FamilyFault) → SamePlaces a b → f ≢ F.Memory
    → g ≢ F.Memory → IsOldFault a f → IsOldFault b g → f ≡ g
one_old_fault a b (F.Keys p) (F.Keys q) places m n u v = both a b p q Keys Keys places u v
one_old_fault a b (F.Keys p) (F.Member q) places m n u v = both a b p q Keys Member places u v
one_old_fault a b (F.Member p) (F.Keys q) places m n u v = both a b p q Member Keys places u v
one_old_fault a b (F.Member p) (F.Member q) places m n u v = both a b p q Member Member places u v
one_old_fault a b F.Memory g places m n u v = absurd (m refl)
one_old_fault a b (F.Keys p) F.Memory places m n u v = absurd (n refl)
one_old_fault a b (F.Member p) F.Memory places m n u v = absurd (n refl)

-- and an object with a form has none
pub no_old_fault : (a b : Object) (f : FamilyFault) → SamePlaces a b → f ≢ F.Memory → HasOldForm a
    → IsOldFault b f → ⊥
no_old_fault a b (F.Keys p) places n h v =
    some_none (old_fault_of v.item) Keys v.has (h p v.item (places p ∙ v.there))
no_old_fault a b (F.Member p) places n h v =
    some_none (old_fault_of v.item) Member v.has (h p v.item (places p ∙ v.there))
no_old_fault a b F.Memory places n h v = n refl

-- what places lead to, as a fold that sets spare memory aside
abbrev ways : List Way → Way
ways fs [] = None
ways fs (i ∷ place) = option_and_then (λ (f : Way). f place) (slice_get fs i)

abbrev way_of : Object-F Way Way → Way
way_of (Object-F.Timeline t) = λ place. below place (I.Stack t.tracks)
way_of (Object-F.Collection f) = f
way_of (Object-F.Item x) = λ place. below place x

abbrev in_ways : Folded
in_ways = record {
  A = Way;
  B = Way;
  object = way_of;
  collection = λ c. ways c.children;
  spare = λ t. refl;
}

mapped : (objects : List Object) (i : ℕ) (place : List ℕ)
    → ((o : Object) → of_object in_ways o place ≡ held_at place o)
    → option_and_then (λ (f : Way). f place) (slice_get (map (of_object in_ways) objects) i)
    ≡ option_and_then (λ o. held_in (out-Object o) place) (slice_get objects i)
mapped [] zero place h = refl
mapped [] (suc i) place h = refl
mapped (o ∷ objects) zero place h = h o
mapped (o ∷ objects) (suc i) place h = mapped objects i place h

way_layer : (place : List ℕ) (layer : Object-F Object Collection)
    → of_object in_ways (roll-Object layer) place ≡ held_in layer place
way_layer place (Object-F.Timeline t) =
    ap (λ (f : Way). f place) (fold-roll-Object Way Way way_of (λ c. ways c.children) (Object-F.Timeline t))
way_layer place (Object-F.Item x) =
    ap (λ (f : Way). f place) (fold-roll-Object Way Way way_of (λ c. ways c.children) (Object-F.Item x))
way_layer [] (Object-F.Collection c) =
    ap (λ (f : Way). f []) (fold-roll-Object Way Way way_of (λ c. ways c.children) (Object-F.Collection c)
    ∙ ap (fold-Collection Way Way way_of (λ c. ways c.children)) (sym (roll-out-Collection c))
    ∙ fold-roll-Collection Way Way way_of (λ c. ways c.children) (out-Collection c))
way_layer (i ∷ place) (Object-F.Collection c) =
    ap (λ (f : Way). f (i ∷ place)) (fold-roll-Object Way Way way_of (λ c. ways c.children) (Object-F.Collection c)
    ∙ ap (fold-Collection Way Way way_of (λ c. ways c.children)) (sym (roll-out-Collection c))
    ∙ fold-roll-Collection Way Way way_of (λ c. ways c.children) (out-Collection c))
    ∙ mapped (out-Collection c).children i place
    (λ o. ap (λ (x : Object). of_object in_ways x place) (sym (roll-out-Object o))
    ∙ way_layer place (out-Object o))

way_is : (place : List ℕ) (o : Object) → of_object in_ways o place ≡ held_at place o
way_is place o = ap (λ (x : Object). of_object in_ways x place) (sym (roll-out-Object o))
    ∙ way_layer place (out-Object o)

-- two objects that a value represents lead to the same items
pub same_places : (value : Json) (a b : Object) → Stands value a → Stands value b → SamePlaces a b
same_places value a b p q place = sym (way_is place a)
    ∙ ap (λ (f : Way). f place) (folded_once in_ways value a b p q) ∙ way_is place b

-- and so do two timelines that differ in spare memory at the most
pub bare_places : (t u : Timeline) → bare t ≡ bare u
    → SamePlaces (ObjectOfTimeline t) (ObjectOfTimeline u)
unfolding roll-Object denote.Hole.Carrier.roll out-Object denote.Hole.Carrier.out
bare_places t u e place = ap (λ (x : Timeline). below place (I.Stack x.tracks)) e
