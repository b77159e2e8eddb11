-- The first fault of items that are looked at one after another.
use Rattle.std.proofs.Common.{◌≡◌, ℕ, zero, suc, ◌+◌, ◌<◌, ◌≤◌, List, [], ◌∷◌, Option, Some, None, refl, ap, sym, ◌∙◌, length, slice_get, subst, inl, inr, arith}
use Rattle.std.specs.Prelude.{option_and_then, ◌⊎◌}
use Rattle.otio_model.specs.declared.compositions.ItemOf.{ItemOf}
use Rattle.otio_model.specs.declared.compositions.Listed.{Listed}
use Rattle.otio_model.specs.Trees.{items_of, children_of, below, item_at}
use Rattle.coord.specs.declared.faults.ItemFault.{ItemFault}
use Rattle.coord.specs.declared.judging.Found.{Found}
use Rattle.coord.specs.declared.judging.Found.TheVariants.{At, Memory}
use Rattle.coord.specs.Soundness.{fault_of, AreFaultless, Precedes, IsFirstFault, IsFaultlessItem}
use Rattle.coord.specs.Walk.{AreFaultlessTo, IsFirstBelow, IsFoundIn, IsFoundAt, IsUnder}
use Rattle.coord.proofs.Members.{got_below}

pub split_last : (i j : ℕ) → j < suc i → (j < i) ⊎ (j ≡ i)
split_last zero zero h = inr refl
split_last zero (suc j) h = absurd (omega (arith, h))
split_last (suc i) zero h = inl (omega arith)
split_last (suc i) (suc j) h = elim (split_last i j (omega (arith, h))) [ inl k ↦ inl (omega (arith, k)) | inr k ↦ inr (omega (arith, k)) ]

-- what a step of a place leads through
then_some : {A B : Type 0} (f : A → Option B) (o : Option A) (y : B) → option_and_then f o ≡ Some y → (x : A) × (o ≡ Some x) × (f x ≡ Some y)
then_some f None y e = absurd (cc e)
then_some f (Some x) y e = (x, refl, e)

pub in_list : (l : Listed) (i : ℕ) (x : ItemOf Listed) (place : List ℕ) → slice_get (items_of l) i ≡ Some x → item_at (i ∷ place) l ≡ below place x
in_list l i x place e = ap (option_and_then (below place)) e

pub in_item : (x : ItemOf Listed) (l : Listed) (i : ℕ) (place : List ℕ) → children_of x ≡ Some l → below (i ∷ place) x ≡ item_at (i ∷ place) l
in_item x l i place e = ap (option_and_then (λ m. option_and_then (below place) (slice_get (items_of m) i))) e

no_fault : (x : ItemOf Listed) (f : ItemFault) {P : Type 0} → fault_of x ≡ Some f → fault_of x ≡ None → P
no_fault x f e n = absurd (cc (e, n))

-- one more child without a fault
pub sound_next : (l : Listed) (i : ℕ) (x : ItemOf Listed) → slice_get (items_of l) i ≡ Some x → IsFaultlessItem x → AreFaultlessTo i l → AreFaultlessTo (i + 1) l
sound_next l i x e s all = λ j y lt got. elim (split_last i j (omega (arith, lt))) [
  | inl k ↦ all j y k got
  | inr k ↦ let g : slice_get (items_of l) i ≡ Some y = rw k at got in let same : x ≡ y = cc (e, g) in subst IsFaultlessItem same s
]

-- all children without a fault
pub sound_all : (l : Listed) (i : ℕ) → length (items_of l) ≤ i → AreFaultlessTo i l → AreFaultless l
sound_all l i h all [] x e = absurd (cc e)
sound_all l i h all (j ∷ place) x e =
    let t = then_some (below place) (slice_get (items_of l) j) x e in
    all j t.0 (omega (arith, h, got_below (items_of l) j t.0 t.1)) t.1 place x t.2

pub sound_child : (l : Listed) (i : ℕ) (x : ItemOf Listed) → slice_get (items_of l) i ≡ Some x → AreFaultless l → IsFaultlessItem x
sound_child l i x e s = λ place y b. s (i ∷ place) y (in_list l i x place e ∙ b)

under_first : (l : Listed) (i : ℕ) (x : ItemOf Listed) (place : List ℕ) (fault : ItemFault) → slice_get (items_of l) i ≡ Some x → AreFaultlessTo i l → IsFirstBelow x place fault
    → (before : List ℕ) (y : ItemOf Listed) → Precedes before (i ∷ place) → item_at before l ≡ Some y → fault_of y ≡ None
under_first l i x place fault e all f [] y p g = absurd (cc g)
under_first l i x place fault e all f (j ∷ q) y (inl k) g =
    let t = then_some (below q) (slice_get (items_of l) j) y g in all j t.0 k t.1 q y t.2
under_first l i x place fault e all f (j ∷ q) y (inr k) g =
    let h : item_at (i ∷ q) l ≡ Some y = rw k.0 at g in f.first q y k.1 (sym (in_list l i x q e) ∙ h)

-- what was found in a child is what is found in the list
pub found_under : (l : Listed) (i : ℕ) (x : ItemOf Listed) (found there : Found) → slice_get (items_of l) i ≡ Some x → AreFaultlessTo i l
    → IsFoundAt x found → IsUnder i found there → IsFoundIn l there
found_under l i x Memory Memory e all f u = λ s. f (sound_child l i x e s)
found_under l i x (At rest cause) Memory e all f u = λ s. no_fault f.item cause f.has (sound_child l i x e s rest.items f.item f.there)
found_under l i x Memory (At way fault) e all f u = absurd u
found_under l i x (At rest cause) (At way fault) e all f u =
    let g : IsFirstBelow x rest.items fault = subst (IsFirstBelow x rest.items) u.0 f in
    subst (λ place. IsFirstFault l place fault) (sym u.1) (record {
      item = g.item;
      there = in_list l i x rest.items e ∙ g.there;
      has = g.has;
      first = under_first l i x rest.items fault e all g;
    })

-- an item with children that have no fault
pub sound_with : (x : ItemOf Listed) (l : Listed) → children_of x ≡ Some l → fault_of x ≡ None → AreFaultless l → IsFaultlessItem x
sound_with x l e n s [] y b = let same : x ≡ y = cc b in subst (λ z. fault_of z ≡ None) same n
sound_with x l e n s (i ∷ place) y b = s (i ∷ place) y (sym (in_item x l i place e) ∙ b)

-- an item without children
pub sound_alone : (x : ItemOf Listed) → children_of x ≡ None → fault_of x ≡ None → IsFaultlessItem x
sound_alone x e n [] y b = let same : x ≡ y = cc b in subst (λ z. fault_of z ≡ None) same n
sound_alone x e n (i ∷ place) y b =
    absurd (cc (sym (ap (option_and_then (λ m. option_and_then (below place) (slice_get (items_of m) i))) e) ∙ b))

deeper_first : (x : ItemOf Listed) (l : Listed) (place : List ℕ) (fault : ItemFault) → children_of x ≡ Some l → fault_of x ≡ None → IsFirstFault l place fault
    → (before : List ℕ) (y : ItemOf Listed) → Precedes before place → below before x ≡ Some y → fault_of y ≡ None
deeper_first x l place fault e n f [] y p b = let same : x ≡ y = cc b in subst (λ z. fault_of z ≡ None) same n
deeper_first x l place fault e n f (j ∷ q) y p b = f.first (j ∷ q) y p (sym (in_item x l j q e) ∙ b)

deeper : (x : ItemOf Listed) (l : Listed) (place : List ℕ) (fault : ItemFault) → children_of x ≡ Some l → fault_of x ≡ None → IsFirstFault l place fault → IsFirstBelow x place fault
deeper x l [] fault e n f = absurd (cc f.there)
deeper x l (i ∷ place) fault e n f = record {
  item = f.item;
  there = in_item x l i place e ∙ f.there;
  has = f.has;
  first = deeper_first x l (i ∷ place) fault e n f;
}

pub children_sound : (x : ItemOf Listed) (l : Listed) → children_of x ≡ Some l → IsFaultlessItem x → AreFaultless l
children_sound x l e s [] y b = absurd (cc b)
children_sound x l e s (i ∷ place) y b = s (i ∷ place) y (in_item x l i place e ∙ b)

-- what was found in the children of an item without a fault is what is found there
pub found_with : (x : ItemOf Listed) (l : Listed) (found : Found) → children_of x ≡ Some l → fault_of x ≡ None → IsFoundIn l found → IsFoundAt x found
found_with x l Memory e n f = λ s. f (children_sound x l e s)
found_with x l (At way fault) e n f = deeper x l way.items fault e n f
