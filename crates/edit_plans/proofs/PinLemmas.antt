-- The indexes of a place, from one on and up to one, and what pins the item there.
use Rattle.std.proofs.Common.{◌≡◌, refl, sym, ap, ◌∙◌, ℕ, zero, suc, ◌+◌, ◌≤◌, List, [], ◌∷◌}
use Rattle.std.proofs.Common.{◌++◌, Option, Some, None, take, drop, add-one, arith}
use Rattle.std.specs.Prelude.{slice_get}
use Rattle.otio_model.specs.declared.compositions.ItemOf.{ItemOf}
use Rattle.otio_model.specs.declared.compositions.Listed.{Listed}
use Rattle.otio_model.specs.Trees.{children_of, items_of}
use Rattle.edits.specs.Refusals.{Free, Pinned, free, own_range, with_child}
use Rattle.coord.proofs.Members.{next}

pub up_to : {A : Type 0} (xs : List A) (i : ℕ) (x : A) → slice_get xs i ≡ Some x
    → take (i + 1) xs ≡ take i xs ++ (x ∷ [])
up_to xs i x e = rw add-one (of xs i x e)
  where
    of : {A : Type 0} (xs : List A) (i : ℕ) (x : A) → slice_get xs i ≡ Some x
        → take (suc i) xs ≡ take i xs ++ (x ∷ [])
    of [] zero x e = absurd (cc e)
    of [] (suc i) x e = absurd (cc e)
    of (y ∷ xs) zero x e = let same : y ≡ x = cc e in ap (λ z. z ∷ []) same
    of (y ∷ xs) (suc i) x e = ap (λ l. y ∷ l) (of xs i x e)

-- after the last there is none
pub past_end : {A : Type 0} (xs : List A) (i : ℕ) → slice_get xs i ≡ None → drop i xs ≡ []
past_end [] zero e = refl
past_end [] (suc i) e = refl
past_end (x ∷ xs) zero e = absurd (cc e)
past_end (x ∷ xs) (suc i) e = past_end xs i e

pub past_all : {A : Type 0} (xs : List A) (i : ℕ) → slice_get xs i ≡ None
    → take (i + 1) xs ≡ take i xs
past_all xs i e = rw add-one (of xs i e)
  where
    of : {A : Type 0} (xs : List A) (i : ℕ) → slice_get xs i ≡ None → take (suc i) xs ≡ take i xs
    of [] zero e = refl
    of [] (suc i) e = refl
    of (x ∷ xs) zero e = absurd (cc e)
    of (x ∷ xs) (suc i) e = ap (λ l. x ∷ l) (of xs i e)

-- ---- copies of the first indexes

pub front_next : (place l m : List ℕ) (i x : ℕ) → Some x ≡ slice_get place i → l ≡ take i place
    → m ≡ l ++ (x ∷ []) → m ≡ take (i + 1) place
front_next place l m i x e f g = g ∙ ap (λ k. k ++ (x ∷ [])) f ∙ sym (up_to place i x (sym e))

pub front_same : (place l : List ℕ) (i : ℕ) → None ≡ slice_get place i → l ≡ take i place
    → l ≡ take (i + 1) place
front_same place l i e f = f ∙ sym (past_all place i (sym e))

pub front_all : (place l : List ℕ) (i n : ℕ) → n ≤ i → i ≤ n → l ≡ take i place → l ≡ take n place
front_all place l i n h k f = let same : i ≡ n = omega (arith, h, k) in f
    ∙ ap (λ j. take j place) same

-- ---- what pins an item on the way

pub free_end : (place : List ℕ) (d : ℕ) (x : ItemOf Listed) → None ≡ slice_get place d
    → own_range x ≡ free (drop d place) (take d place) x
free_end place d x e = sym (ap (λ q. free q (take d place) x) (past_end place d (sym e)))

-- by the child at the index, or none
abbrev at_child : List ℕ → List ℕ → ItemOf Listed → ℕ → Option (ItemOf Listed) → Free
at_child rest way x i o =
    elim o [
      | None ↦ Pinned
      | Some y ↦ with_child (way ++ i ∷ []) x (free rest (way ++ i ∷ []) y)
    ]

abbrev at_children : List ℕ → List ℕ → ItemOf Listed → ℕ → Option Listed → Free
at_children rest way x i o =
    elim o [ None ↦ Pinned | Some l ↦ at_child rest way x i (slice_get (items_of l) i) ]

at_index : (place : List ℕ) (d i : ℕ) (x : ItemOf Listed) (o : Option Listed)
    → Some i ≡ slice_get place d → children_of x ≡ o → free (drop d place) (take d place) x
    ≡ at_children (drop (d + 1) place) (take d place) x i o
at_index place d i x o e f = ap (λ q. free q (take d place) x) (next place d i (sym e))
    ∙ ap (at_children (drop (d + 1) place) (take d place) x i) f

pub free_none : (place : List ℕ) (d i : ℕ) (x : ItemOf Listed) → Some i ≡ slice_get place d
    → children_of x ≡ None → Pinned ≡ free (drop d place) (take d place) x
free_none place d i x e f = sym (at_index place d i x None e f)

pub free_out : (place : List ℕ) (d i : ℕ) (x : ItemOf Listed) (l : Listed)
    → Some i ≡ slice_get place d → children_of x ≡ Some l → slice_get (items_of l) i ≡ None
    → Pinned ≡ free (drop d place) (take d place) x
free_out place d i x l e f g =
    sym (at_index place d i x (Some l) e f
    ∙ ap (at_child (drop (d + 1) place) (take d place) x i) g)

pub free_in : (place : List ℕ) (d i : ℕ) (x : ItemOf Listed) (l : Listed) (y : ItemOf Listed)
    (p q : Free) → Some i ≡ slice_get place d → children_of x ≡ Some l
    → slice_get (items_of l) i ≡ Some y → p ≡ free (drop (d + 1) place) (take (d + 1) place) y
    → q ≡ with_child (take (d + 1) place) x p → q ≡ free (drop d place) (take d place) x
free_in place d i x l y p q e f g h k =
    let way : take (d + 1) place ≡ take d place ++ (i ∷ []) = up_to place d i (sym e) in
    k ∙ ap (with_child (take (d + 1) place) x) h
    ∙ ap (λ w. with_child w x (free (drop (d + 1) place) w y)) way
    ∙ sym (at_index place d i x (Some l) e f
    ∙ ap (at_child (drop (d + 1) place) (take d place) x i) g)
