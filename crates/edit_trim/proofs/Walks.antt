-- Walks over lists to the nearest item that is no transition.
use Rattle.std.proofs.Common.{◌≡◌, refl, sym, ap, ◌∙◌, ℕ, zero, suc, ◌+◌, Bool, true, false}
use Rattle.std.proofs.Common.{Some, None, List, [], ◌∷◌, take, drop, add-one}
use Rattle.std.specs.Prelude.{not, slice_get}
use Rattle.otio_model.specs.declared.compositions.ItemOf.{ItemOf}
use Rattle.otio_model.specs.declared.compositions.Listed.{Listed}
use Rattle.otio_model.specs.Trees.{is_transition}
use Rattle.edits.specs.Edges.{first_item, last_item}
use Rattle.edit_trim.specs.Seats.{IsFirst, IsLast}

thing_of : (b : Bool) → true ≡ not b → b ≡ false
thing_of true e = absurd (cc e)
thing_of false e = refl

point_of : (b : Bool) → false ≡ not b → b ≡ true
point_of true e = refl
point_of false e = absurd (cc e)

next : (l : List (ItemOf Listed)) (i : ℕ) (x : ItemOf Listed) → slice_get l i ≡ Some x
    → drop i l ≡ x ∷ drop (suc i) l
next [] i x e = absurd (cc e)
next (y ∷ l) zero x e = let same : y ≡ x = cc e in ap (λ z. z ∷ l) same
next (y ∷ l) (suc i) x e = next l i x e

pub last_found : (l : List (ItemOf Listed)) (i : ℕ) (x : ItemOf Listed) → slice_get l i ≡ Some x
    → true ≡ not (is_transition x) → last_item (drop (i + 1) l) ≡ None → IsLast l i
last_found l i x e t n = record {
  item = x;
  there = e;
  thing = thing_of (is_transition x) t;
  last = n;
}

pub last_passed : (l : List (ItemOf Listed)) (i : ℕ) (x : ItemOf Listed) → slice_get l i ≡ Some x
    → false ≡ not (is_transition x) → last_item (drop (i + 1) l) ≡ None
    → last_item (drop i l) ≡ None
last_passed l i x e t n =
    let u = point_of (is_transition x) t in
    let k : last_item (drop (suc i) l) ≡ None = ap (λ j. last_item (drop j l)) (sym (add-one i))
    ∙ n in
    ap last_item (next l i x e) ∙ (rw (k, u) refl)

pub first_found : (l : List (ItemOf Listed)) (i : ℕ) (x : ItemOf Listed) → slice_get l i ≡ Some x
    → true ≡ not (is_transition x) → first_item (take i l) ≡ None → IsFirst l i
first_found l i x e t n = record {
  item = x;
  there = e;
  thing = thing_of (is_transition x) t;
  first = n;
}

pub first_passed : (l : List (ItemOf Listed)) (i : ℕ) (x : ItemOf Listed) → slice_get l i ≡ Some x
    → false ≡ not (is_transition x) → first_item (take i l) ≡ None
    → first_item (take (i + 1) l) ≡ None
first_passed l i x e t n = ap (λ j. first_item (take j l)) (add-one i) ∙ by l i e n
  where
    more : (y : ItemOf Listed) (m k : List (ItemOf Listed)) → first_item (y ∷ m) ≡ None
        → (first_item m ≡ None → first_item k ≡ None) → first_item (y ∷ k) ≡ None
    more y m k h f = go (is_transition y) refl
      where
        go : (b : Bool) → is_transition y ≡ b → first_item (y ∷ k) ≡ None
        go true u = rw u (f (rw u at h))
        go false u = absurd (cc (rw u at h))

    by : (m : List (ItemOf Listed)) (j : ℕ) → slice_get m j ≡ Some x → first_item (take j m) ≡ None
        → first_item (take (suc j) m) ≡ None
    by [] j f h = absurd (cc f)
    by (y ∷ m) zero f h = let same : y ≡ x = cc f in let u : is_transition y ≡ true =
        ap is_transition same ∙ point_of (is_transition x) t in rw u refl
    by (y ∷ m) (suc j) f h = more y (take j m) (take (suc j) m) h (λ g. by m j f g)
