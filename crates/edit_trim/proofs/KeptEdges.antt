-- The first and the last item of a list, and what comes in their place.
use Rattle.std.proofs.Common.{◌≡◌, refl, sym, ap, ◌∙◌, ℕ, zero, suc, ℤ, ◌-ℤ◌, ◌||◌, Bool, true}
use Rattle.std.proofs.Common.{false, Option, Some, None, List, [], ◌∷◌, ◌++◌, take, drop}
use Rattle.std.specs.Prelude.{slice_get, is_some}
use Rattle.std.specs.Option.{option_or}
use Rattle.otio_model.specs.declared.compositions.ItemOf.{ItemOf}
use Rattle.otio_model.specs.declared.compositions.Listed.{Listed}
use Rattle.otio_model.specs.Trees.{is_transition}
use Rattle.coord.specs.Sights.{overlap_of}
use Rattle.edits.specs.Splices.{is_stripped}
use Rattle.edits.specs.Children.{Child, Old, ticks}
use Rattle.edits.specs.Cuts.{olds, strip}
use Rattle.edits.specs.Edges.{first_changed, first_item, last_changed, last_item}
use Rattle.edits_law.proofs.Splice.{cases}
use Rattle.edits_law.proofs.Sorts.{point, thing, sort, strip_thing}
use Rattle.edit_trim.specs.Changes.{changed}
use Rattle.edit_trim.specs.Seats.{keep}

-- ---- where nothing changes

pub first_keep : (l : List (ItemOf Listed)) → first_changed (changed keep) l ≡ olds l
first_keep [] = refl
first_keep (x ∷ l) = cases (is_transition x)
    (λ s. rw s (ap (λ m. Old x ∷ m) (first_keep l)))
    (λ s. rw s refl)

pub last_keep : (l : List (ItemOf Listed)) → last_changed (changed keep) l ≡ olds l
last_keep [] = refl
last_keep (x ∷ l) = cases (is_some (last_item l) || is_transition x)
    (λ s. rw s (ap (λ m. Old x ∷ m) (last_keep l)))
    (λ s. rw s refl)

-- ---- the last item

pub last_none : (f : ItemOf Listed → List Child) (l : List (ItemOf Listed)) → last_item l ≡ None
    → last_changed f l ≡ olds l
last_none f [] e = refl
last_none f (x ∷ l) e = by (last_item l) refl (is_transition x) refl (λ g. last_none f l g)
  where
    by : (o : Option (ItemOf Listed)) → last_item l ≡ o → (t : Bool) → is_transition x ≡ t
        → (last_item l ≡ None → last_changed f l ≡ olds l)
        → last_changed f (x ∷ l) ≡ olds (x ∷ l)
    by (Some y) g t u next = absurd (cc (rw g at e))
    by None g true u next = rw (g, u) (ap (λ m. Old x ∷ m) (next g))
    by None g false u next = absurd (cc (rw (g, u) at e))

pub record LastPut (f : ItemOf Listed → List Child) (l : List (ItemOf Listed)) (i : ℕ)
    (x : ItemOf Listed) : Type 0 where
  pub is : last_item l ≡ Some x
  pub put : last_changed f l ≡ olds (take i l) ++ (f x ++ olds (drop (suc i) l))

pub last_at : (f : ItemOf Listed → List Child) (l : List (ItemOf Listed)) (i : ℕ)
    (x : ItemOf Listed) → slice_get l i ≡ Some x → is_transition x ≡ false
    → last_item (drop (suc i) l) ≡ None
    → LastPut f l i x
last_at f [] i x e t n = absurd (cc e)
last_at f (y ∷ l) zero x e t n =
    let same : y ≡ x = cc e in
    let u : is_transition y ≡ false = ap is_transition same ∙ t in
    record { is = rw (n, u) e; put = rw (n, u) (ap (λ z. f z ++ olds l) same) }
last_at f (y ∷ l) (suc i) x e t n =
    let k = last_at f l i x e t n in
    record { is = rw k.is refl; put = rw k.is (ap (λ m. Old y ∷ m) k.put) }

pub last_more : (m l : List (ItemOf Listed)) (y : ItemOf Listed) → last_item l ≡ Some y
    → last_item (m ++ l) ≡ Some y
last_more [] l y e = e
last_more (x ∷ m) l y e = rw (last_more m l y e) refl

or_none : (o : Option (ItemOf Listed)) → option_or o None ≡ o
or_none None = refl
or_none (Some y) = refl

pub last_strip : (l : List (ItemOf Listed)) (a b : ℤ) → last_item (strip l a b) ≡ last_item l
last_strip [] a b = refl
last_strip (x ∷ l) a b = elim (sort x) [
  | point o t e z ↦ cases (is_stripped a b (overlap_of x))
      (λ s. rw (s, t) (last_strip l a b ∙ sym (or_none (last_item l))))
      (λ s. rw (s, t) (ap (λ q. option_or q None) (last_strip l (a -ℤ ticks x) (b -ℤ ticks x))))
  | thing t e ↦ rw (strip_thing x l a b e, t) (ap (λ q. option_or q (Some x))
      (last_strip l (a -ℤ ticks x) (b -ℤ ticks x)))
]

-- ---- the first item

pub first_none : (f : ItemOf Listed → List Child) (l : List (ItemOf Listed)) → first_item l ≡ None
    → first_changed f l ≡ olds l
first_none f [] e = refl
first_none f (x ∷ l) e = by (is_transition x) refl (λ g. first_none f l g)
  where
    by : (t : Bool) → is_transition x ≡ t → (first_item l ≡ None → first_changed f l ≡ olds l)
        → first_changed f (x ∷ l) ≡ olds (x ∷ l)
    by true u next = rw u (ap (λ m. Old x ∷ m) (next (rw u at e)))
    by false u next = absurd (cc (rw u at e))

pub record FirstPut (f : ItemOf Listed → List Child) (l : List (ItemOf Listed)) (i : ℕ)
    (x : ItemOf Listed) : Type 0 where
  pub is : first_item l ≡ Some x
  pub put : first_changed f l ≡ olds (take i l) ++ (f x ++ olds (drop (suc i) l))

pub first_at : (f : ItemOf Listed → List Child) (l : List (ItemOf Listed)) (i : ℕ)
    (x : ItemOf Listed) → slice_get l i ≡ Some x → is_transition x ≡ false
    → first_item (take i l) ≡ None
    → FirstPut f l i x
first_at f [] i x e t n = absurd (cc e)
first_at f (y ∷ l) zero x e t n =
    let same : y ≡ x = cc e in
    let u : is_transition y ≡ false = ap is_transition same ∙ t in
    record { is = rw u e; put = rw u (ap (λ z. f z ++ olds l) same) }
first_at f (y ∷ l) (suc i) x e t n = by (is_transition y) refl (λ g. first_at f l i x e t g)
  where
    by : (b : Bool) → is_transition y ≡ b → (first_item (take i l) ≡ None → FirstPut f l i x)
        → FirstPut f (y ∷ l) (suc i) x
    by true u next =
        let k = next (rw u at n) in
        record { is = rw u k.is; put = rw u (ap (λ m. Old y ∷ m) k.put) }
    by false u next = absurd (cc (rw u at n))

pub first_more : (m l : List (ItemOf Listed)) (y : ItemOf Listed) → first_item m ≡ Some y
    → first_item (m ++ l) ≡ Some y
first_more [] l y e = absurd (cc e)
first_more (x ∷ m) l y e = by (is_transition x) refl (λ g. first_more m l y g)
  where
    by : (t : Bool) → is_transition x ≡ t → (first_item m ≡ Some y → first_item (m ++ l) ≡ Some y)
        → first_item ((x ∷ m) ++ l) ≡ Some y
    by true u next = rw u (next (rw u at e))
    by false u next = rw u (rw u at e)

pub first_strip : (l : List (ItemOf Listed)) (a b : ℤ) → first_item (strip l a b) ≡ first_item l
first_strip [] a b = refl
first_strip (x ∷ l) a b = elim (sort x) [
  | point o t e z ↦ cases (is_stripped a b (overlap_of x))
      (λ s. rw (s, t) (first_strip l a b))
      (λ s. rw (s, t) (first_strip l (a -ℤ ticks x) (b -ℤ ticks x)))
  | thing t e ↦ rw (strip_thing x l a b e, t) refl
]
