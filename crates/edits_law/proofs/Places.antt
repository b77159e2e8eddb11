-- What stands at and below a place.
use Rattle.std.proofs.Common.{◌≡◌, refl, sym, ap, subst, ◌∙◌, ℕ, List, [], ◌∷◌, ◌++◌, Option, Some}
use Rattle.std.proofs.Common.{None}
use Rattle.std.specs.Prelude.{option_and_then, slice_get}
use Rattle.std.proofs.lemmas.Option.{same_Some as same_item}
use Rattle.otio_model.specs.declared.compositions.ItemOf.{ItemOf}
use Rattle.otio_model.specs.declared.compositions.Listed.{Listed}
use Rattle.otio_model.specs.Edits.{list_at}
use Rattle.otio_model.specs.Trees.{below, children_of, item_at, items_of}

-- ---- one level down

record Level (i : ℕ) (place : List ℕ) (l d : Listed) : Type 0 where
  child : ItemOf Listed
  children : Listed
  there : slice_get (items_of l) i ≡ Some child
  inside : children_of child ≡ Some children
  leads : list_at place children ≡ Some d

level : (i : ℕ) (place : List ℕ) (l d : Listed) → list_at (i ∷ place) l ≡ Some d
    → Level i place l d
level i place l d e = of (slice_get (items_of l) i) refl e
  where
    by : (x : ItemOf Listed) (o : Option Listed) → slice_get (items_of l) i ≡ Some x
        → children_of x ≡ o → option_and_then (list_at place) o ≡ Some d → Level i place l d
    by x None f g h = absurd (cc h)
    by x (Some b) f g h = record { child = x; children = b; there = f; inside = g; leads = h }

    of : (o : Option (ItemOf Listed)) → slice_get (items_of l) i ≡ o
        → option_and_then (λ x. option_and_then (list_at place) (children_of x)) o ≡ Some d
        → Level i place l d
    of None f h = absurd (cc h)
    of (Some x) f h = by x (children_of x) f refl h

-- what stands at a place of a list at a place
pub below_at : (place : List ℕ) (l d : Listed) (j : ℕ) (q : List ℕ) (y : ItemOf Listed)
    → list_at place l ≡ Some d → item_at (j ∷ q) d ≡ Some y → item_at (place ++ (j ∷ q)) l ≡ Some y
below_at [] l d j q y e f =
    let same : d ≡ l = cc (sym e) in subst (λ (z : Listed). item_at (j ∷ q) z ≡ Some y) same f
below_at (i ∷ []) l d j q y e f =
    let s = level i [] l d e in
    ap (option_and_then (below (j ∷ q))) s.there
    ∙ ap (option_and_then (item_at (j ∷ q))) s.inside
    ∙ below_at [] s.children d j q y s.leads f
below_at (i ∷ k ∷ place) l d j q y e f =
    let s = level i (k ∷ place) l d e in
    ap (option_and_then (below (k ∷ (place ++ (j ∷ q))))) s.there
    ∙ ap (option_and_then (item_at (k ∷ (place ++ (j ∷ q))))) s.inside
    ∙ below_at (k ∷ place) s.children d j q y s.leads f

-- ---- the list of an item

inner_list : (place : List ℕ) (w x : ItemOf Listed) (c : Listed) → below place w ≡ Some x
    → children_of x ≡ Some c → option_and_then (list_at place) (children_of w) ≡ Some c
inner_list [] w x c e f =
    ap (λ z. option_and_then (list_at []) (children_of z)) (same_item w x e)
    ∙ ap (option_and_then (list_at [])) f
inner_list (k ∷ place) w x c e f = of (children_of w) e (λ v g. inner_list place v x c g f)
  where
    by : (o : Option (ItemOf Listed)) → option_and_then (below place) o ≡ Some x
        → ((v : ItemOf Listed) → below place v ≡ Some x
        → option_and_then (list_at place) (children_of v) ≡ Some c)
        → option_and_then (λ v. option_and_then (list_at place) (children_of v)) o ≡ Some c
    by None g next = absurd (cc g)
    by (Some v) g next = next v g

    of : (o : Option Listed)
        → option_and_then (λ b. option_and_then (below place) (slice_get (items_of b) k)) o ≡ Some x
        → ((v : ItemOf Listed) → below place v ≡ Some x
        → option_and_then (list_at place) (children_of v) ≡ Some c)
        → option_and_then (list_at (k ∷ place)) o ≡ Some c
    of None g next = absurd (cc g)
    of (Some b) g next = by (slice_get (items_of b) k) g next

-- a place that leads to an item leads to its children
pub children_at : (place : List ℕ) (l c : Listed) (x : ItemOf Listed) → item_at place l ≡ Some x
    → children_of x ≡ Some c → list_at place l ≡ Some c
children_at [] l c x e f = absurd (cc e)
children_at (i ∷ place) l c x e f = of (slice_get (items_of l) i) e
  where
    of : (o : Option (ItemOf Listed)) → option_and_then (below place) o ≡ Some x
        → option_and_then (λ v. option_and_then (list_at place) (children_of v)) o ≡ Some c
    of None g = absurd (cc g)
    of (Some w) g = inner_list place w x c g f
