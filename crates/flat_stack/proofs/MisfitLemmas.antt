-- What can't be flattened, found child by child.
use Rattle.std.proofs.Common.{◌≡◌, ◌≢◌, refl, sym, subst, ap, ◌∙◌, ◌⊎◌, inl, inr, ℕ, ◌+◌, ◌<◌, ◌≤◌, true, false, Some, None, List, [], ◌∷◌, length, arith}
use Rattle.std.specs.Prelude.{slice_get}
use Rattle.otio_model.specs.declared.compositions.ItemOf.{ItemOf}
use Rattle.otio_model.specs.declared.compositions.ItemOf.TheVariants.{Clip, Gap, Transition, Stack, Track}
use Rattle.otio_model.specs.declared.compositions.Listed.{Listed}
use Rattle.otio_model.specs.Trees.{is_transition}
use Rattle.coord.proofs.Members.{got_below, same_some}
use Rattle.flat.specs.declared.faults.Cause.{Cause}
use Rattle.flat.specs.declared.faults.Cause.TheVariants as C
use Rattle.flat.specs.Blocked.{Blocks, IsFree, IsFirst}
use Rattle.flat.specs.Blocked as B
use Rattle.flat.specs.Roots.{is_track, is_layer, is_plain, is_nested, items_in}
use Rattle.flat_stack.specs.Spots.{Under, StartsBelow, IsFreeTo}
use Rattle.flat_stack.specs.Misfits.{Misfits, child_cause, AreFit, IsMisfit}
use Rattle.flat_stack.proofs.FirstLemmas.{first_under, free_all, below_or}
use Rattle.flat_stack.proofs.PlaceLemmas.{none_one, none_before}
use Rattle.flat_stack.proofs.RootLemmas.{true_false}
use Rattle.flat_stack.proofs.CopyLemmas.{head_is}

-- ---- what is wrong at a root child or below it

data Inner (kind : List ℕ) (x : ItemOf Listed) : List ℕ → Cause → Type 0 where
  own : (p : List ℕ) (c : Cause) → p ≡ [] → c ≡ C.Nested
      → (is_track x ≡ false) ⊎ ((is_layer kind x ≡ true) × (is_plain x ≡ false)) → Inner kind x p c
  below : (p : List ℕ) (c : Cause) (i : ℕ) (y : ItemOf Listed) → p ≡ i ∷ []
      → is_layer kind x ≡ true → slice_get (items_in x) i ≡ Some y → child_cause y ≡ Some c
      → Inner kind x p c

tail_is : (k j : ℕ) (p q : List ℕ) → k ∷ p ≡ j ∷ q → p ≡ q
tail_is k j p q e = cc e

nested_wrong : (y : ItemOf Listed) → is_nested y ≡ true → child_cause y ≡ Some C.Nested
nested_wrong (Clip x) e = absurd (cc e)
nested_wrong (Gap x) e = absurd (cc e)
nested_wrong (Transition x) e = absurd (cc e)
nested_wrong (Stack x) e = refl
nested_wrong (Track x) e = refl

transition_wrong : (y : ItemOf Listed) → is_transition y ≡ true → child_cause y ≡ Some C.Crossing
transition_wrong (Clip x) e = absurd (cc e)
transition_wrong (Gap x) e = absurd (cc e)
transition_wrong (Transition x) e = refl
transition_wrong (Stack x) e = absurd (cc e)
transition_wrong (Track x) e = absurd (cc e)

root_is : (l : List (ItemOf Listed)) (k j : ℕ) (x y : ItemOf Listed) → slice_get l k ≡ Some x
    → k ≡ j → slice_get l j ≡ Some y → x ≡ y
root_is l k j x y e f g = same_some x y (sym e ∙ ap (slice_get l) f ∙ g)

inner_at : (kind : List ℕ) (l : List (ItemOf Listed)) (k : ℕ) (q : List ℕ) (x : ItemOf Listed)
    (place : List ℕ) (c : Cause) → slice_get l k ≡ Some x → k ∷ q ≡ place
    → Blocks kind l place c → c ≢ C.Phase → Inner kind x q c
inner_at kind l k q x _ _ e f (B.no_track place j y g h m) n =
    let root = head_is k j q [] (f ∙ g) in
    let same = root_is l k j x y e root h in
    own q C.Nested (tail_is k j q [] (f ∙ g)) refl
    (inl (ap is_track same ∙ m))
inner_at kind l k q x _ _ e f (B.not_plain place j y g h m o) n =
    let root = head_is k j q [] (f ∙ g) in
    let same = root_is l k j x y e root h in
    own q C.Nested (tail_is k j q [] (f ∙ g)) refl
    (inr (ap (is_layer kind) same ∙ m, ap is_plain same ∙ o))
inner_at kind l k q x _ _ e f (B.nested place j i y z g h m o r) n =
    let root = head_is k j q (i ∷ []) (f ∙ g) in
    let same = root_is l k j x y e root h in
    below q C.Nested i z (tail_is k j q (i ∷ []) (f ∙ g)) (ap (is_layer kind) same ∙ m)
    (ap (λ (w : ItemOf Listed). slice_get (items_in w) i) same ∙ o) (nested_wrong z r)
inner_at kind l k q x _ _ e f (B.transition place j i y z g h m o r) n =
    let root = head_is k j q (i ∷ []) (f ∙ g) in
    let same = root_is l k j x y e root h in
    below q C.Crossing i z (tail_is k j q (i ∷ []) (f ∙ g)) (ap (is_layer kind) same ∙ m)
    (ap (λ (w : ItemOf Listed). slice_get (items_in w) i) same ∙ o) (transition_wrong z r)
inner_at kind l k q x _ _ e f (B.phase place j i g h) n = absurd (n refl)

inner : (kind : List ℕ) (l : List (ItemOf Listed)) (k : ℕ) (q : List ℕ) (x : ItemOf Listed)
    (c : Cause) → slice_get l k ≡ Some x → Misfits kind l (k ∷ q) c → Inner kind x q c
inner kind l k q x c e m = inner_at kind l k q x (k ∷ q) c e refl m.0 m.1

-- ---- a root child itself

pub no_track_first : (kind : List ℕ) (l : List (ItemOf Listed)) (k : ℕ) (x : ItemOf Listed)
    → slice_get l k ≡ Some x → is_track x ≡ false → IsFirst (Under (Misfits kind l) k) [] C.Nested
no_track_first kind l k x e f = record {
  there = (B.no_track (k ∷ []) k x refl e f, λ h. cc h);
  first = λ before d h m. none_before before h;
}

pub not_plain_first : (kind : List ℕ) (l : List (ItemOf Listed)) (k : ℕ) (x : ItemOf Listed)
    → slice_get l k ≡ Some x → is_layer kind x ≡ true → is_plain x ≡ false
    → IsFirst (Under (Misfits kind l) k) [] C.Nested
not_plain_first kind l k x e f g = record {
  there = (B.not_plain (k ∷ []) k x refl e f g, λ h. cc h);
  first = λ before d h m. none_before before h;
}

pub other_free : (kind : List ℕ) (l : List (ItemOf Listed)) (k : ℕ) (x : ItemOf Listed)
    → slice_get l k ≡ Some x → is_track x ≡ true → is_layer kind x ≡ false
    → IsFree (Under (Misfits kind l) k)
other_free kind l k x e f g place c m = of (inner kind l k place x c e m)
  where
    of : Inner kind x place c → ⊥
    of (own p d h i (inl j)) = true_false (is_track x) f j
    of (own p d h i (inr j)) = true_false (is_layer kind x) j.0 g
    of (below p d i y h j n o) = true_false (is_layer kind x) j g

-- ---- the children of a layer

fit_to : (kind : List ℕ) (l : List (ItemOf Listed)) (k n : ℕ) (x : ItemOf Listed)
    → slice_get l k ≡ Some x → is_track x ≡ true → is_plain x ≡ true → AreFit (items_in x) n
    → IsFreeTo (Under (Misfits kind l) k) n
fit_to kind l k n x e f g fit place c m s = of place refl (inner kind l k place x c e m) s
  where
    of : (q : List ℕ) → q ≡ place → Inner kind x place c → StartsBelow n q → ⊥
    of q r (own p d h i (inl j)) z = true_false (is_track x) f j
    of q r (own p d h i (inr j)) z = true_false (is_plain x) g j.1
    of [] r (below p d i y h j o w) z = none_some i (r ∙ h)
      where
        none_some : (i : ℕ) → [] ≡ i ∷ [] → ⊥
        none_some i t = cc t
    of (a ∷ q) r (below p d i y h j o w) z =
        let first : a ≡ i = head_is a i q [] (r ∙ h) in
        no_cause d (sym (fit i y (subst (λ v. v < n) first z) o) ∙ w)
      where
        no_cause : (d : Cause) → None ≡ Some d → ⊥
        no_cause d t = cc t

cause_there : (kind : List ℕ) (l : List (ItemOf Listed)) (k i : ℕ) (x y : ItemOf Listed) (c : Cause)
    → slice_get l k ≡ Some x → is_layer kind x ≡ true → slice_get (items_in x) i ≡ Some y
    → child_cause y ≡ Some c → Misfits kind l (k ∷ i ∷ []) c
cause_there kind l k i x (Clip y) c e f g h = absurd (cc h)
cause_there kind l k i x (Gap y) c e f g h = absurd (cc h)
cause_there kind l k i x (Transition y) c e f g h =
    subst (Misfits kind l (k ∷ i ∷ [])) (cause_is C.Crossing c h)
    (B.transition (k ∷ i ∷ []) k i x (Transition y) refl e f g refl, λ t. cc t)
  where
    cause_is : (a b : Cause) → Some a ≡ Some b → a ≡ b
    cause_is a b t = cc t
cause_there kind l k i x (Stack y) c e f g h =
    subst (Misfits kind l (k ∷ i ∷ [])) (cause_is C.Nested c h)
    (B.nested (k ∷ i ∷ []) k i x (Stack y) refl e f g refl, λ t. cc t)
  where
    cause_is : (a b : Cause) → Some a ≡ Some b → a ≡ b
    cause_is a b t = cc t
cause_there kind l k i x (Track y) c e f g h =
    subst (Misfits kind l (k ∷ i ∷ [])) (cause_is C.Nested c h)
    (B.nested (k ∷ i ∷ []) k i x (Track y) refl e f g refl, λ t. cc t)
  where
    cause_is : (a b : Cause) → Some a ≡ Some b → a ≡ b
    cause_is a b t = cc t

pub misfit_first : (kind : List ℕ) (l : List (ItemOf Listed)) (k i : ℕ) (x : ItemOf Listed)
    (c : Cause) → slice_get l k ≡ Some x → is_track x ≡ true → is_layer kind x ≡ true
    → is_plain x ≡ true → IsMisfit (items_in x) i c → IsFirst (Under (Misfits kind l) k) (i ∷ []) c
misfit_first kind l k i x c e t f g m =
    first_under (Under (Misfits kind l) k) i [] c (fit_to kind l k i x e t g m.before)
    (record {
      there = cause_there kind l k i x m.item c e f m.there m.wrong;
      first = λ before d h n. none_before before h;
    })

pub fit_free : (kind : List ℕ) (l : List (ItemOf Listed)) (k : ℕ) (x : ItemOf Listed)
    → slice_get l k ≡ Some x → is_track x ≡ true → is_plain x ≡ true
    → AreFit (items_in x) (length (items_in x)) → IsFree (Under (Misfits kind l) k)
fit_free kind l k x e t g fit =
    free_all (Under (Misfits kind l) k) (length (items_in x))
    (fit_to kind l k (length (items_in x)) x e t g fit) low
  where
    low : (place : List ℕ) (c : Cause) → Misfits kind l (k ∷ place) c
        → StartsBelow (length (items_in x)) place
    low place c m = of (inner kind l k place x c e m)
      where
        of : Inner kind x place c → StartsBelow (length (items_in x)) place
        of (own p d h i j) = subst (StartsBelow (length (items_in x))) (sym h) tt
        of (below p d i y h j o w) =
            subst (StartsBelow (length (items_in x))) (sym h) (got_below (items_in x) i y o)

-- ---- the loop over a layer's children

pub fit_more : (l : List (ItemOf Listed)) (i : ℕ) (x : ItemOf Listed) → AreFit l i
    → slice_get l i ≡ Some x → child_cause x ≡ None → AreFit l (i + 1)
fit_more l i x fit e f j y less m = of (below_or j i less)
  where
    of : (j < i) ⊎ (j ≡ i) → child_cause y ≡ None
    of (inl h) = fit j y h m
    of (inr h) = ap child_cause (same_some y x (sym m ∙ ap (slice_get l) h ∙ e)) ∙ f

pub fit_all : (l : List (ItemOf Listed)) (i : ℕ) → length l ≤ i → AreFit l i → AreFit l (length l)
fit_all l i h fit j y less m = fit j y (omega (arith, h, less)) m

-- ---- all root children

pub none_first : (kind : List ℕ) (l : List (ItemOf Listed)) → IsFreeTo (Misfits kind l) 0
none_first kind l [] c m s = of [] c refl m.0 m.1
  where
    of : (place : List ℕ) (c : Cause) → place ≡ [] → Blocks kind l place c → c ≢ C.Phase → ⊥
    of _ _ g (B.no_track place k x e f h) n = none_one k [] (sym g ∙ e)
    of _ _ g (B.not_plain place k x e f h j) n = none_one k [] (sym g ∙ e)
    of _ _ g (B.nested place k i x y e f h j r) n = none_one k (i ∷ []) (sym g ∙ e)
    of _ _ g (B.transition place k i x y e f h j r) n = none_one k (i ∷ []) (sym g ∙ e)
    of _ _ g (B.phase place k i e r) n = n refl
none_first kind l (i ∷ q) c m s = absurd (omega (arith, s))

roots_under : (kind : List ℕ) (l : List (ItemOf Listed)) (place : List ℕ) (c : Cause)
    → Blocks kind l place c → c ≢ C.Phase → StartsBelow (length l) place
roots_under kind l _ _ (B.no_track place k x e f h) n =
    subst (StartsBelow (length l)) (sym e) (got_below l k x f)
roots_under kind l _ _ (B.not_plain place k x e f h j) n =
    subst (StartsBelow (length l)) (sym e) (got_below l k x f)
roots_under kind l _ _ (B.nested place k i x y e f h j r) n =
    subst (StartsBelow (length l)) (sym e) (got_below l k x f)
roots_under kind l _ _ (B.transition place k i x y e f h j r) n =
    subst (StartsBelow (length l)) (sym e) (got_below l k x f)
roots_under kind l _ _ (B.phase place k i e r) n = absurd (n refl)

pub roots_low : (kind : List ℕ) (l : List (ItemOf Listed)) (place : List ℕ) (c : Cause)
    → Misfits kind l place c → StartsBelow (length l) place
roots_low kind l place c m = roots_under kind l place c m.0 m.1
