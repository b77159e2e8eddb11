-- What is wrong with the root children of an input, found child by child.
use Rattle.std.proofs.Common.{◌≡◌, refl, sym, subst, ap, ◌∙◌, ℕ, zero, suc, ◌<◌, ◌≤◌, ◌&&◌, ◌||◌, Bool, true, false, cond, Option, Some, None, List, [], ◌∷◌, length, arith}
use Rattle.std.specs.Prelude.{slice_get, not}
use Rattle.otio_model.specs.declared.compositions.ItemOf.{ItemOf}
use Rattle.otio_model.specs.declared.compositions.Listed.{Listed}
use Rattle.coord.specs.Looks.{Overlap}
use Rattle.coord.specs.Sights.{overlap_of}
use Rattle.coord.proofs.Members.{got_below, same_some}
use Rattle.flat.specs.declared.faults.Cause.{Cause}
use Rattle.flat.specs.declared.faults.Cause.TheVariants as C
use Rattle.flat.specs.Blocked.{IsFree, IsFirst}
use Rattle.flat.specs.Joined.{JoinBlocks, begins_early, ends_late, own_items}
use Rattle.flat.specs.Joined as J
use Rattle.flat.specs.Roots.{is_enabled, is_plain, items_in}
use Rattle.flat_stack.specs.Spots.{Under, StartsBelow, IsFreeTo, inner_place}
use Rattle.flat_stack.proofs.FirstLemmas.{first_under, free_all}
use Rattle.flat_stack.proofs.PlaceLemmas.{next_is, one_two, two_one, none_one, none_before, starts_later}
use Rattle.flat_stack.proofs.RootLemmas.{true_false}
use Rattle.flat_stack.specs.Blocking.{blocks_at, AreApartTo, IsCrossing}
use Rattle.flat_stack.proofs.CopyLemmas.{head_is}

-- ---- a root child

pub not_plain_first : (f s : Bool) (l : List (ItemOf Listed)) (k : ℕ) (x : ItemOf Listed)
    → slice_get l k ≡ Some x → is_plain x ≡ false → IsFirst (Under (JoinBlocks f s l) k) [] C.Nested
not_plain_first f s l k x e p = record {
  there = J.not_plain (k ∷ []) k x refl e p;
  first = λ before d h m. none_before before h;
}

own_free : (f s : Bool) (l : List (ItemOf Listed)) (k : ℕ) (x : ItemOf Listed) (place : List ℕ)
    (c : Cause) → slice_get l k ≡ Some x → is_plain x ≡ true → place ≡ k ∷ []
    → JoinBlocks f s l place c → ⊥
own_free f s l k x _ _ e p g (J.not_plain place j y h i m) =
    let root : j ≡ k = head_is j k [] [] (sym h ∙ g) in
    let same : x ≡ y = same_some x y (sym e ∙ ap (slice_get l) (sym root) ∙ i) in
    true_false (is_plain y) (subst (λ (z : ItemOf Listed). is_plain z ≡ true) same p) m
own_free f s l k x _ _ e p g (J.crossing place j i y z o h m n q r v) = one_two k j i (sym g ∙ h)

-- no transition of an enabled track blocks before an index
abbrev pub Apart : Bool → Bool → ItemOf Listed → ℕ → Type 0
Apart f s x n = is_enabled x ≡ true → AreApartTo f s (items_in x) n

blocked : (f s : Bool) (l : List (ItemOf Listed)) (i : ℕ) (p : Option Overlap) (o : Overlap)
    → p ≡ Some o → ((not f && begins_early l i o) || (not s && ends_late l i o)) ≡ true
    → blocks_at f s l i p ≡ false → ⊥
blocked f s l i None o e g h = cc e
blocked f s l i (Some q) o e g h =
    let is : q ≡ o = same_some q o e in
    true_false (blocks_at f s l i (Some q))
    (ap (λ (z : Overlap). (not f && begins_early l i z) || (not s && ends_late l i z)) is ∙ g) h

inner_free : (f s : Bool) (l : List (ItemOf Listed)) (k i n : ℕ) (q : List ℕ) (x : ItemOf Listed)
    (place : List ℕ) (c : Cause) → slice_get l k ≡ Some x → Apart f s x n → i < n
    → place ≡ k ∷ i ∷ q → JoinBlocks f s l place c → ⊥
inner_free f s l k i n q x _ _ e a less g (J.not_plain place j y h m o) =
    two_one k j i q (sym g ∙ h)
inner_free f s l k i n q x _ _ e a less g (J.crossing place j m y z o h t u v w b) =
    let root : j ≡ k = head_is j k (m ∷ []) (i ∷ q) (sym h ∙ g) in
    let child : m ≡ i = next_is j k m i [] q (sym h ∙ g) in
    let same : x ≡ y = same_some x y (sym e ∙ ap (slice_get l) (sym root) ∙ t) in
    let on : is_enabled x ≡ true = ap (λ (r : ItemOf Listed). is_enabled r) same ∙ u in
    let apart : blocks_at f s (items_in x) i (overlap_of z) ≡ false =
    a on i z less (ap (λ (r : ItemOf Listed). slice_get (items_in r) i) same
    ∙ ap (slice_get (items_in y)) (sym child) ∙ v) in
    blocked f s (items_in y) m (overlap_of z) o w b
    (ap (λ (r : ItemOf Listed). blocks_at f s (items_in r) m (overlap_of z)) (sym same)
    ∙ ap (λ r. blocks_at f s (items_in x) r (overlap_of z)) child ∙ apart)

pub free_to : (f s : Bool) (l : List (ItemOf Listed)) (k n : ℕ) (x : ItemOf Listed)
    → slice_get l k ≡ Some x → is_plain x ≡ true → Apart f s x n
    → IsFreeTo (Under (JoinBlocks f s l) k) n
free_to f s l k n x e p a [] c h t = own_free f s l k x (k ∷ []) c e p refl h
free_to f s l k n x e p a (i ∷ q) c h t = inner_free f s l k i n q x (k ∷ i ∷ q) c e a t refl h

crosses : (f s : Bool) (l : List (ItemOf Listed)) (k i : ℕ) (x y : ItemOf Listed)
    (p : Option Overlap) → slice_get l k ≡ Some x → is_enabled x ≡ true
    → slice_get (items_in x) i ≡ Some y → overlap_of y ≡ p → blocks_at f s (items_in x) i p ≡ true
    → JoinBlocks f s l (k ∷ i ∷ []) C.Crossing
crosses f s l k i x y None e on g h b = absurd (cc b)
crosses f s l k i x y (Some o) e on g h b =
    J.crossing (k ∷ i ∷ []) k i x y o refl e on g h b

pub crossing_first : (f s : Bool) (l : List (ItemOf Listed)) (k i : ℕ) (x : ItemOf Listed)
    → slice_get l k ≡ Some x → is_plain x ≡ true → is_enabled x ≡ true
    → IsCrossing f s (items_in x) i → IsFirst (Under (JoinBlocks f s l) k) (i ∷ []) C.Crossing
crossing_first f s l k i x e p on u =
    first_under (Under (JoinBlocks f s l) k) i [] C.Crossing
    (free_to f s l k i x e p (λ yes. u.before))
    (record {
      there = crosses f s l k i x u.item (overlap_of u.item) e on u.there refl u.blocks;
      first = λ before d h m. none_before before h;
    })

child_low : (f s : Bool) (l : List (ItemOf Listed)) (k i : ℕ) (q : List ℕ) (x : ItemOf Listed)
    (place : List ℕ) (c : Cause) → slice_get l k ≡ Some x → place ≡ k ∷ i ∷ q
    → JoinBlocks f s l place c → i < length (items_in x)
child_low f s l k i q x _ _ e g (J.not_plain place j y h m o) =
    absurd (two_one k j i q (sym g ∙ h))
child_low f s l k i q x _ _ e g (J.crossing place j m y z o h t u v w b) =
    let root : j ≡ k = head_is j k (m ∷ []) (i ∷ q) (sym h ∙ g) in
    let child : m ≡ i = next_is j k m i [] q (sym h ∙ g) in
    let same : x ≡ y = same_some x y (sym e ∙ ap (slice_get l) (sym root) ∙ t) in
    got_below (items_in x) i z (ap (λ (r : ItemOf Listed). slice_get (items_in r) i) same
    ∙ ap (slice_get (items_in y)) (sym child) ∙ v)

pub free_child : (f s : Bool) (l : List (ItemOf Listed)) (k : ℕ) (x : ItemOf Listed)
    → slice_get l k ≡ Some x → is_plain x ≡ true → Apart f s x (length (items_in x))
    → IsFree (Under (JoinBlocks f s l) k)
free_child f s l k x e p a =
    free_all (Under (JoinBlocks f s l) k) (length (items_in x))
    (free_to f s l k (length (items_in x)) x e p a) low
  where
    low : (place : List ℕ) (c : Cause) → JoinBlocks f s l (k ∷ place) c
        → StartsBelow (length (items_in x)) place
    low [] c h = tt
    low (i ∷ q) c h = child_low f s l k i q x (k ∷ i ∷ q) c e refl h

-- ---- all root children

pub none_first : (f s : Bool) (l : List (ItemOf Listed)) → IsFreeTo (JoinBlocks f s l) 0
none_first f s l [] c h t = of [] c refl h
  where
    of : (place : List ℕ) (c : Cause) → place ≡ [] → JoinBlocks f s l place c → ⊥
    of _ _ g (J.not_plain place j y h i m) = none_one j [] (sym g ∙ h)
    of _ _ g (J.crossing place j i y z o h m n q r v) = none_one j (i ∷ []) (sym g ∙ h)
none_first f s l (i ∷ q) c h t = absurd (omega (arith, t))

roots_low : (f s : Bool) (l : List (ItemOf Listed)) (place : List ℕ) (c : Cause)
    → JoinBlocks f s l place c → StartsBelow (length l) place
roots_low f s l _ _ (J.not_plain place j y h i m) =
    subst (StartsBelow (length l)) (sym h) (got_below l j y i)
roots_low f s l _ _ (J.crossing place j i y z o h m n q r v) =
    subst (StartsBelow (length l)) (sym h) (got_below l j y m)

pub roots_free : (f s : Bool) (l : List (ItemOf Listed)) (n : ℕ) → length l ≤ n
    → IsFreeTo (JoinBlocks f s l) n → IsFree (JoinBlocks f s l)
roots_free f s l n h free =
    free_all (JoinBlocks f s l) n free
    (λ place c k. starts_later (length l) n place h (roots_low f s l place c k))

pub root_first : (f s : Bool) (l : List (ItemOf Listed)) (k j : ℕ) (child : Option ℕ) (c : Cause)
    → j ≡ k → IsFreeTo (JoinBlocks f s l) k
    → IsFirst (Under (JoinBlocks f s l) k) (inner_place child) c
    → IsFirst (JoinBlocks f s l) (j ∷ inner_place child) c
root_first f s l k j child c e free h =
    subst (λ z. IsFirst (JoinBlocks f s l) (z ∷ inner_place child) c) (sym e)
    (first_under (JoinBlocks f s l) k (inner_place child) c free h)

-- ---- the children of an enabled root child

own_on : (x : ItemOf Listed) (i : ℕ) (y : ItemOf Listed) (b : Bool) → is_enabled x ≡ b
    → slice_get (own_items (Some x)) i ≡ Some y → is_enabled x ≡ true
own_on x i y true e f = e
own_on x i y false e f =
    absurd (none i (ap (λ c. slice_get (cond c (items_in x) []) i) (sym e) ∙ f))
  where
    none : (i : ℕ) → slice_get {X = ItemOf Listed} [] i ≡ Some y → ⊥
    none zero g = cc g
    none (suc i) g = cc g

own_all : (x : ItemOf Listed) → is_enabled x ≡ true → own_items (Some x) ≡ items_in x
own_all x on = ap (λ b. cond b (items_in x) []) on

pub own_crossing : (f s : Bool) (l : List (ItemOf Listed)) (k i : ℕ) (x : ItemOf Listed)
    (m : List (ItemOf Listed)) → m ≡ own_items (Some x) → slice_get l k ≡ Some x
    → is_plain x ≡ true → IsCrossing f s m i
    → IsFirst (Under (JoinBlocks f s l) k) (i ∷ []) C.Crossing
own_crossing f s l k i x m e g p u =
    let on = own_on x i u.item (is_enabled x) refl (ap (λ z. slice_get z i) (sym e) ∙ u.there) in
    crossing_first f s l k i x g p on (subst (λ z. IsCrossing f s z i) (e ∙ own_all x on) u)

pub own_apart : (f s : Bool) (l : List (ItemOf Listed)) (k : ℕ) (x : ItemOf Listed)
    (m : List (ItemOf Listed)) → m ≡ own_items (Some x) → slice_get l k ≡ Some x
    → is_plain x ≡ true → AreApartTo f s m (length m) → IsFree (Under (JoinBlocks f s l) k)
own_apart f s l k x m e g p a =
    free_child f s l k x g p
    (λ on. subst (λ z. AreApartTo f s z (length z)) (e ∙ own_all x on) a)

pub none_apart : (f s : Bool) → AreApartTo f s [] 0
none_apart f s i y h e = absurd (omega (arith, h))
