-- What is wrong with root children that are cut at two instants, found child by child.
use Rattle.std.proofs.Common.{◌≡◌, refl, sym, subst, ap, ◌∙◌, ◌⊎◌, inl, inr, ℕ, ◌+◌, ◌<◌, ◌≤◌, ℤ, pos, ◌+ℤ◌, ◌-ℤ◌, ◌≤ℤ◌, ◌&&◌, Bool, true, false, Some, List, [], ◌∷◌, length, take, arith}
use Rattle.std.specs.Prelude.{slice_get}
use Rattle.std.proofs.lemmas.Int.{ints}
use Rattle.otio_model.specs.declared.compositions.ItemOf.{ItemOf}
use Rattle.otio_model.specs.declared.compositions.Listed.{Listed}
use Rattle.coord.proofs.Members.{got_below, same_some}
use Rattle.edits.specs.Children.{ticks}
use Rattle.edits.specs.Edges.{added}
use Rattle.flat.specs.declared.faults.Cause.{Cause}
use Rattle.flat.specs.declared.faults.Cause.TheVariants as C
use Rattle.flat.specs.Blocked.{IsFree, IsFirst}
use Rattle.flat.specs.Roots.{is_plain, items_in}
use Rattle.flat.specs.Pieces.{cuts_at}
use Rattle.flat.specs.Windowed.{WindowBlocks}
use Rattle.flat.specs.Windowed as W
use Rattle.flat_stack.specs.Spots.{Under, StartsBelow, IsFreeTo}
use Rattle.flat_stack.specs.Uncut.{is_cut, AreCutTo, IsUncut, IsPassed}
use Rattle.flat_stack.proofs.FirstLemmas.{first_under, free_all, below_or}
use Rattle.flat_stack.proofs.PlaceLemmas.{next_is, one_two, two_one, none_one, none_before}
use Rattle.edits.proofs.NextStarts.{added_next}
use Rattle.flat_stack.proofs.RootLemmas.{true_false}
use Rattle.flat_stack.proofs.CopyLemmas.{head_is}

-- ---- a root child

pub not_plain_first : (l : List (ItemOf Listed)) (a b : ℤ) (k : ℕ) (x : ItemOf Listed)
    → slice_get l k ≡ Some x → is_plain x ≡ false
    → IsFirst (Under (WindowBlocks l a b) k) [] C.Nested
not_plain_first l a b k x e f = record {
  there = W.not_plain (k ∷ []) k x refl e f;
  first = λ before d h m. none_before before h;
}

own_free : (l : List (ItemOf Listed)) (a b : ℤ) (k : ℕ) (x : ItemOf Listed) (place : List ℕ)
    (c : Cause) → slice_get l k ≡ Some x → is_plain x ≡ true → place ≡ k ∷ []
    → WindowBlocks l a b place c → ⊥
own_free l a b k x _ _ e f g (W.not_plain place j y h i m) =
    let root : j ≡ k = head_is j k [] [] (sym h ∙ g) in
    let same : x ≡ y = same_some x y (sym e ∙ ap (slice_get l) (sym root) ∙ i) in
    true_false (is_plain y) (subst (λ (z : ItemOf Listed). is_plain z ≡ true) same f) m
own_free l a b k x _ _ e f g (W.phase place j i y z h m n o) = one_two k j i (sym g ∙ h)

inner_free : (l : List (ItemOf Listed)) (a b : ℤ) (k i n : ℕ) (q : List ℕ) (x : ItemOf Listed)
    (place : List ℕ) (c : Cause) → slice_get l k ≡ Some x → AreCutTo (items_in x) a b n → i < n
    → place ≡ k ∷ i ∷ q → WindowBlocks l a b place c → ⊥
inner_free l a b k i n q x _ _ e f less g (W.not_plain place j y h m o) =
    two_one k j i q (sym g ∙ h)
inner_free l a b k i n q x _ _ e f less g (W.phase place j m y z h o r t) =
    let root : j ≡ k = head_is j k (m ∷ []) (i ∷ q) (sym h ∙ g) in
    let child : m ≡ i = next_is j k m i [] q (sym h ∙ g) in
    let same : x ≡ y = same_some x y (sym e ∙ ap (slice_get l) (sym root) ∙ o) in
    let cut : is_cut (items_in x) a b i z ≡ true =
    f i z less (ap (λ (w : ItemOf Listed). slice_get (items_in w) i) same
    ∙ ap (slice_get (items_in y)) (sym child) ∙ r) in
    true_false (is_cut (items_in y) a b m z)
    (ap (λ (w : ItemOf Listed). is_cut (items_in w) a b m z) (sym same)
    ∙ ap (λ w. is_cut (items_in x) a b w z) child ∙ cut) t

pub free_to : (l : List (ItemOf Listed)) (a b : ℤ) (k n : ℕ) (x : ItemOf Listed)
    → slice_get l k ≡ Some x → is_plain x ≡ true → AreCutTo (items_in x) a b n
    → IsFreeTo (Under (WindowBlocks l a b) k) n
free_to l a b k n x e f g [] c h s = own_free l a b k x (k ∷ []) c e f refl h
free_to l a b k n x e f g (i ∷ q) c h s = inner_free l a b k i n q x (k ∷ i ∷ q) c e g s refl h

pub uncut_first : (l : List (ItemOf Listed)) (a b : ℤ) (k i : ℕ) (x : ItemOf Listed)
    → slice_get l k ≡ Some x → is_plain x ≡ true → IsUncut (items_in x) a b i
    → IsFirst (Under (WindowBlocks l a b) k) (i ∷ []) C.Phase
uncut_first l a b k i x e f u =
    first_under (Under (WindowBlocks l a b) k) i [] C.Phase (free_to l a b k i x e f u.before)
    (record {
      there = W.phase (k ∷ i ∷ []) k i x u.item refl e u.there u.uncut;
      first = λ before d h m. none_before before h;
    })

child_low : (l : List (ItemOf Listed)) (a b : ℤ) (k i : ℕ) (q : List ℕ) (x : ItemOf Listed)
    (place : List ℕ) (c : Cause) → slice_get l k ≡ Some x → place ≡ k ∷ i ∷ q
    → WindowBlocks l a b place c → i < length (items_in x)
child_low l a b k i q x _ _ e g (W.not_plain place j y h m o) =
    absurd (two_one k j i q (sym g ∙ h))
child_low l a b k i q x _ _ e g (W.phase place j m y z h o r t) =
    let root : j ≡ k = head_is j k (m ∷ []) (i ∷ q) (sym h ∙ g) in
    let child : m ≡ i = next_is j k m i [] q (sym h ∙ g) in
    let same : x ≡ y = same_some x y (sym e ∙ ap (slice_get l) (sym root) ∙ o) in
    got_below (items_in x) i z (ap (λ (w : ItemOf Listed). slice_get (items_in w) i) same
    ∙ ap (slice_get (items_in y)) (sym child) ∙ r)

pub free_child : (l : List (ItemOf Listed)) (a b : ℤ) (k : ℕ) (x : ItemOf Listed)
    → slice_get l k ≡ Some x → is_plain x ≡ true
    → AreCutTo (items_in x) a b (length (items_in x)) → IsFree (Under (WindowBlocks l a b) k)
free_child l a b k x e f g =
    free_all (Under (WindowBlocks l a b) k) (length (items_in x))
    (free_to l a b k (length (items_in x)) x e f g) low
  where
    low : (place : List ℕ) (c : Cause) → WindowBlocks l a b (k ∷ place) c
        → StartsBelow (length (items_in x)) place
    low [] c h = tt
    low (i ∷ q) c h = child_low l a b k i q x (k ∷ i ∷ q) c e refl h

-- ---- all root children

pub none_first : (l : List (ItemOf Listed)) (a b : ℤ) → IsFreeTo (WindowBlocks l a b) 0
none_first l a b [] c h s = of [] c refl h
  where
    of : (place : List ℕ) (c : Cause) → place ≡ [] → WindowBlocks l a b place c → ⊥
    of _ _ g (W.not_plain place j y h i m) = none_one j [] (sym g ∙ h)
    of _ _ g (W.phase place j i y z h m n o) = none_one j (i ∷ []) (sym g ∙ h)
none_first l a b (i ∷ q) c h s = absurd (omega (arith, s))

pub roots_low : (l : List (ItemOf Listed)) (a b : ℤ) (place : List ℕ) (c : Cause)
    → WindowBlocks l a b place c → StartsBelow (length l) place
roots_low l a b _ _ (W.not_plain place j y h i m) =
    subst (StartsBelow (length l)) (sym h) (got_below l j y i)
roots_low l a b _ _ (W.phase place j i y z h m n o) =
    subst (StartsBelow (length l)) (sym h) (got_below l j y m)

-- ---- the loop over a track's children

pub passed_first : (l : List (ItemOf Listed)) (a b : ℤ) → IsPassed l a b 0 (pos 0)
passed_first l a b = record {
  cut = λ i y h. absurd (omega (arith, h));
  start = refl;
  low = omega (arith, ints);
  high = omega (arith, ints);
}

at_start : (l : List (ItemOf Listed)) (a b at : ℤ) (i : ℕ) (x : ItemOf Listed)
    → at ≡ added (take i l) → (cuts_at x (a -ℤ at) && cuts_at x (b -ℤ at)) ≡ is_cut l a b i x
at_start l a b at i x e = ap (λ z. cuts_at x (a -ℤ z) && cuts_at x (b -ℤ z)) e

pub passed_more : (l : List (ItemOf Listed)) (a b at now n : ℤ) (i : ℕ) (x : ItemOf Listed)
    (c : Bool) → IsPassed l a b i at → slice_get l i ≡ Some x
    → c ≡ (cuts_at x (a -ℤ at) && cuts_at x (b -ℤ at)) → c ≡ true → n ≡ ticks x → pos 0 ≤ℤ n
    → n ≤ℤ pos 705600000000000000000000 → now ≡ at +ℤ n → IsPassed l a b (i + 1) now
passed_more l a b at now n i x c p e f g h low high k = record {
  cut = λ j y less m. of j y (below_or j i less) m;
  start = let s = p.start in let t = added_next l i x e in omega (arith, ints, s, t, h, k);
  low = omega (arith, ints, p.low, low, k);
  high = omega (arith, ints, p.high, high, k);
}
  where
    of : (j : ℕ) (y : ItemOf Listed) → (j < i) ⊎ (j ≡ i) → slice_get l j ≡ Some y
        → is_cut l a b j y ≡ true
    of j y (inl less) m = p.cut j y less m
    of j y (inr same) m =
        let is : x ≡ y = same_some x y (sym e ∙ ap (slice_get l) (sym same) ∙ m) in
        ap (λ z. is_cut l a b z y) same ∙ ap (is_cut l a b i) (sym is)
        ∙ sym (at_start l a b at i x p.start) ∙ sym f ∙ g

pub found_uncut : (l : List (ItemOf Listed)) (a b at : ℤ) (i : ℕ) (x : ItemOf Listed) (c : Bool)
    → IsPassed l a b i at → slice_get l i ≡ Some x
    → c ≡ (cuts_at x (a -ℤ at) && cuts_at x (b -ℤ at)) → c ≡ false → IsUncut l a b i
found_uncut l a b at i x c p e f g = record {
  item = x;
  there = e;
  uncut = sym (at_start l a b at i x p.start) ∙ sym f ∙ g;
  before = p.cut;
}

pub all_cut : (l : List (ItemOf Listed)) (a b at : ℤ) (i : ℕ) → IsPassed l a b i at → length l ≤ i
    → AreCutTo l a b (length l)
all_cut l a b at i p h = λ j y less m. p.cut j y (omega (arith, h, less)) m

-- two tests, one after the other
pub both_tests : (r f a b : Bool) → f ≡ a → f ≡ true → r ≡ b → r ≡ (a && b)
both_tests r f a b e t s = s ∙ ap (λ z. z && b) (sym t ∙ e)

pub first_test : (f a b : Bool) → f ≡ a → f ≡ false → f ≡ (a && b)
first_test f a b e t = t ∙ ap (λ z. z && b) (sym t ∙ e)
