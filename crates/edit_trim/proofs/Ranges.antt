-- Source ranges that the motions of edges give children.
use Rattle.std.proofs.Common.{◌≡◌, refl, sym, ap, ap₂, subst, ◌∙◌, ℕ, zero, suc, ◌+◌, ◌<◌, ◌≤◌, Bool}
use Rattle.std.proofs.Common.{true, false, List, [], ◌∷◌, ◌++◌, Option, Some, None, length, take}
use Rattle.std.proofs.Common.{drop, slice_get, add-one, arith, ℤ, ◌+ℤ◌, ◌-ℤ◌, ◌-◌}
use Rattle.std.specs.Prelude.{map, slice_set, not, ◌&&◌, IfErr, IfOk, Result}
use Rattle.tick_time.specs.declared.rates.Rate.{Rate}
use Rattle.tick_time.specs.declared.spans.Span.{Span}
use Rattle.otio_model.specs.declared.compositions.ItemOf.{ItemOf}
use Rattle.otio_model.specs.declared.compositions.ItemOf.TheVariants.{Clip, Gap, Transition, Stack}
use Rattle.otio_model.specs.declared.compositions.ItemOf.TheVariants.{Track}
use Rattle.otio_model.specs.declared.compositions.Listed.{Listed}
use Rattle.otio_model.specs.Lengths.{source_of}
use Rattle.otio_model.specs.Retimed.{sources, with_source, with_sources}
use Rattle.edits.specs.Children.{Child, Old, Ranged, all_made, has_far, is_far, made, with_first, with_range}
use Rattle.edits.specs.Edges.{grown, is_gap, is_zero, moved, one, slipped_item}
use Rattle.pieces.specs.declared.new_ranges.RangedFault.{RangedFault}
use Rattle.edit_plans.specs.declared.replaced_children.Stretch.{Stretch}
use Rattle.edit_plans.proofs.PinLemmas.{up_to}
use Rattle.edit_plans.proofs.AmountLemmas.{dropped}
use Rattle.edit_plans.proofs.Retimings.{kept_one, kept_own, no_sources, one_source, own_source}
use Rattle.edits.specs.Children.{ticks}
use Rattle.edits.specs.Cuts.{strip}
use Rattle.edits.specs.Splices.{is_stripped}
use Rattle.coord.specs.Sights.{overlap_of}
use Rattle.edit_plans.proofs.ZoneLemmas.{IsKept, kept_end, kept_more}
use Rattle.coord.proofs.Members.{got_below}
use Rattle.edits.specs.Edges.{first_changed, first_item, last_changed, last_item}
use Rattle.edit_trim.specs.Changes.{changed}
use Rattle.edit_trim.specs.declared.resized_items.Change.{Change}
use Rattle.edit_trim.proofs.PutEdges.{first_is, first_stays, last_is, last_stays, put_far, put_made}
use Rattle.otio_model.specs.Trees.{is_transition}
use Rattle.edit_trim.specs.Seats.{IsFirst, IsLast, changed_at}
use Rattle.edit_trim.proofs.Walks.{last_found, last_passed}
use Rattle.edit_trim.specs.Retimes.{AreRanged, children_in}

-- the item with this source range, in both of its words
pub ranged_is : (s : Span) (x : ItemOf Listed) → with_range s x ≡ with_source (Some s) x
ranged_is s (Clip c) = refl
ranged_is s (Gap c) = refl
ranged_is s (Transition c) = refl
ranged_is s (Stack c) = refl
ranged_is s (Track c) = refl

pub range_made : (r : Rate) (c : Child) (s : Span) (x : ItemOf Listed)
    → made r c ≡ Some (with_range s x) → made r c ≡ Some (with_source (Some s) x)
range_made r c s x e = e ∙ ap Some (ranged_is s x)

-- one that isn't changed keeps its own
pub still_made : (r : Rate) (c : Child) (x : ItemOf Listed) (o : Option Span) → c ≡ Old x
    → o ≡ source_of x → made r c ≡ Some (with_source o x)
still_made r c x o e f = ap (made r) e
    ∙ ap Some (sym (own_source x) ∙ ap (λ q. with_source q x) (sym f))

-- a list of one such item
pub alone_made : (r : Rate) (c : Child) (y : ItemOf Listed) → made r c ≡ Some y
    → all_made r (one c) ≡ Some (y ∷ [])
alone_made r c y e = ap (λ o. with_first o (Some [])) e

pub alone_far : (c : Child) → is_far c ≡ true → has_far (one c) ≡ true
alone_far c e = rw e refl

-- what is said of an item that is made from another draft is said of the equal one
pub range-as : {F : Type 0} {c d : Child} (r : Rate) (x : ItemOf Listed)
    (res : Result (Option Span) F) → c ≡ d
    → IfOk res (λ o. made r d ≡ Some (with_source o x))
    → IfOk res (λ o. made r c ≡ Some (with_source o x))
range-as r x res e h = subst (λ z. IfOk res (λ o. made r z ≡ Some (with_source o x))) (sym e) h

pub range_far-as : {T : Type 0} {c d : Child} (res : Result T RangedFault) → c ≡ d
    → IfErr res (λ fault. is_far d ≡ true) → IfErr res (λ fault. is_far c ≡ true)
range_far-as res e h = subst (λ z. IfErr res (λ fault. is_far z ≡ true)) (sym e) h

-- ---- the children of a stretch

-- the source ranges of one more
pub own_more : (l : List (ItemOf Listed)) (at k i n : ℕ) (x : ItemOf Listed) (o : Option Span)
    (rs new : List (Option Span)) → slice_get l i ≡ Some x → i ≡ at + k → n ≡ k + 1
    → o ≡ source_of x → rs ≡ sources (take k (drop at l)) → new ≡ rs ++ (o ∷ [])
    → new ≡ sources (take n (drop at l))
own_more l at k i n x o rs new e h m w f g =
    g ∙ ap₂ (λ q z. q ++ (z ∷ [])) f w
    ∙ sym (more (take k (drop at l)))
    ∙ ap sources (sym (up_to (drop at l) k x (dropped at k l ∙ sym (ap (slice_get l) h) ∙ e)))
    ∙ ap (λ j. sources (take j (drop at l))) (sym m)
  where
    more : (xs : List (ItemOf Listed)) → sources (xs ++ (x ∷ [])) ≡ sources xs ++ (source_of x ∷ [])
    more [] = refl
    more (y ∷ xs) = ap (λ q. source_of y ∷ q) (more xs)

pub own_all : (l : List (ItemOf Listed)) (s : Stretch) (i : ℕ) (rs : List (Option Span))
    → i ≡ s.at + s.count → rs ≡ sources (take (i - s.at) (drop s.at l))
    → rs ≡ sources (children_in s l)
own_all l s i rs e f = let same : i - s.at ≡ s.count = omega (arith, e) in
    f ∙ ap (λ j. sources (take j (drop s.at l))) same

-- a child of a stretch, by its index from the first of them on
pub in_stretch : (l : List (ItemOf Listed)) (s : Stretch) (i : ℕ) (x : ItemOf Listed)
    → i < s.count → slice_get l (s.at + i) ≡ Some x → slice_get (children_in s l) i ≡ Some x
in_stretch l s i x h e = taken (drop s.at l) s.count i h ∙ dropped s.at i l ∙ e
  where
    taken : (xs : List (ItemOf Listed)) (n i : ℕ) → i < n → slice_get (take n xs) i ≡ slice_get xs i
    taken xs zero i h = absurd (omega (arith, h))
    taken [] (suc n) i h = refl
    taken (y ∷ xs) (suc n) zero h = refl
    taken (y ∷ xs) (suc n) (suc i) h = taken xs n i (omega (arith, h))

-- one child more that isn't stripped
pub unstripped_more : (l : List (ItemOf Listed)) (at number i n : ℕ) (a b start now : ℤ)
    (x : ItemOf Listed) (r : Bool)
    → IsKept l at number a b (take (i - at) (drop at l)) start i → i < at + number
    → slice_get l i ≡ Some x → r ≡ is_stripped (a -ℤ start) (b -ℤ start) (overlap_of x)
    → r ≡ false → now ≡ start +ℤ ticks x → n ≡ i + 1
    → IsKept l at number a b (take (n - at) (drop at l)) now n
unstripped_more l at number i n a b start now x r k h got e f z m =
    let later = k.later in
    let place : at + (i - at) ≡ i = omega (arith, later) in
    let next : n - at ≡ (i - at) + 1 = omega (arith, later, m) in
    subst (λ j. IsKept l at number a b (take (n - at) (drop at l)) now j) (sym m)
    (kept_more l (take (i - at) (drop at l)) (take (n - at) (drop at l)) at number i a b start now x r
    k h got e f
    (ap (λ j. take j (drop at l)) next
    ∙ up_to (drop at l) (i - at) x (dropped at (i - at) l ∙ ap (slice_get l) place ∙ got)) z)

pub unstripped_all : (l : List (ItemOf Listed)) (at number i : ℕ) (a b c d start : ℤ)
    → IsKept l at number a b (take (i - at) (drop at l)) start i → i ≡ at + number
    → a ≡ c → b ≡ d
    → take number (drop at l) ≡ strip (take number (drop at l)) c d
unstripped_all l at number i a b c d start k e f g =
    let same : number ≡ i - at = omega (arith, e) in
    ap (λ j. take j (drop at l)) same
    ∙ kept_end l (take (i - at) (drop at l)) at number i a b c d start k (omega (arith, e)) f g

-- the last that is no transition, where the index is counted down
pub last_here : (l : List (ItemOf Listed)) (i k : ℕ) (x : ItemOf Listed) → i ≡ k + 1
    → slice_get l k ≡ Some x → true ≡ not (is_transition x) → last_item (drop i l) ≡ None
    → IsLast l k
last_here l i k x h e t n =
    last_found l k x e t (ap (λ j. last_item (drop j l)) (sym h) ∙ n)

pub last_before : (l : List (ItemOf Listed)) (i k : ℕ) (x : ItemOf Listed) → i ≡ k + 1
    → slice_get l k ≡ Some x → false ≡ not (is_transition x) → last_item (drop i l) ≡ None
    → last_item (drop k l) ≡ None
last_before l i k x h e t n =
    last_passed l k x e t (ap (λ j. last_item (drop j l)) (sym h) ∙ n)

-- ---- one side

few_in : (l : List (ItemOf Listed)) (s : Stretch) → s.at + s.count ≤ length l
    → length (children_in s l) ≡ s.count
few_in l s h = taken (drop s.at l) s.count (rest s.at l s.count h)
  where
    rest : (at : ℕ) (xs : List (ItemOf Listed)) (n : ℕ) → at + n ≤ length xs
        → n ≤ length (drop at xs)
    rest zero xs n h = omega (arith, h)
    rest (suc at) [] n h = absurd (omega (arith, h))
    rest (suc at) (x ∷ xs) n h = rest at xs n (omega (arith, h))

    taken : (xs : List (ItemOf Listed)) (n : ℕ) → n ≤ length xs → length (take n xs) ≡ n
    taken xs zero h = refl
    taken [] (suc n) h = absurd (omega (arith, h))
    taken (x ∷ xs) (suc n) h = ap suc (taken xs n (omega (arith, h)))

own_length : (xs : List (ItemOf Listed)) → length (sources xs) ≡ length xs
own_length [] = refl
own_length (x ∷ xs) = ap suc (own_length xs)

set_length : (rs : List (Option Span)) (i : ℕ) (o : Option Span) → length (slice_set rs i o) ≡ length rs
set_length [] zero o = refl
set_length [] (suc i) o = refl
set_length (r ∷ rs) zero o = refl
set_length (r ∷ rs) (suc i) o = ap suc (set_length rs i o)

-- none of them changes
all_kept : (rate : Rate) (c : List Child) (l : List (ItemOf Listed)) (rs : List (Option Span))
    → rs ≡ sources l → all_made rate c ≡ Some l → AreRanged rate c l rs
all_kept rate c l rs e f = subst (AreRanged rate c l) (sym e) (record {
  made = f ∙ ap Some (sym (no_sources l));
  kept = kept_own l;
  long = own_length l;
})

-- one of them changes
one_ranged : (rate : Rate) (c : Change) (l : List (ItemOf Listed)) (i : ℕ) (x : ItemOf Listed)
    (o : Option Span) (own rs : List (Option Span)) → slice_get l i ≡ Some x
    → all_made rate (changed c x) ≡ Some (with_source o x ∷ [])
    → (o ≡ None → source_of x ≡ None) → own ≡ sources l → rs ≡ slice_set own i o
    → AreRanged rate (changed_at c l i) l rs
one_ranged rate c l i x o own rs e f h g k =
    subst (AreRanged rate (changed_at c l i) l) (sym (k ∙ ap (λ q. slice_set q i o) g)) (record {
      made = put_made rate c l i x (with_source o x ∷ []) (with_sources (slice_set (sources l) i o) l)
          e f (one_source l i o x e);
      kept = kept_one l i o x e h;
      long = set_length (sources l) i o ∙ own_length l;
    })

pub last_kept : (rate : Rate) (c : Change) (l : List (ItemOf Listed)) (rs : List (Option Span))
    → rs ≡ sources l → last_item l ≡ None → AreRanged rate (last_changed (changed c) l) l rs
last_kept rate c l rs e f = all_kept rate (last_changed (changed c) l) l rs e (last_stays rate c l f)

pub first_kept : (rate : Rate) (c : Change) (l : List (ItemOf Listed)) (rs : List (Option Span))
    → rs ≡ sources l → first_item l ≡ None → AreRanged rate (first_changed (changed c) l) l rs
first_kept rate c l rs e f = all_kept rate (first_changed (changed c) l) l rs e
    (first_stays rate c l f)

pub last_ranged : (rate : Rate) (c : Change) (l : List (ItemOf Listed)) (i : ℕ) (x : ItemOf Listed)
    (o : Option Span) (own rs : List (Option Span)) → IsLast l i → slice_get l i ≡ Some x
    → all_made rate (changed c x) ≡ Some (with_source o x ∷ [])
    → (o ≡ None → source_of x ≡ None) → own ≡ sources l → rs ≡ slice_set own i o
    → AreRanged rate (last_changed (changed c) l) l rs
last_ranged rate c l i x o own rs w e f h g k = subst (λ m. AreRanged rate m l rs)
    (sym (last_is c l i w)) (one_ranged rate c l i x o own rs e f h g k)

pub first_ranged : (rate : Rate) (c : Change) (l : List (ItemOf Listed)) (i : ℕ) (x : ItemOf Listed)
    (o : Option Span) (own rs : List (Option Span)) → IsFirst l i → slice_get l i ≡ Some x
    → all_made rate (changed c x) ≡ Some (with_source o x ∷ [])
    → (o ≡ None → source_of x ≡ None) → own ≡ sources l → rs ≡ slice_set own i o
    → AreRanged rate (first_changed (changed c) l) l rs
first_ranged rate c l i x o own rs w e f h g k = subst (λ m. AreRanged rate m l rs)
    (sym (first_is c l i w)) (one_ranged rate c l i x o own rs e f h g k)

pub last_far : (c : Change) (l : List (ItemOf Listed)) (i : ℕ) (x : ItemOf Listed) → IsLast l i
    → slice_get l i ≡ Some x → has_far (changed c x) ≡ true
    → has_far (last_changed (changed c) l) ≡ true
last_far c l i x w e f = ap has_far (last_is c l i w) ∙ put_far c l i x e f

pub first_far : (c : Change) (l : List (ItemOf Listed)) (i : ℕ) (x : ItemOf Listed) → IsFirst l i
    → slice_get l i ≡ Some x → has_far (changed c x) ≡ true
    → has_far (first_changed (changed c) l) ≡ true
first_far c l i x w e f = ap has_far (first_is c l i w) ∙ put_far c l i x e f

-- such an index is one of the stretch
pub last_within : (l : List (ItemOf Listed)) (s : Stretch) (i : ℕ) → s.at + s.count ≤ length l
    → IsLast (children_in s l) i → i < s.count
last_within l s i h w = let n = few_in l s h in
    let k = got_below (children_in s l) i w.item w.there in omega (arith, n, k)

pub first_within : (l : List (ItemOf Listed)) (s : Stretch) (i : ℕ) → s.at + s.count ≤ length l
    → IsFirst (children_in s l) i → i < s.count
first_within l s i h w = let n = few_in l s h in
    let k = got_below (children_in s l) i w.item w.there in omega (arith, n, k)

pub own_long : (l : List (ItemOf Listed)) (s : Stretch) (own : List (Option Span))
    → s.at + s.count ≤ length l → own ≡ sources (children_in s l) → length own ≡ s.count
own_long l s own h e = ap length e ∙ own_length (children_in s l) ∙ few_in l s h
