-- Source ranges that children get, and get back.
use Rattle.std.proofs.Common.{◌≡◌, refl, sym, ap, ap₂, ◌∙◌, subst, ℕ, zero, suc, ◌+◌, ◌-◌, ◌<◌, ◌≤◌, arith}
use Rattle.std.proofs.Common.{List, [], ◌∷◌, ◌++◌, Option, Some, None, length, take, drop, map}
use Rattle.std.specs.Prelude.{slice_get, slice_set}
use Rattle.std.proofs.Math.Seq.{drop-nil}
use Rattle.std.proofs.lemmas.Option.{slice_get_within}
use Rattle.tick_time.specs.declared.spans.Span.{Span}
use Rattle.otio_model.specs.declared.compositions.ItemOf.{ItemOf}
use Rattle.otio_model.specs.declared.compositions.ItemOf.TheVariants.{Clip, Gap, Transition, Stack}
use Rattle.otio_model.specs.declared.compositions.ItemOf.TheVariants.{Track}
use Rattle.otio_model.specs.declared.compositions.Listed.{Listed}
use Rattle.otio_model.specs.Edits.{changed}
use Rattle.otio_model.specs.Trees.{items_of, listed}
use Rattle.otio_model.proofs.Views.{items-listed}
use Rattle.otio_model.specs.Lengths.{source_of}
use Rattle.otio_model.specs.Retimed.{retimed, sources, with_source, with_sources}

source_back : (r : Option Span) (x : ItemOf Listed) → with_source (source_of x) (with_source r x) ≡ x
source_back r (Clip c) = refl
source_back r (Gap c) = refl
source_back r (Transition c) = refl
source_back r (Stack c) = refl
source_back r (Track c) = refl

sources_back : (rs : List (Option Span)) (xs : List (ItemOf Listed))
    → with_sources (sources (take (length rs) xs)) (with_sources rs xs) ≡ xs
sources_back [] xs = refl
sources_back (r ∷ rs) [] = refl
sources_back (r ∷ rs) (x ∷ xs) = ap₂ (λ y ys. y ∷ ys) (source_back r x) (sources_back rs xs)

-- the old source ranges bring back the old items
pub retimed_back : (at : ℕ) (rs : List (Option Span)) (xs : List (ItemOf Listed))
    → retimed at (sources (take (length rs) (drop at xs))) (retimed at rs xs) ≡ xs
retimed_back zero rs xs = sources_back rs xs
retimed_back (suc at) rs [] = refl
retimed_back (suc at) rs (x ∷ xs) = ap (λ ys. x ∷ ys) (retimed_back at rs xs)

sourced_length : (rs : List (Option Span)) (xs : List (ItemOf Listed))
    → length (with_sources rs xs) ≡ length xs
sourced_length [] xs = refl
sourced_length (r ∷ rs) [] = refl
sourced_length (r ∷ rs) (x ∷ xs) = ap suc (sourced_length rs xs)

pub retimed_length : (at : ℕ) (rs : List (Option Span)) (xs : List (ItemOf Listed))
    → length (retimed at rs xs) ≡ length xs
retimed_length zero rs xs = sourced_length rs xs
retimed_length (suc at) rs [] = refl
retimed_length (suc at) rs (x ∷ xs) = ap suc (retimed_length at rs xs)

-- as many source ranges as items
pub sources_length : (at n : ℕ) (xs : List (ItemOf Listed)) → at + n ≤ length xs
    → length (sources (take n (drop at xs))) ≡ n
sources_length zero zero xs h = refl
sources_length zero (suc n) [] h = absurd (omega (arith, h))
sources_length zero (suc n) (x ∷ xs) h = ap suc (sources_length zero n xs (omega (arith, h)))
sources_length (suc at) n [] h = absurd (omega (arith, h))
sources_length (suc at) n (x ∷ xs) h = sources_length at n xs (omega (arith, h))

-- ---- one more

first_more : (rs : List (Option Span)) (i : ℕ) (r : Option Span) (xs : List (ItemOf Listed))
    → slice_get rs i ≡ Some r
    → changed (with_source r) i (with_sources (take i rs) xs) ≡ with_sources (take (suc i) rs) xs
first_more [] zero r xs e = absurd (cc e)
first_more [] (suc i) r xs e = absurd (cc e)
first_more (q ∷ rs) zero r [] e = refl
first_more (q ∷ rs) zero r (x ∷ xs) e = let same : r ≡ q = cc e in
    ap (λ s. with_source s x ∷ xs) same
first_more (q ∷ rs) (suc i) r [] e = refl
first_more (q ∷ rs) (suc i) r (x ∷ xs) e = ap (λ ys. with_source q x ∷ ys) (first_more rs i r xs e)

retimed_next : (at : ℕ) (rs : List (Option Span)) (i : ℕ) (r : Option Span)
    (xs : List (ItemOf Listed)) → slice_get rs i ≡ Some r
    → changed (with_source r) (at + i) (retimed at (take i rs) xs) ≡ retimed at (take (suc i) rs) xs
retimed_next zero rs i r xs e = let same : 0 + i ≡ i = omega arith in
    ap (λ k. changed (with_source r) k (with_sources (take i rs) xs)) same ∙ first_more rs i r xs e
retimed_next (suc at) rs i r [] e = none (suc at + i)
  where
    none : (k : ℕ) → changed (with_source r) k [] ≡ []
    none zero = refl
    none (suc k) = refl
retimed_next (suc at) rs i r (x ∷ xs) e = let same : suc at + i ≡ suc (at + i) = omega arith in
    ap (λ k. changed (with_source r) k (x ∷ retimed at (take i rs) xs)) same
    ∙ ap (λ ys. x ∷ ys) (retimed_next at rs i r xs e)

-- those after the ones that got theirs are as they were
got_after : (rs : List (Option Span)) (i : ℕ) (xs : List (ItemOf Listed))
    → slice_get (with_sources (take i rs) xs) i ≡ slice_get xs i
got_after rs zero xs = refl
got_after [] (suc i) xs = refl
got_after (r ∷ rs) (suc i) [] = refl
got_after (r ∷ rs) (suc i) (x ∷ xs) = got_after rs i xs

pub retimed_after : (at : ℕ) (rs : List (Option Span)) (i : ℕ) (xs : List (ItemOf Listed))
    → slice_get (retimed at (take i rs) xs) (at + i) ≡ slice_get xs (at + i)
retimed_after zero rs i xs = let same : 0 + i ≡ i = omega arith in
    ap (slice_get (with_sources (take i rs) xs)) same ∙ got_after rs i xs
    ∙ ap (slice_get xs) (sym same)
retimed_after (suc at) rs i [] = refl
retimed_after (suc at) rs i (x ∷ xs) = let same : suc at + i ≡ suc (at + i) = omega arith in
    ap (slice_get (x ∷ retimed at (take i rs) xs)) same ∙ retimed_after at rs i xs
    ∙ ap (slice_get (x ∷ xs)) (sym same)

-- ---- ranges that are exchanged one by one

none_there : {A : Type 0} (i : ℕ) → ◌≡◌ {A = Option A} (slice_get [] i) None
none_there zero = refl
none_there (suc i) = refl

pub ranges_get : (i : ℕ) (ys : List (ItemOf Listed)) (rs : List (Option Span)) → i ≤ length ys
    → slice_get (sources (take i ys) ++ drop i rs) i ≡ slice_get rs i
ranges_get zero ys rs h = refl
ranges_get (suc i) [] rs h = absurd (omega (arith, h))
ranges_get (suc i) (y ∷ ys) [] h =
    ap (λ l. slice_get (sources (take i ys) ++ l) i) (sym (drop-nil i))
    ∙ ranges_get i ys [] (omega (arith, h)) ∙ none_there i
ranges_get (suc i) (y ∷ ys) (r ∷ rs) h = ranges_get i ys rs (omega (arith, h))

pub ranges_set : (i : ℕ) (ys : List (ItemOf Listed)) (rs : List (Option Span)) (y : ItemOf Listed)
    (o : Option Span) → slice_get ys i ≡ Some y → i < length rs → o ≡ source_of y
    → slice_set (sources (take i ys) ++ drop i rs) i o
    ≡ sources (take (suc i) ys) ++ drop (suc i) rs
ranges_set zero [] rs y o e h f = absurd (cc e)
ranges_set zero (z ∷ ys) [] y o e h f = absurd (omega (arith, h))
ranges_set zero (z ∷ ys) (r ∷ rs) y o e h f = let same : z ≡ y = cc e in
    ap (λ q. q ∷ rs) (f ∙ ap source_of (sym same))
ranges_set (suc i) [] rs y o e h f = absurd (cc e)
ranges_set (suc i) (z ∷ ys) [] y o e h f = absurd (omega (arith, h))
ranges_set (suc i) (z ∷ ys) (r ∷ rs) y o e h f =
    ap (λ q. source_of z ∷ q) (ranges_set i ys rs y o e (omega (arith, h)) f)

pub retimed_none : (at : ℕ) (xs : List (ItemOf Listed)) → retimed at [] xs ≡ xs
retimed_none zero xs = refl
retimed_none (suc at) [] = refl
retimed_none (suc at) (x ∷ xs) = ap (λ ys. x ∷ ys) (retimed_none at xs)

got : {A : Type 0} (at : ℕ) (xs : List A) → at < length xs → (x : A) × (slice_get xs at ≡ Some x)
got at [] h = absurd (omega (arith, h))
got zero (x ∷ xs) h = (x, refl)
got (suc at) (x ∷ xs) h = got at xs (omega (arith, h))

dropped : (at i : ℕ) (xs : List (ItemOf Listed)) → slice_get (drop at xs) i ≡ slice_get xs (at + i)
dropped zero i xs = let e : i ≡ 0 + i = omega arith in ap (slice_get xs) e
dropped (suc at) i [] = none_there i ∙ sym (none_there (suc at + i))
dropped (suc at) i (x ∷ xs) = let e : suc (at + i) ≡ suc at + i = omega arith in dropped at i xs
    ∙ ap (slice_get (x ∷ xs)) e

-- so many ranges are exchanged: the children have the new ones, and the list has the old ones
pub record Exchanged (at i : ℕ) (rs : List (Option Span)) (xs : List (ItemOf Listed))
    (children : Listed) (list : List (Option Span)) : Type 0 where
  pub items : children ≡ listed (retimed at (take i rs) xs)
  pub ranges : list ≡ sources (take i (drop at xs)) ++ drop i rs

pub exchanged_next : (at i : ℕ) (rs list : List (Option Span)) (xs : List (ItemOf Listed))
    (old new : Listed) (r o : Option Span) → at + length rs ≤ length xs → i < length rs
    → Exchanged at i rs xs old list → slice_get list i ≡ Some r
    → new ≡ listed (changed (with_source r) (at + i) (items_of old))
    → ((x : ItemOf Listed) → slice_get (items_of old) (at + i) ≡ Some x → o ≡ source_of x)
    → Exchanged at (i + 1) rs xs new (slice_set list i o)
exchanged_next at i rs list xs old new r o h k inv e f g =
    let shown : items_of old ≡ retimed at (take i rs) xs =
    ap items_of inv.items ∙ items-listed (retimed at (take i rs) xs) in
    let y = got (at + i) xs (omega (arith, h, k)) in
    let same : o ≡ source_of y.0 =
    g y.0 (ap (λ l. slice_get l (at + i)) shown ∙ retimed_after at rs i xs ∙ y.1) in
    let there : slice_get (drop at xs) i ≡ Some y.0 = dropped at i xs ∙ y.1 in
    let fits = slice_get_within (drop at xs) i y.0 there in
    let given : slice_get rs i ≡ Some r =
    sym (ranges_get i (drop at xs) rs (omega (arith, fits))) ∙ ap (λ l. slice_get l i) (sym inv.ranges) ∙ e in
    let one : suc i ≡ i + 1 = omega arith in
    subst (λ n. Exchanged at n rs xs new (slice_set list i o)) one
    (record {
      items = f ∙ ap (λ l. listed (changed (with_source r) (at + i) l)) shown
          ∙ ap listed (retimed_next at rs i r xs given);
      ranges = ap (λ l. slice_set l i o) inv.ranges
          ∙ ranges_set i (drop at xs) rs y.0 o there k same;
    })

pub exchanged_long : {at i : ℕ} {rs list : List (Option Span)} {xs : List (ItemOf Listed)}
    {children : Listed} → Exchanged at i rs xs children list
    → length (items_of children) ≡ length xs
exchanged_long {at = at} {i = i} {rs = rs} {xs = xs} inv = ap (λ l. length (items_of l)) inv.items
    ∙ ap length (items-listed (retimed at (take i rs) xs)) ∙ retimed_length at (take i rs) xs

pub exchanged_below : {at i : ℕ} {rs list : List (Option Span)} {xs : List (ItemOf Listed)}
    {children : Listed} → Exchanged at i rs xs children list → at + length rs ≤ length xs
    → i < length rs → i < length list
exchanged_below {at = at} {i = i} {rs = rs} {list = list} {xs = xs} inv h k =
    let y = got (at + i) xs (omega (arith, h, k)) in
    let fits = slice_get_within (drop at xs) i y.0 (dropped at i xs ∙ y.1) in
    let r = got i rs k in
    slice_get_within list i r.0 (ap (λ l. slice_get l i) inv.ranges
    ∙ ranges_get i (drop at xs) rs (omega (arith, fits)) ∙ r.1)
