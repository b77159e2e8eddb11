-- Even shapes: what they make of the touched children are source ranges.
use Rattle.std.proofs.Common.{◌≡◌, refl, sym, ap, ap₂, subst, ◌∙◌, ℕ, zero, suc, ◌+◌, ◌-◌, ◌<◌, ◌≤◌}
use Rattle.std.proofs.Common.{ℤ, pos, Bool, true, false, List, [], ◌∷◌, ◌++◌, Option, Some, None}
use Rattle.std.proofs.Common.{length, take, drop, slice_get, arith, length-append, ◌≤ℤ◌}
use Rattle.std.specs.Prelude.{int_le, int_lt, ◌&&◌, IfSome}
use Rattle.std.proofs.lemmas.Bool.{and_parts}
use Rattle.std.proofs.lemmas.Int.{ints}
use Rattle.std.proofs.Math.Seq.{take-add}
use Rattle.tick_time.specs.declared.rates.Rate.{Rate}
use Rattle.tick_time.specs.declared.spans.Span.{Span}
use Rattle.otio_model.specs.declared.compositions.ItemOf.{ItemOf}
use Rattle.otio_model.specs.declared.compositions.Listed.{Listed}
use Rattle.otio_model.specs.declared.seeks.Seat.{Seat}
use Rattle.otio_model.specs.Edits.{replaced}
use Rattle.otio_model.specs.Lengths.{source_of}
use Rattle.otio_model.specs.Retimed.{retimed, with_source, with_sources}
use Rattle.edits.specs.Children.{all_made}
use Rattle.edits.specs.Edges.{Held, first_changed, gap_of, last_changed, one, slipped_item}
use Rattle.pieces.proofs.Tests.{le_is, lt_no}
use Rattle.edit_plans.specs.declared.retiming.Retiming.{Retiming}
use Rattle.edit_plans.specs.Retimings.{KeepsUnranged, ranged_from}
use Rattle.coord.proofs.Members.{next}
use Rattle.edit_plans.proofs.AmountLemmas.{dropped}
use Rattle.edit_plans.proofs.Retimings.{all_sources, kept_all, retimed_is}
use Rattle.edit_trim.specs.Changes.{changed, parts, stays}
use Rattle.edit_trim.specs.Motions.{motion_list}
use Rattle.edit_trim.specs.Retimes.{AreRanged, IsRetimedBy, is_even}
use Rattle.edit_trim.specs.Seats.{IsAt, IsShaped}
use Rattle.edit_trim.specs.declared.edge_moves.Motion.TheVariants as W
use Rattle.edit_trim.specs.declared.replacements.Interval.{Interval}
use Rattle.edit_trim.specs.declared.replacements.Shape.{Shape}
use Rattle.edit_trim.proofs.PutEdges.{parts_made, slip_made}
use Rattle.edit_trim.proofs.Reshaping.{Copied, Reckoned, inside, made}

-- what an even shape says
pub record Even (s : Shape) : Type 0 where
  pub gap_before : gap_of s.gap_before ≡ []
  pub gap_behind : gap_of s.gap_behind ≡ []
  pub before : stays s.before ≡ true
  pub item : stays s.item ≡ true
  pub behind : stays s.behind ≡ true

no_gap : (n : ℤ) → int_le n (pos 0) ≡ true → gap_of n ≡ []
no_gap n e = let h : n ≤ℤ pos 0 = le_is n (pos 0) e in rw (lt_no (pos 0) n h) refl

pub even : (s : Shape) → is_even s ≡ true → Even s
even s e =
    let a = and_parts _ _ e in
    let b = and_parts _ _ a.1 in
    let c = and_parts _ _ b.1 in
    let d = and_parts _ _ c.1 in
    record {
      gap_before = no_gap s.gap_before a.0;
      gap_behind = no_gap s.gap_behind b.0;
      before = c.0;
      item = d.0;
      behind = d.1;
    }

none_made : (r : Rate) (n : ℤ) → gap_of n ≡ [] → all_made r (gap_of n) ≡ Some []
none_made r n e = ap (all_made r) e

-- all that is known of the source ranges of a shape's parts
pub record Parts (rate : Rate) (k : Shape) (p q : List (ItemOf Listed)) (x : ItemOf Listed)
    (o : Option Span) (rb rf : List (Option Span)) : Type 0 where
  pub even : is_even k ≡ true
  pub before : AreRanged rate (last_changed (changed k.before) p) p rb
  pub item : all_made rate (changed k.item x) ≡ Some (with_source o x ∷ [])
  pub kept : o ≡ None → source_of x ≡ None
  pub behind : AreRanged rate (first_changed (changed k.behind) q) q rf

all_parts : (rate : Rate) (k : Shape) (p q : List (ItemOf Listed)) (x : ItemOf Listed)
    (o : Option Span) (rb rf : List (Option Span)) → Parts rate k p q x o rb rf
    → all_made rate (parts k p x q) ≡ Some (with_sources (rb ++ (o ∷ rf)) (p ++ (x ∷ q)))
all_parts rate k p q x o rb rf w =
    let e = even k w.even in
    parts_made rate k p x q (with_sources rb p) [] (with_source o x ∷ []) [] (with_sources rf q)
    (with_sources (rb ++ (o ∷ rf)) (p ++ (x ∷ q)))
    w.before.made (none_made rate k.gap_before e.gap_before) w.item
    (none_made rate k.gap_behind e.gap_behind) w.behind.made
    (all_sources rb rf o p q x w.before.long)

-- ---- the touched children in parts

drop_drop : (m n : ℕ) (l : List (ItemOf Listed)) → drop m (drop n l) ≡ drop (n + m) l
drop_drop m zero l = let e : m ≡ 0 + m = omega arith in ap (λ k. drop k l) e
drop_drop m (suc n) [] = none m ∙ sym (none (suc n + m))
  where
    none : (j : ℕ) → drop {A = ItemOf Listed} j [] ≡ []
    none zero = refl
    none (suc j) = refl
drop_drop m (suc n) (x ∷ l) = let e : suc (n + m) ≡ suc n + m = omega arith in
    drop_drop m n l ∙ ap (λ k. drop k (x ∷ l)) e

pub touched_parts : (l : List (ItemOf Listed)) (at count i : ℕ) (x : ItemOf Listed)
    → slice_get l i ≡ Some x → at ≤ i → i < at + count
    → take count (drop at l)
    ≡ take (i - at) (drop at l) ++ (x ∷ take (((at + count) - i) - 1) (drop (i + 1) l))
touched_parts l at count i x e h k =
    let m = i - at in
    let n = ((at + count) - i) - 1 in
    let all : count ≡ m + suc n = omega (arith, h, k) in
    let place : at + m ≡ i = omega (arith, h) in
    ap (λ j. take j (drop at l)) all ∙ take-add m (suc n) (drop at l)
    ∙ ap (λ q. take m (drop at l) ++ take (suc n) q)
    (drop_drop m at l ∙ ap (λ j. drop j l) place ∙ next l i x e)

-- ---- the source ranges together

taken_long : (xs : List (ItemOf Listed)) (n : ℕ) → n ≤ length xs → length (take n xs) ≡ n
taken_long xs zero h = refl
taken_long [] (suc n) h = absurd (omega (arith, h))
taken_long (x ∷ xs) (suc n) h = ap suc (taken_long xs n (omega (arith, h)))

rest_long : (at : ℕ) (xs : List (ItemOf Listed)) (n : ℕ) → at + n ≤ length xs
    → n ≤ length (drop at xs)
rest_long zero xs n h = omega (arith, h)
rest_long (suc at) [] n h = absurd (omega (arith, h))
rest_long (suc at) (x ∷ xs) n h = rest_long at xs n (omega (arith, h))

-- as many as children
many : (l p q : List (ItemOf Listed)) (at count : ℕ) (x : ItemOf Listed) (o : Option Span)
    (rb rf ranges : List (Option Span)) → at + count ≤ length l → length rb ≡ length p
    → length rf ≡ length q → take count (drop at l) ≡ p ++ (x ∷ q) → ranges ≡ rb ++ (o ∷ rf)
    → length ranges ≡ count
many l p q at count x o rb rf ranges h a b e f =
    let n = ap length e ∙ length-append p (x ∷ q) in
    let m = ap length f ∙ length-append rb (o ∷ rf) in
    let c = taken_long (drop at l) count (rest_long at l count h) in
    omega (arith, n, m, c, a, b)

got_taken : (xs : List (ItemOf Listed)) (n i : ℕ) → i < n → slice_get xs i ≡ slice_get (take n xs) i
got_taken xs zero i h = absurd (omega (arith, h))
got_taken [] (suc n) i h = refl
got_taken (y ∷ xs) (suc n) zero h = refl
got_taken (y ∷ xs) (suc n) (suc i) h = got_taken xs n i (omega (arith, h))

got_within : (rs : List (Option Span)) (i : ℕ) (o : Option Span) → slice_get rs i ≡ Some o
    → i < length rs
got_within [] zero o e = absurd (cc e)
got_within [] (suc i) o e = absurd (cc e)
got_within (r ∷ rs) zero o e = omega arith
got_within (r ∷ rs) (suc i) o e = let h = got_within rs i o e in omega (arith, h)

wider : (rs : List (Option Span)) (xs : List (ItemOf Listed)) (n : ℕ) → length rs ≡ n
    → KeepsUnranged rs (take n xs) → KeepsUnranged rs xs
wider rs xs n e k i x f g = k i x f
    (sym (got_taken xs n i (let h = got_within rs i None f in omega (arith, e, h))) ∙ g)

-- what is known of all of them
pub record Ranged (l : List (ItemOf Listed)) (at count : ℕ) (ranges : List (Option Span))
    (put : List (ItemOf Listed)) : Type 0 where
  pub many : length ranges ≡ count
  pub kept : KeepsUnranged ranges (drop at l)
  pub is : replaced at count put l ≡ retimed at ranges l

pub ranged : (rate : Rate) (k : Shape) (l p q : List (ItemOf Listed)) (at count : ℕ)
    (x : ItemOf Listed) (o : Option Span) (rb rf ranges : List (Option Span))
    → at + count ≤ length l → take count (drop at l) ≡ p ++ (x ∷ q)
    → Parts rate k p q x o rb rf → ranges ≡ rb ++ (o ∷ rf)
    → Ranged l at count ranges (with_sources ranges (p ++ (x ∷ q)))
ranged rate k l p q at count x o rb rf ranges h e w f =
    let n = many l p q at count x o rb rf ranges h w.before.long w.behind.long e f in
    let all : with_sources ranges (p ++ (x ∷ q)) ≡ ranged_from at ranges l =
    ap (with_sources ranges) (sym e) ∙ ap (λ j. with_sources ranges (take j (drop at l))) (sym n) in
    record {
      many = n;
      kept = wider ranges (drop at l) count n (subst (KeepsUnranged ranges) (sym e)
          (subst (λ rs. KeepsUnranged rs (p ++ (x ∷ q))) (sym f)
          (kept_all rb rf o p q x w.before.long w.before.kept w.kept w.behind.kept)));
      is = ap (λ j. replaced at j (with_sources ranges (p ++ (x ∷ q))) l) (sym n)
          ∙ ap (λ m. replaced at (length ranges) m l) all
          ∙ sym (retimed_is at ranges l (omega (arith, n, h)));
    }

-- ---- the motions

pub shaped : (rate : Rate) (l : List (ItemOf Listed)) (s : Seat) (z : Interval) (k : Shape)
    (at count : ℕ) (gone growth : ℤ) (w : IsShaped l s z k) (x : ItemOf Listed)
    (o : Option Span) (p q : List (ItemOf Listed)) (rb rf ranges : List (Option Span))
    → Reckoned l z at gone count → Copied l s z k w x p q
    → Parts rate k p q x o rb rf → ranges ≡ rb ++ (o ∷ rf)
    → Ranged l at count ranges (with_sources ranges (p ++ (x ∷ q)))
    → (h : Held) → IsAt l s h
    → all_made rate (motion_list (W.Edges z k growth) h) ≡ Some (retimed at ranges l)
shaped rate l s z k at count gone growth w x o p q rb rf ranges n c t e g h i =
    made rate l s z k at count gone w x p q (with_sources ranges (p ++ (x ∷ q))) n c
    (all_parts rate k p q x o rb rf t
    ∙ ap (λ rs. Some (with_sources rs (p ++ (x ∷ q)))) (sym e)) h i
    ∙ ap Some g.is

-- a slip
one_list : (l : List (ItemOf Listed)) (i : ℕ) (x : ItemOf Listed) (o : Option Span)
    → slice_get l i ≡ Some x → ranged_from i (o ∷ []) l ≡ with_source o x ∷ []
one_list l i x o e = ap (λ q. with_sources (o ∷ []) (take 1 q)) (next l i x e)

pub slip_retimed : (rate : Rate) (d : ℤ) (l : List (ItemOf Listed)) (s : Seat) (x : ItemOf Listed)
    (o : Option Span) → slice_get l s.index ≡ Some x → s.index < length l
    → all_made rate (one (slipped_item d x)) ≡ Some (with_source o x ∷ [])
    → (h : Held) → IsAt l s h
    → all_made rate (motion_list (W.Media d) h) ≡ Some (retimed s.index (o ∷ []) l)
slip_retimed rate d l s x o e below f h i =
    slip_made rate d l s x (with_source o x ∷ []) e f h i
    ∙ ap (λ q. Some (replaced s.index 1 q l)) (sym (one_list l s.index x o e))
    ∙ ap Some (sym (retimed_is s.index (o ∷ []) l (omega (arith, below))))

pub slip_kept : (l : List (ItemOf Listed)) (i : ℕ) (x : ItemOf Listed) (o : Option Span)
    → slice_get l i ≡ Some x → (o ≡ None → source_of x ≡ None)
    → KeepsUnranged (o ∷ []) (drop i l)
slip_kept l i x o e h zero y f g =
    let same : x ≡ y = cc (sym (ap (λ q. slice_get q 0) (next l i x e)) ∙ g) in
    let none : o ≡ None = cc f in ap source_of (sym same) ∙ h none
slip_kept l i x o e h (suc k) y f g = absurd (let n = got_within (o ∷ []) (suc k) None f in
    omega (arith, n))

pub slip_is : (rate : Rate) (d : ℤ) (l : List (ItemOf Listed)) (s : Seat) (x : ItemOf Listed)
    (o : Option Span) (m : Retiming) → m.at ≡ s.index → m.ranges.items ≡ o ∷ []
    → slice_get l s.index ≡ Some x → s.index < length l
    → all_made rate (one (slipped_item d x)) ≡ Some (with_source o x ∷ [])
    → (o ≡ None → source_of x ≡ None) → IsRetimedBy rate l s (W.Media d) m
slip_is rate d l s x o m a r e below f k =
    let n = ap length r in
    record {
      made = λ h i. slip_retimed rate d l s x o e below f h i
          ∙ ap₂ (λ j rs. Some (retimed j rs l)) (sym a) (sym r);
      within = omega (arith, n, a, below);
      kept = subst (λ j. KeepsUnranged m.ranges.items (drop j l)) (sym a)
          (subst (λ rs. KeepsUnranged rs (drop s.index l)) (sym r)
          (slip_kept l s.index x o e k));
      few = omega (arith, n);
    }

pub shaped_is : (rate : Rate) (l : List (ItemOf Listed)) (s : Seat) (z : Interval) (k : Shape)
    (at count : ℕ) (gone growth : ℤ) (w : IsShaped l s z k) (x : ItemOf Listed)
    (o : Option Span) (rb rf : List (Option Span)) (m : Retiming)
    → Reckoned l z at gone count
    → Copied l s z k w x (take (s.index - at) (drop at l))
    (take (((at + count) - s.index) - 1) (drop (s.index + 1) l))
    → Parts rate k (take (s.index - at) (drop at l))
    (take (((at + count) - s.index) - 1) (drop (s.index + 1) l)) x o rb rf
    → m.at ≡ at → m.ranges.items ≡ rb ++ (o ∷ rf)
    → IsRetimedBy rate l s (W.Edges z k growth) m
shaped_is rate l s z k at count gone growth w x o rb rf m n c t a e =
    let inner = inside l s z k at count gone w n in
    let first = inner.first in
    let past = inner.past in
    let all = inner.all in
    let number = n.many in
    let p = take (s.index - at) (drop at l) in
    let q = take (((at + count) - s.index) - 1) (drop (s.index + 1) l) in
    let g = ranged rate k l p q at count x o rb rf m.ranges.items all
    (touched_parts l at count s.index x c.item first (omega (arith, past))) t e in
    let long = g.many in
    record {
      made = λ h i. shaped rate l s z k at count gone growth w x o p q rb rf m.ranges.items n c t e
          g h i ∙ ap (λ j. Some (retimed j m.ranges.items l)) (sym a);
      within = omega (arith, long, a, all);
      kept = subst (λ j. KeepsUnranged m.ranges.items (drop j l)) (sym a) g.kept;
      few = omega (arith, long, number);
    }

-- whatever the track grows by
pub at_growth : (rate : Rate) (l : List (ItemOf Listed)) (s : Seat) (z : Interval) (k : Shape)
    (growth : ℤ) (o : Option Retiming)
    → IfSome o (λ m. (g : ℤ) → IsRetimedBy rate l s (W.Edges z k g) m)
    → IfSome o (IsRetimedBy rate l s (W.Edges z k growth))
at_growth rate l s z k growth None h = tt
at_growth rate l s z k growth (Some m) h = h growth
