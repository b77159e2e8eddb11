-- A window of a track, made in one pass over its children.
use Rattle.std.proofs.Common.{◌≡◌, refl, sym, subst, ap, ap₂, ◌∙◌, ℕ, ◌+◌, ◌≤◌, ℤ, pos, ◌+ℤ◌, ◌-ℤ◌, ◌≤ℤ◌, ◌<ℤ◌, ◌||◌, ◌&&◌, Bool, true, false, Option, Some, None, List, [], ◌∷◌, ◌++◌, length, take, drop, append_assoc, arith}
use Rattle.std.specs.Prelude.{int_lt, int_le, option_and_then, option_map, slice_get}
use Rattle.std.proofs.lemmas.Int.{ints, by_lt_z}
use Rattle.tick_time.specs.declared.rates.Rate.{Rate}
use Rattle.otio_model.specs.declared.compositions.ItemOf.{ItemOf}
use Rattle.otio_model.specs.declared.compositions.Listed.{Listed}
use Rattle.coord.specs.Sights.{overlap_of}
use Rattle.coord.proofs.Members.{none_left, same_some}
use Rattle.edits.specs.Splices.{is_stripped}
use Rattle.edits.specs.Children.{ticks, made, all_made, with_first}
use Rattle.edits.specs.Cuts.{left_piece, right_piece, strip, olds, back}
use Rattle.edits_law.proofs.Splice.{cases, place, stop, whole, inside}
use Rattle.edits_law.proofs.Sorts.{sort, point, thing}
use Rattle.edits.specs.Edges.{added}
use Rattle.edits_law.proofs.Parted.{added_strip}
use Rattle.flat.specs.Pieces.{up_to, from_on, cuts_at}
use Rattle.flat.specs.Windowed.{front_alone, stripped, window_of, window_track, window_tracks}
use Rattle.flat_law.proofs.CutOut.{front_past, front_in, front_before, back_past, back_in, back_before}
use Rattle.otio_model.specs.declared.compositions.ItemOf.TheVariants.{Clip, Gap, Transition, Stack, Track}
use Rattle.otio_model.specs.declared.compositions.TrackOf.{TrackOf}
use Rattle.otio_model.specs.Edits.{deeper}
use Rattle.otio_model.specs.Trees.{listed, items_of}
use Rattle.coord.specs.Programs.{rate_24}
use Rattle.coord.specs.Sights.{View, viewer}
use Rattle.coord.specs.Soundness.{fault_of}
use Rattle.flat.specs.declared.faults.Cause.TheVariants as C
use Rattle.flat.specs.Blocked.{IsFree}
use Rattle.flat.specs.Roots.{is_plain, items_in}
use Rattle.flat.specs.Windowed.{WindowBlocks, with_items}
use Rattle.flat.specs.Windowed as W
use Rattle.flat_law.proofs.CutOut.{plain_known, added_total}
use Rattle.flat_law.proofs.Fit.{measured, plain_sum}
use Rattle.flat_law.proofs.Givers.{bare_of}
use Rattle.flat_stack.specs.Uncut.{is_cut, AreCutTo}
use Rattle.flat_stack.specs.Passed.{back_of, one_passed, both_lists, passed, IsPut, IsBetween}
use Rattle.edits.proofs.NextStarts.{added_next}
use Rattle.limits.proofs.IntegerTests.{below-int_lt, above-int_lt, below-int_le, above-int_le, int_lt-true, int_le-true}
use Rattle.std.proofs.lemmas.Bool.{and_parts, or_parts}
use Rattle.std.proofs.lemmas.List.{append-nil}
use Rattle.limits.proofs.IntegerSums.{minus-zero}

-- ---- tests

-- ---- lists that there are

no_second : (o : Option (List (ItemOf Listed))) → both_lists o None ≡ None
no_second None = refl
no_second (Some l) = refl

nothing_first : (o : Option (List (ItemOf Listed))) → both_lists (Some []) o ≡ o
nothing_first None = refl
nothing_first (Some m) = refl

three_lists : (l m : List (ItemOf Listed)) (o : Option (List (ItemOf Listed)))
    → both_lists (Some l) (both_lists (Some m) o) ≡ both_lists (Some (l ++ m)) o
three_lists l m None = refl
three_lists l m (Some n) = ap Some (sym (append_assoc l m n))

one_first : (x : ItemOf Listed) (o : Option (List (ItemOf Listed)))
    → with_first (Some x) o ≡ both_lists (Some (x ∷ [])) o
one_first x None = refl
one_first x (Some m) = refl

made_first : (o : Option (ItemOf Listed)) (m : List (ItemOf Listed))
    → both_lists (option_map (λ z. z ∷ []) o) (Some m) ≡ with_first o (Some m)
made_first None m = refl
made_first (Some z) m = refl

all_olds : (r : Rate) (l : List (ItemOf Listed)) → all_made r (olds l) ≡ Some l
all_olds r [] = refl
all_olds r (x ∷ l) = ap (with_first (Some x)) (all_olds r l)

-- ---- one item

back_stop : (r : Rate) (a : ℤ) (y : ItemOf Listed) → a ≤ℤ pos 0 → back_of r a y ≡ Some (y ∷ [])
back_stop r a y h = let e = above-int_lt (pos 0) a h in rw e refl

back_whole : (r : Rate) (a : ℤ) (y : ItemOf Listed) → pos 0 <ℤ a → ticks y ≤ℤ a
    → back_of r a y ≡ Some []
back_whole r a y h k = let e = below-int_lt (pos 0) a h in let f = below-int_le (ticks y) a k in rw (e, f) refl

back_inside : (r : Rate) (a : ℤ) (y : ItemOf Listed) → pos 0 <ℤ a → a <ℤ ticks y
    → back_of r a y ≡ option_map (λ z. z ∷ []) (made r (right_piece y a))
back_inside r a y h k =
    let e = below-int_lt (pos 0) a h in let f = above-int_le (ticks y) a k in rw (e, f) refl

back_late : (l : List (ItemOf Listed)) (a : ℤ) → a ≤ℤ pos 0 → back l a ≡ olds l
back_late [] a h = refl
back_late (x ∷ l) a h = back_before x l a h

passed_none : (r : Rate) (a b : ℤ) (l : List (ItemOf Listed)) → b ≤ℤ pos 0 → passed r a b l ≡ Some []
passed_none r a b [] h = refl
passed_none r a b (x ∷ l) h = let e = above-int_lt (pos 0) b h in rw e refl

passed_step : (r : Rate) (a b : ℤ) (x : ItemOf Listed) (l : List (ItemOf Listed)) → pos 0 <ℤ b
    → passed r a b (x ∷ l)
    ≡ both_lists (one_passed r a b x) (passed r (a -ℤ ticks x) (b -ℤ ticks x) l)
passed_step r a b x l h = let e = below-int_lt (pos 0) b h in rw e refl

up_whole : (r : Rate) (b : ℤ) (x : ItemOf Listed) → ticks x ≤ℤ b → up_to r b x ≡ Some x
up_whole r b x h = let e = above-int_lt b (ticks x) h in rw e refl

up_inside : (r : Rate) (b : ℤ) (x : ItemOf Listed) → b <ℤ ticks x
    → up_to r b x ≡ made r (left_piece x b)
up_inside r b x h = let e = below-int_lt b (ticks x) h in rw e refl

-- ---- the front's back, in one pass

abbrev cut_back : Rate → ℤ → Option (List (ItemOf Listed)) → Option (List (ItemOf Listed))
cut_back r a o = option_and_then (λ m. all_made r (back m a)) o

-- what comes behind an item of the front
behind : (r : Rate) (a : ℤ) (x : ItemOf Listed) (m : List (ItemOf Listed))
    → both_lists (back_of r a x) (all_made r (back m (a -ℤ ticks x))) ≡ all_made r (back (x ∷ m) a)
behind r a x m = elim (place a (ticks x)) [
  | stop h ↦
      ap₂ both_lists (back_stop r a x h)
      (ap (all_made r) (back_late m (a -ℤ ticks x) (low a h)) ∙ all_olds r m)
      ∙ sym (ap (all_made r) (back_before x m a h) ∙ all_olds r (x ∷ m))
  | whole h k ↦
      ap (λ o. both_lists o (all_made r (back m (a -ℤ ticks x)))) (back_whole r a x h k)
      ∙ nothing_first (all_made r (back m (a -ℤ ticks x)))
      ∙ ap (all_made r) (sym (back_past x m a h k))
  | inside h k ↦
      ap₂ both_lists (back_inside r a x h k)
      (ap (all_made r) (back_late m (a -ℤ ticks x) (omega (arith, ints, k))) ∙ all_olds r m)
      ∙ made_first (made r (right_piece x a)) m
      ∙ sym (ap (all_made r) (back_in x m a h k) ∙ ap (with_first (made r (right_piece x a))) (all_olds r m))
]
  where
    low : (z : ℤ) → z ≤ℤ pos 0 → (z -ℤ ticks x) ≤ℤ pos 0
    low z h = omega (arith, ints, h)

front_first : (r : Rate) (a : ℤ) (x : ItemOf Listed) (o : Option (List (ItemOf Listed)))
    → both_lists (back_of r a x) (cut_back r (a -ℤ ticks x) o) ≡ cut_back r a (with_first (Some x) o)
front_first r a x None = no_second (back_of r a x)
front_first r a x (Some m) = behind r a x m

front_last : (r : Rate) (a : ℤ) (o : Option (ItemOf Listed))
    → both_lists (option_and_then (back_of r a) o) (Some [])
    ≡ cut_back r a (with_first o (Some []))
front_last r a None = refl
front_last r a (Some y) = behind r a y []

pub passed_is : (r : Rate) (a b : ℤ) (s : List (ItemOf Listed))
    → passed r a b s ≡ cut_back r a (all_made r (front_alone s b))
passed_is r a b [] = refl
passed_is r a b (x ∷ l) = elim (place b (ticks x)) [
  | stop h ↦
      passed_none r a b (x ∷ l) h
      ∙ sym (ap (λ c. cut_back r a (all_made r c)) (front_before x l b h))
  | whole h k ↦
      passed_step r a b x l h
      ∙ ap₂ both_lists (ap (option_and_then (back_of r a)) (up_whole r b x k))
      (passed_is r (a -ℤ ticks x) (b -ℤ ticks x) l)
      ∙ front_first r a x (all_made r (front_alone l (b -ℤ ticks x)))
      ∙ sym (ap (λ c. cut_back r a (all_made r c)) (front_past x l b h k))
  | inside h k ↦
      passed_step r a b x l h
      ∙ ap₂ both_lists (ap (option_and_then (back_of r a)) (up_inside r b x k))
      (passed_none r (a -ℤ ticks x) (b -ℤ ticks x) l (omega (arith, ints, k)))
      ∙ front_last r a (made r (left_piece x b))
      ∙ sym (ap (λ c. cut_back r a (all_made r c)) (front_in x l b h k))
]

-- ---- what an item adds

two_steps : (o : Option (ItemOf Listed)) (f : ItemOf Listed → Option (ItemOf Listed))
    (z : ItemOf Listed) → option_and_then f o ≡ Some z
    → (y : ItemOf Listed) × (o ≡ Some y) × (f y ≡ Some z)
two_steps None f z e = absurd (cc e)
two_steps (Some y) f z e = (y, refl, e)

from_list : (r : Rate) (a : ℤ) (y z : ItemOf Listed) → (pos 0 <ℤ a → a <ℤ ticks y)
    → from_on r a y ≡ Some z → back_of r a y ≡ Some (z ∷ [])
from_list r a y z h e = by_lt_z (pos 0) a
    (λ k. let f = below-int_lt (pos 0) a k in
    back_inside r a y k (h k) ∙ ap (option_map (λ w. w ∷ [])) (rw f at e))
    (λ k. let f = above-int_lt (pos 0) a k in
    back_stop r a y k ∙ ap (λ w. Some (w ∷ [])) (same_some y z (rw f at e)))

-- a part is put
pub part_put : (r : Rate) (a b : ℤ) (x z : ItemOf Listed) (old new : List (ItemOf Listed))
    → ((y : ItemOf Listed) → up_to r b x ≡ Some y → pos 0 <ℤ a → a <ℤ ticks y)
    → option_and_then (from_on r a) (up_to r b x) ≡ Some z → new ≡ old ++ z ∷ []
    → IsPut r a b x old new
part_put r a b x z old new h e f =
    let t = two_steps (up_to r b x) (from_on r a) z e in
    record {
      items = z ∷ [];
      are = ap (option_and_then (back_of r a)) t.1 ∙ from_list r a t.0 z (h t.0 t.1) t.2;
      put = f;
    }

-- nothing is put of what ends before the window
pub none_put : (r : Rate) (a b : ℤ) (x : ItemOf Listed) (c : Bool) (old new : List (ItemOf Listed))
    → c ≡ (int_lt (pos 0) a && int_le (ticks x) a) → c ≡ true → a <ℤ b → new ≡ old
    → IsPut r a b x old new
none_put r a b x c old new e f wide g =
    let t = and_parts (int_lt (pos 0) a) (int_le (ticks x) a) (sym e ∙ f) in
    let k = int_le-true (ticks x) a t.1 in
    record {
      items = [];
      are = ap (option_and_then (back_of r a)) (up_whole r b x (omega (arith, ints, k, wide)))
          ∙ back_whole r a x (int_lt-true (pos 0) a t.0) k;
      put = g ∙ sym (append-nil old);
    }

-- what doesn't end before it holds its first instant
pub not_over : (a : ℤ) (x : ItemOf Listed) (c : Bool)
    → c ≡ (int_lt (pos 0) a && int_le (ticks x) a) → c ≡ false → pos 0 <ℤ a → a <ℤ ticks x
not_over a x c e f h =
    let g = below-int_lt (pos 0) a h in
    let k : int_le (ticks x) a ≡ false = rw g at (sym e ∙ f) in
    gt_is (ticks x) a k
  where
    gt_is : (m n : ℤ) → int_le m n ≡ false → n <ℤ m
    gt_is m n k = grind (arith, ints)

-- ---- the loop over a track's children

pub between_first : (r : Rate) (l done rest : List (ItemOf Listed)) (a b : ℤ) → done ≡ [] → rest ≡ l
    → IsBetween r l a b done rest (pos 0) 0
between_first r l _ rest a b d e = subst (λ m. IsBetween r l a b m rest (pos 0) 0) (sym d) (record {
  is = ap₂ (λ y z. passed r y z (stripped l y z)) (minus-zero a) (minus-zero b)
      ∙ ap (λ m. passed r (a -ℤ pos 0) (b -ℤ pos 0) (stripped m (a -ℤ pos 0) (b -ℤ pos 0))) (sym e)
      ∙ sym (nothing_first _);
  start = refl;
  low = omega (arith, ints);
  high = omega (arith, ints);
})

-- what is left out takes no time
out_first : (x : ItemOf Listed) (l : List (ItemOf Listed)) (a b : ℤ) → is_stripped a b (overlap_of x) ≡ true
    → strip (x ∷ l) a b ≡ strip l a b
out_first x l a b e = rw e refl

in_first : (x : ItemOf Listed) (l : List (ItemOf Listed)) (a b : ℤ) → is_stripped a b (overlap_of x) ≡ false
    → strip (x ∷ l) a b ≡ x ∷ strip l (a -ℤ ticks x) (b -ℤ ticks x)
in_first x l a b e = rw e refl

no_time : (x : ItemOf Listed) (a b : ℤ) → is_stripped a b (overlap_of x) ≡ true → ticks x ≡ pos 0
no_time x a b e = elim (sort x) [ point o t f z ↦ z | thing t f ↦ absurd (cc (rw f at e)) ]

pub left_out : (x : ItemOf Listed) (l : List (ItemOf Listed)) (a b : ℤ)
    → (is_stripped a a (overlap_of x) || is_stripped b b (overlap_of x)) ≡ true
    → (stripped (x ∷ l) a b ≡ stripped l a b) × (ticks x ≡ pos 0)
left_out x l a b e = cases (is_stripped a a (overlap_of x))
    (λ f. (ap (λ m. strip m b b) (out_first x l a a f), no_time x a a f))
    (λ f.
    let g : is_stripped b b (overlap_of x) ≡ true = rw f at e in
    let z = no_time x b b g in
    let same : (y : ℤ) → y -ℤ ticks x ≡ y = λ y. omega (arith, ints, z) in (
      ap (λ m. strip m b b) (in_first x l a a f)
          ∙ out_first x (strip l (a -ℤ ticks x) (a -ℤ ticks x)) b b g
          ∙ ap (λ y. strip (strip l y y) b b) (same a),
      z,
    ))

pub kept_in : (x : ItemOf Listed) (l : List (ItemOf Listed)) (a b : ℤ)
    → (is_stripped a a (overlap_of x) || is_stripped b b (overlap_of x)) ≡ false
    → stripped (x ∷ l) a b ≡ x ∷ stripped l (a -ℤ ticks x) (b -ℤ ticks x)
kept_in x l a b e =
    let n = or_parts (is_stripped a a (overlap_of x)) (is_stripped b b (overlap_of x)) e in
    ap (λ m. strip m b b) (in_first x l a a n.0)
    ∙ in_first x (strip l (a -ℤ ticks x) (a -ℤ ticks x)) b b n.1

pub between_less : (r : Rate) (l rest more done new : List (ItemOf Listed)) (a b at now : ℤ) (i : ℕ)
    (x : ItemOf Listed) (c : Bool) → IsBetween r l a b done rest at i → rest ≡ x ∷ more
    → slice_get l i ≡ Some x
    → c ≡ (is_stripped (a -ℤ at) (a -ℤ at) (overlap_of x)
    || is_stripped (b -ℤ at) (b -ℤ at) (overlap_of x))
    → c ≡ true → new ≡ done → now ≡ at → IsBetween r l a b new more now (i + 1)
between_less r l rest more done new a b at now i x c s e there f g n k =
    let o = left_out x more (a -ℤ at) (b -ℤ at) (sym f ∙ g) in
    let z = o.1 in
    record {
      is = s.is
          ∙ ap (λ m. both_lists (Some done) (passed r (a -ℤ at) (b -ℤ at) (stripped m (a -ℤ at) (b -ℤ at)))) e
          ∙ ap (λ m. both_lists (Some done) (passed r (a -ℤ at) (b -ℤ at) m)) o.0
          ∙ ap₂ (λ m y. both_lists (Some m) (passed r (a -ℤ y) (b -ℤ y) (stripped more (a -ℤ y) (b -ℤ y)))) (sym n) (sym k);
      start = let h = s.start in let t = added_next l i x there in omega (arith, ints, h, t, z, k);
      low = omega (arith, ints, s.low, k);
      high = omega (arith, ints, s.high, k);
    }

pub between_more : (r : Rate) (l rest more done mid new : List (ItemOf Listed)) (a b at now n : ℤ) (i : ℕ)
    (x : ItemOf Listed) (c : Bool) → IsBetween r l a b done rest at i → rest ≡ x ∷ more
    → slice_get l i ≡ Some x
    → c ≡ (is_stripped (a -ℤ at) (a -ℤ at) (overlap_of x)
    || is_stripped (b -ℤ at) (b -ℤ at) (overlap_of x))
    → c ≡ false → at <ℤ b → IsPut r (a -ℤ at) (b -ℤ at) x done mid → new ≡ mid → n ≡ ticks x → pos 0 ≤ℤ n
    → n ≤ℤ pos 705600000000000000000000 → now ≡ at +ℤ n → IsBetween r l a b new more now (i + 1)
between_more r l rest more done mid new a b at now n i x c s e there f g ahead p m d low high k =
    let now_is : now ≡ at +ℤ ticks x = k ∙ ap (λ z. at +ℤ z) d in
    let first : a -ℤ now ≡ (a -ℤ at) -ℤ ticks x = omega (arith, ints, now_is) in
    let last : b -ℤ now ≡ (b -ℤ at) -ℤ ticks x = omega (arith, ints, now_is) in
    let rest_is : Option (List (ItemOf Listed)) =
    passed r ((a -ℤ at) -ℤ ticks x) ((b -ℤ at) -ℤ ticks x)
    (stripped more ((a -ℤ at) -ℤ ticks x) ((b -ℤ at) -ℤ ticks x)) in
    record {
      is = s.is
          ∙ ap (λ m. both_lists (Some done) (passed r (a -ℤ at) (b -ℤ at) (stripped m (a -ℤ at) (b -ℤ at)))) e
          ∙ ap (λ m. both_lists (Some done) (passed r (a -ℤ at) (b -ℤ at) m)) (kept_in x more (a -ℤ at) (b -ℤ at) (sym f ∙ g))
          ∙ ap (both_lists (Some done)) (passed_step r (a -ℤ at) (b -ℤ at) x _ (omega (arith, ints, ahead)))
          ∙ ap (λ o. both_lists (Some done) (both_lists o rest_is)) p.are
          ∙ three_lists done p.items rest_is
          ∙ ap (λ m. both_lists (Some m) rest_is) (sym (m ∙ p.put))
          ∙ ap₂ (λ y z. both_lists (Some new) (passed r y z (stripped more y z))) (sym first) (sym last);
      start = let h = s.start in let t = added_next l i x there in omega (arith, ints, h, t, now_is);
      low = omega (arith, ints, s.low, low, k);
      high = omega (arith, ints, s.high, high, k);
    }

-- an item is cut where it is met
pub both_cut : (l : List (ItemOf Listed)) (a b at : ℤ) (i : ℕ) (x : ItemOf Listed)
    → is_cut l a b i x ≡ true → at ≡ added (take i l)
    → (cuts_at x (a -ℤ at) ≡ true) × (cuts_at x (b -ℤ at) ≡ true)
both_cut l a b at i x e s =
    and_parts (cuts_at x (a -ℤ at)) (cuts_at x (b -ℤ at))
    (ap (λ z. cuts_at x (a -ℤ z) && cuts_at x (b -ℤ z)) s ∙ e)

done_alone : (done : List (ItemOf Listed)) (o : Option (List (ItemOf Listed))) → o ≡ Some []
    → both_lists (Some done) o ≡ Some done
done_alone done o e = ap (both_lists (Some done)) e ∙ ap Some (append-nil done)

pub between_stop : (r : Rate) (l rest done : List (ItemOf Listed)) (a b at : ℤ) (i : ℕ)
    → IsBetween r l a b done rest at i → b ≤ℤ at → passed r a b (stripped l a b) ≡ Some done
between_stop r l rest done a b at i s h =
    s.is ∙ done_alone done _ (passed_none r (a -ℤ at) (b -ℤ at) _ (omega (arith, ints, h)))

pub between_all : (r : Rate) (l done : List (ItemOf Listed)) (a b at : ℤ) (i : ℕ)
    → IsBetween r l a b done (drop i l) at i → length l ≤ i
    → passed r a b (stripped l a b) ≡ Some done
between_all r l done a b at i s h =
    s.is ∙ done_alone done _
    (ap (λ m. passed r (a -ℤ at) (b -ℤ at) (stripped m (a -ℤ at) (b -ℤ at))) (none_left l i h))

-- ---- a track

added_stripped : (l : List (ItemOf Listed)) (a b : ℤ) → added (stripped l a b) ≡ added l
added_stripped l a b = added_strip (strip l a a) b b ∙ added_strip l a a

pub window_early : (r : Rate) (a b n : ℤ) (l : List (ItemOf Listed)) → n ≡ added l → n ≤ℤ a
    → window_of r a b (stripped l a b) ≡ Some []
window_early r a b n l e h =
    let f : int_le (added (stripped l a b)) a ≡ true =
    below-int_le (added (stripped l a b)) a (subst (λ z. z ≤ℤ a) (e ∙ sym (added_stripped l a b)) h) in
    rw f refl

pub window_made : (r : Rate) (a b n : ℤ) (l m : List (ItemOf Listed)) → n ≡ added l → a <ℤ n
    → passed r a b (stripped l a b) ≡ Some m → window_of r a b (stripped l a b) ≡ Some m
window_made r a b n l m e h p =
    let f : int_le (added (stripped l a b)) a ≡ false =
    above-int_le (added (stripped l a b)) a (subst (λ z. a <ℤ z) (e ∙ sym (added_stripped l a b)) h) in
    rw f (sym (passed_is r a b (stripped l a b)) ∙ p)

-- ---- all tracks

-- so many tracks are cut
abbrev pub AreWindowed : Rate → ℤ → ℤ → List (ItemOf Listed) → List (ItemOf Listed)
    → List (ItemOf Listed) → Type 0
AreWindowed r a b done rest l =
    window_tracks r a b l ≡ both_lists (Some done) (window_tracks r a b rest)

pub tracks_first : (r : Rate) (a b : ℤ) (done rest l : List (ItemOf Listed)) → done ≡ [] → rest ≡ l
    → AreWindowed r a b done rest l
tracks_first r a b done rest l d e =
    ap (window_tracks r a b) (sym e) ∙ sym (nothing_first (window_tracks r a b rest))
    ∙ ap (λ m. both_lists (Some m) (window_tracks r a b rest)) (sym d)

pub tracks_more : (r : Rate) (a b : ℤ) (done new rest more l : List (ItemOf Listed))
    (x y : ItemOf Listed) → AreWindowed r a b done rest l → rest ≡ x ∷ more
    → window_track r a b x ≡ Some y → new ≡ done ++ y ∷ [] → AreWindowed r a b new more l
tracks_more r a b done new rest more l x y w e m n =
    w ∙ ap (λ z. both_lists (Some done) (window_tracks r a b z)) e
    ∙ ap (λ o. both_lists (Some done) (with_first o (window_tracks r a b more))) m
    ∙ ap (both_lists (Some done)) (one_first y (window_tracks r a b more))
    ∙ three_lists done (y ∷ []) (window_tracks r a b more)
    ∙ ap (λ z. both_lists (Some z) (window_tracks r a b more)) (sym n)

pub tracks_all : (r : Rate) (a b : ℤ) (done rest l : List (ItemOf Listed))
    → AreWindowed r a b done rest l → rest ≡ [] → window_tracks r a b l ≡ Some done
tracks_all r a b done rest l w e =
    w ∙ done_alone done (window_tracks r a b rest) (ap (window_tracks r a b) e)

-- ---- what is known of a timeline that isn't refused

pub free_plain : (l : List (ItemOf Listed)) (a b : ℤ) (k : ℕ) (x : ItemOf Listed)
    → IsFree (WindowBlocks l a b) → slice_get l k ≡ Some x → is_plain x ≡ true
free_plain l a b k x f e = cases (is_plain x) (λ z. z)
    (λ z. absurd (f (k ∷ []) C.Nested (W.not_plain (k ∷ []) k x refl e z)))

pub free_cut : (l : List (ItemOf Listed)) (a b : ℤ) (k : ℕ) (x : ItemOf Listed)
    → IsFree (WindowBlocks l a b) → slice_get l k ≡ Some x
    → AreCutTo (items_in x) a b (length (items_in x))
free_cut l a b k x f e i y less g = cases (is_cut (items_in x) a b i y) (λ z. z)
    (λ z. absurd (f (k ∷ i ∷ []) C.Phase (W.phase (k ∷ i ∷ []) k i x y refl e g z)))

-- the length of a plain track is that of its children
track_known : (t : TrackOf Listed) → is_plain (Track t) ≡ true → fault_of (Track t) ≡ None
    → ticks (Track t) ≡ added (items_of t.children)
track_known t p f =
    let b = bare_of t p in
    let m = measured (Track t) refl f in
    let v : View = viewer (λ r. rate_24) [] in
    plain_known v t m.ticks b (plain_sum t m.ticks b m.length) ∙ added_total v (items_of t.children)

pub plain_ticks : (x : ItemOf Listed) → is_plain x ≡ true → fault_of x ≡ None
    → ticks x ≡ added (items_in x)
plain_ticks (Clip c) p f = absurd (cc p)
plain_ticks (Gap c) p f = absurd (cc p)
plain_ticks (Transition c) p f = absurd (cc p)
plain_ticks (Stack c) p f = absurd (cc p)
plain_ticks (Track c) p f = track_known c p f

-- a plain track with other children
pub track_with : (x : ItemOf Listed) (l : List (ItemOf Listed)) → is_plain x ≡ true
    → deeper (λ _. listed l) x ≡ with_items x l
track_with (Clip c) l p = absurd (cc p)
track_with (Gap c) l p = absurd (cc p)
track_with (Transition c) l p = absurd (cc p)
track_with (Stack c) l p = absurd (cc p)
track_with (Track c) l p = refl

pub track_cut : (r : Rate) (a b : ℤ) (x y : ItemOf Listed) (c : Listed) (l : List (ItemOf Listed))
    → is_plain x ≡ true → window_of r a b (stripped (items_in x) a b) ≡ Some l → c ≡ listed l
    → y ≡ deeper (λ _. c) x → window_track r a b x ≡ Some y
track_cut r a b x y c l p w e f =
    ap (option_map (with_items x)) w
    ∙ ap Some (sym (f ∙ ap (λ z. deeper (λ _. z) x) e ∙ track_with x l p))
