-- Stretches of one clip or of none, found by halves of the tracks.
use Rattle.std.proofs.Common.{◌≡◌, ◌⊎◌, inl, inr, refl, sym, subst, ap, ap₂, ◌∙◌, ℕ, zero, suc, ◌+◌, ◌-◌, ◌≤◌, ◌<◌, ℤ, pos, ◌≤ℤ◌, ◌<ℤ◌, true, false, Option, Some, None, cond, List, [], ◌∷◌, ◌++◌, length, take, drop, append_assoc, arith}
use Rattle.std.specs.Prelude.{int_le, slice_get, slice_index_or}
use Rattle.std.specs.Option.{option_or}
use Rattle.std.proofs.lemmas.Int.{ints}
use Rattle.std.proofs.lemmas.List.{drop-drop, length-take-le}
use Rattle.std.proofs.Math.Seq.{take-add}
use Rattle.otio_model.specs.declared.compositions.ItemOf.{ItemOf}
use Rattle.otio_model.specs.declared.compositions.Listed.{Listed}
use Rattle.coord.proofs.Members.{none_left, next, got_below}
use Rattle.edits_law.proofs.Splice.{cases}
use Rattle.flat.specs.Roots.{is_layer, items_in}
use Rattle.flat.specs.Pieces.{Giver, holder, giver}
use Rattle.flat.specs.Built.{IsOne}
use Rattle.flat_stack.specs.declared.stretches.Given.{Given}
use Rattle.flat_stack.specs.declared.stretches.Stretch.{Stretch}
use Rattle.flat_stack.specs.Runs.{given_of, AreRuns, upper_first, behind, LeavesRuns}
use Rattle.limits.proofs.IntegerTests.{int_le-true}

-- ---- tracks by halves

or_none : (o : Option Giver) → option_or o None ≡ o
or_none None = refl
or_none (Some g) = refl

or_three : (o p q : Option Giver) → option_or (option_or o p) q ≡ option_or o (option_or p q)
or_three None p q = refl
or_three (Some g) p q = refl

pub giver_both : (k : ℕ) (kind : List ℕ) (a b : List (ItemOf Listed)) (w : ℤ)
    → giver k kind (a ++ b) w ≡ option_or (giver (k + length a) kind b w) (giver k kind a w)
giver_both k kind [] b w =
    ap (λ n. giver n kind b w) (let e : k ≡ k + 0 = omega arith in e)
    ∙ sym (or_none (giver (k + 0) kind b w))
giver_both k kind (x ∷ a) b w =
    let o = cond (is_layer kind x) (holder k 0 (pos 0) (items_in x) w) None in
    let e : suc k + length a ≡ k + length (x ∷ a) = omega arith in
    ap (λ p. option_or p o) (giver_both (suc k) kind a b w)
    ∙ or_three (giver (suc k + length a) kind b w) (giver (suc k) kind a w) o
    ∙ ap (λ n. option_or (giver n kind b w) (option_or (giver (suc k) kind a w) o)) e

halves : (l : List (ItemOf Listed)) (from n m : ℕ)
    → take (n + m) (drop from l) ≡ take n (drop from l) ++ take m (drop (from + n) l)
halves l from n m = take-add n m (drop from l) ∙ ap (λ r. take n (drop from l) ++ take m r) (drop-drop n from l)

pub giver_halves : (l : List (ItemOf Listed)) (kind : List ℕ) (from n m count : ℕ) (w : ℤ)
    → count ≡ n + m → n ≤ length (drop from l)
    → option_or (giver (from + n) kind (take m (drop (from + n) l)) w)
    (giver from kind (take n (drop from l)) w)
    ≡ giver from kind (take count (drop from l)) w
giver_halves l kind from n m count w e h =
    sym (ap (λ c. giver from kind (take c (drop from l)) w) e
    ∙ ap (λ r. giver from kind r w) (halves l from n m)
    ∙ giver_both from kind (take n (drop from l)) (take m (drop (from + n) l)) w
    ∙ ap (λ c. option_or (giver (from + c) kind (take m (drop (from + n) l)) w) (giver from kind (take n (drop from l)) w)) (length-take-le n (drop from l) h))

-- ---- stretches of another giver that is the same

pub runs_as : (l : List (ItemOf Listed)) (g h : ℤ → Option Giver) (end at : ℤ) (s : List Stretch)
    → ((w : ℤ) → g w ≡ h w) → AreRuns l g end at s → AreRuns l h end at s
runs_as l g h end at [] same r = r
runs_as l g h end at (s ∷ rest) same r =
    (r.0, r.1, λ w a b. sym (same w) ∙ r.2 w a b, runs_as l g h end s.to rest same r.3)

pub runs_end : (l : List (ItemOf Listed)) (g : ℤ → Option Giver) (end at : ℤ) (s : List Stretch)
    → AreRuns l g end at s → at ≤ℤ end
runs_end l g end at [] r = omega (arith, ints, r)
runs_end l g end at (s ∷ rest) r = omega (arith, ints, r.0, r.1)

-- ---- nothing

pub nothing_one : (l : List (ItemOf Listed)) (end : ℤ) (s : List Stretch) → pos 0 <ℤ end
    → s ≡ record { to = end; given = None } ∷ [] → AreRuns l (λ w. None) end (pos 0) s
nothing_one l end s h e =
    subst (AreRuns l (λ w. None) end (pos 0)) (sym e)
    (h, (let k : end ≤ℤ end = omega (arith, ints) in k), λ w a b. refl, refl)

pub nothing_none : (l : List (ItemOf Listed)) (end : ℤ) (s : List Stretch) → pos 0 ≤ℤ end
    → end ≤ℤ pos 0 → s ≡ [] → AreRuns l (λ w. None) end (pos 0) s
nothing_none l end s h k e =
    subst (AreRuns l (λ w. None) end (pos 0)) (sym e) (let m : pos 0 ≡ end = omega (arith, ints, h, k) in m)

-- ---- stretches one after another

pub leaves_first : (l : List (ItemOf Listed)) (g : ℤ → Option Giver) (end : ℤ)
    → LeavesRuns l g end [] (pos 0)
leaves_first l g end rest a = a

pub leaves_more : (l : List (ItemOf Listed)) (g : ℤ → Option Giver) (end at : ℤ) (s : Stretch)
    (done new : List Stretch) → LeavesRuns l g end done at → at <ℤ s.to → s.to ≤ℤ end
    → IsOne g at s.to (given_of l s.given) → new ≡ done ++ s ∷ [] → LeavesRuns l g end new s.to
leaves_more l g end at s done new k low high one e rest a =
    subst (AreRuns l g end (pos 0))
    (sym (append_assoc done (s ∷ []) rest) ∙ ap (λ d. d ++ rest) (sym e))
    (k (s ∷ rest) (low, high, one, a))

none_more : (s : List Stretch) → s ++ [] ≡ s
none_more [] = refl
none_more (x ∷ s) = ap (λ m. x ∷ m) (none_more s)

pub leaves_all : (l : List (ItemOf Listed)) (g : ℤ → Option Giver) (end at : ℤ) (done : List Stretch)
    → LeavesRuns l g end done at → at ≡ end → AreRuns l g end (pos 0) done
leaves_all l g end at done k e = subst (AreRuns l g end (pos 0)) (none_more done) (k [] e)

-- ---- two lists of stretches, the first before the second

-- so far both are put together
pub record IsMerged (l : List (ItemOf Listed)) (g h : ℤ → Option Giver) (end : ℤ)
    (upper lower done : List Stretch) : Type 0 where
  pub at : ℤ
  pub upper_left : AreRuns l g end at upper
  pub lower_left : AreRuns l h end at lower
  pub leaves : LeavesRuns l (λ w. option_or (g w) (h w)) end done at

given_or : (l : List (ItemOf Listed)) (o p : Option Given)
    → option_or (given_of l o) (given_of l p) ≡ given_of l (option_or o p)
given_or l None p = refl
given_or l (Some g) p = refl

pub merged_first : (l : List (ItemOf Listed)) (g h : ℤ → Option Giver) (end : ℤ)
    (upper lower : List Stretch) → AreRuns l g end (pos 0) upper → AreRuns l h end (pos 0) lower
    → IsMerged l g h end upper lower []
merged_first l g h end upper lower a b = record {
  at = pos 0;
  upper_left = a;
  lower_left = b;
  leaves = leaves_first l (λ w. option_or (g w) (h w)) end;
}

gt_is : (a b : ℤ) → int_le a b ≡ false → b <ℤ a
gt_is a b e = grind (arith, ints)

-- how far the next stretch goes
least_low : (at : ℤ) (s t : Stretch) → at <ℤ s.to → at <ℤ t.to → at <ℤ (upper_first s t).to
least_low at s t h k = cases (int_le s.to t.to) (λ e. rw e h) (λ e. rw e k)

least_first : (s t : Stretch) → (upper_first s t).to ≤ℤ s.to
least_first s t = cases (int_le s.to t.to)
    (λ e. rw e (omega (arith, ints))) (λ e. let k = gt_is s.to t.to e in rw e (omega (arith, ints, k)))

least_second : (s t : Stretch) → (upper_first s t).to ≤ℤ t.to
least_second s t = cases (int_le s.to t.to)
    (λ e. let k = int_le-true s.to t.to e in rw e k) (λ e. rw e (omega (arith, ints)))

-- what is left of a list from an instant within its first stretch on
pub left_behind : (l : List (ItemOf Listed)) (g : ℤ → Option Giver) (end at to : ℤ) (i : ℕ) (s : Stretch)
    (all rest : List Stretch) → drop i all ≡ s ∷ rest → drop (i + 1) all ≡ rest
    → AreRuns l g end at (drop i all) → at <ℤ to → to ≤ℤ s.to
    → AreRuns l g end to (drop (behind i s to) all)
left_behind l g end at to i s all rest e f r low high = cases (int_le s.to to)
    (λ k. let m : s.to ≡ to = same s.to to high (int_le-true s.to to k) in
    rw k (subst (AreRuns l g end to) (sym f) (subst (λ z. AreRuns l g end z rest) m first.3)))
    (λ k. let m = gt_is s.to to k in
    rw k (subst (AreRuns l g end to) (sym e)
    (m, first.1, λ w a b. first.2 w (omega (arith, ints, low, a)) b, first.3)))
  where
    same : (a b : ℤ) → b ≤ℤ a → a ≤ℤ b → a ≡ b
    same a b h k = omega (arith, ints, h, k)

    first : AreRuns l g end at (s ∷ rest)
    first = subst (AreRuns l g end at) e r

pub merged_more : (l : List (ItemOf Listed)) (g h : ℤ → Option Giver) (end : ℤ) (i j : ℕ)
    (s t : Stretch) (upper lower upper_rest lower_rest done new : List Stretch)
    → drop i upper ≡ s ∷ upper_rest → drop (i + 1) upper ≡ upper_rest
    → drop j lower ≡ t ∷ lower_rest → drop (j + 1) lower ≡ lower_rest
    → IsMerged l g h end (drop i upper) (drop j lower) done
    → new ≡ done ++ upper_first s t ∷ []
    → IsMerged l g h end (drop (behind i s (upper_first s t).to) upper)
    (drop (behind j t (upper_first s t).to) lower) new
merged_more l g h end i j s t upper lower upper_rest lower_rest done new a b c d m n =
    let first : AreRuns l g end m.at (s ∷ upper_rest) = subst (AreRuns l g end m.at) a m.upper_left in
    let second : AreRuns l h end m.at (t ∷ lower_rest) = subst (AreRuns l h end m.at) c m.lower_left in
    let low = least_low m.at s t first.0 second.0 in
    let f = least_first s t in
    let k = least_second s t in
    record {
      at = (upper_first s t).to;
      upper_left = left_behind l g end m.at (upper_first s t).to i s upper upper_rest a b m.upper_left low f;
      lower_left = left_behind l h end m.at (upper_first s t).to j t lower lower_rest c d m.lower_left low k;
      leaves = leaves_more l (λ w. option_or (g w) (h w)) end m.at (upper_first s t) done new m.leaves low
          (omega (arith, ints, f, first.1))
          (λ w p q. ap₂ option_or (first.2 w p (omega (arith, ints, q, f))) (second.2 w p (omega (arith, ints, q, k)))
          ∙ given_or l s.given t.given)
          n;
    }

pub merged_all : (l : List (ItemOf Listed)) (g h : ℤ → Option Giver) (end : ℤ)
    (upper lower done : List Stretch) → IsMerged l g h end upper lower done → upper ≡ []
    → AreRuns l (λ w. option_or (g w) (h w)) end (pos 0) done
merged_all l g h end upper lower done m e =
    leaves_all l (λ w. option_or (g w) (h w)) end m.at done m.leaves
    (subst (AreRuns l g end m.at) e m.upper_left)

-- the second list doesn't end first
pub not_short : (l : List (ItemOf Listed)) (g h : ℤ → Option Giver) (end : ℤ) (s : Stretch)
    (upper lower rest done : List Stretch) → IsMerged l g h end upper lower done
    → upper ≡ s ∷ rest → lower ≡ [] → ⊥
not_short l g h end s upper lower rest done m e f =
    let first : AreRuns l g end m.at (s ∷ rest) = subst (AreRuns l g end m.at) e m.upper_left in
    let second : m.at ≡ end = subst (AreRuns l h end m.at) f m.lower_left in
    omega (arith, ints, first.0, first.1, second)

-- ---- the loop over both lists

pub at_index : {A : Type 0} (l : List A) (i : ℕ) (d : A) → i < length l
    → slice_get l i ≡ Some (slice_index_or l i d)
at_index [] i d h = absurd (omega (arith, h))
at_index (x ∷ l) zero d h = refl
at_index (x ∷ l) (suc i) d h = at_index l i d (omega (arith, h))

pub none_at : {A : Type 0} (l : List A) (i : ℕ) → length l ≤ i → slice_get l i ≡ None
none_at [] zero h = refl
none_at [] (suc i) h = refl
none_at (x ∷ l) zero h = absurd (omega (arith, h))
none_at (x ∷ l) (suc i) h = none_at l i (omega (arith, h))

pub some_at : {A : Type 0} (l : List A) (i : ℕ) → slice_get l i ≡ None → length l ≤ i
some_at [] i e = omega arith
some_at (x ∷ l) zero e = absurd (cc e)
some_at (x ∷ l) (suc i) e = let k = some_at l i e in omega (arith, k)

some_left : {A : Type 0} (l : List A) (i : ℕ) → i < length l → drop i l ≡ [] → ⊥
some_left [] i h e = omega (arith, h)
some_left (x ∷ l) zero h e = absurd (cc e)
some_left (x ∷ l) (suc i) h e = some_left l i (omega (arith, h)) e

-- so far both lists are put together
pub record IsSoFar (upper lower : List Stretch) (high low : ℕ) (all : List Stretch) : Type 0 where
  pub merged : (l : List (ItemOf Listed)) (g h : ℤ → Option Giver) (end : ℤ)
      → AreRuns l g end (pos 0) upper → AreRuns l h end (pos 0) lower
      → IsMerged l g h end (drop high upper) (drop low lower) all
  pub high_in : high ≤ length upper
  pub low_in : low ≤ length lower

pub so_far_first : (upper lower all : List Stretch) → all ≡ [] → IsSoFar upper lower 0 0 all
so_far_first upper lower all e = record {
  merged = λ l g h end a b. subst (IsMerged l g h end upper lower) (sym e)
      (merged_first l g h end upper lower a b);
  high_in = omega arith;
  low_in = omega arith;
}

behind_in : (i n : ℕ) (s : Stretch) (to : ℤ) → i < n → behind i s to ≤ n
behind_in i n s to h = cases (int_le s.to to) (λ e. rw e (omega (arith, h))) (λ e. rw e (omega (arith, h)))

behind_from : (i : ℕ) (s : Stretch) (to : ℤ) → i ≤ behind i s to
behind_from i s to = cases (int_le s.to to) (λ e. rw e (omega arith)) (λ e. rw e (omega arith))

behind_past : (i : ℕ) (s : Stretch) (to : ℤ) → int_le s.to to ≡ true → behind i s to ≡ i + 1
behind_past i s to e = rw e refl

le_same : (a : ℤ) → int_le a a ≡ true
le_same a = grind (arith, ints)

least_ends : (s t : Stretch) → (int_le s.to (upper_first s t).to ≡ true)
    ⊎ (int_le t.to (upper_first s t).to ≡ true)
least_ends s t = cases (int_le s.to t.to)
    (λ e. inl (rw e (le_same s.to))) (λ e. inr (rw e (le_same t.to)))

pub so_far_more : (upper lower all new : List Stretch) (high low i j : ℕ) (s t r : Stretch)
    → IsSoFar upper lower high low all → slice_get upper high ≡ Some s → slice_get lower low ≡ Some t
    → r ≡ upper_first s t → new ≡ all ++ r ∷ [] → i ≡ behind high s r.to → j ≡ behind low t r.to
    → IsSoFar upper lower i j new
so_far_more upper lower all new high low i j s t r w a b e n p q =
    let first : i ≡ behind high s (upper_first s t).to = p ∙ ap (λ (z : Stretch). behind high s z.to) e in
    let second : j ≡ behind low t (upper_first s t).to = q ∙ ap (λ (z : Stretch). behind low t z.to) e in
    record {
      merged = λ l g h end x y.
          subst (λ m. IsMerged l g h end (drop m upper) (drop j lower) new) (sym first)
          (subst (λ m. IsMerged l g h end (drop (behind high s (upper_first s t).to) upper) (drop m lower) new) (sym second)
          (merged_more l g h end high low s t upper lower (drop (high + 1) upper) (drop (low + 1) lower) all new
          (next upper high s a) refl (next lower low t b) refl (w.merged l g h end x y)
          (n ∙ ap (λ z. all ++ z ∷ []) e)));
      high_in = let k = behind_in high (length upper) s (upper_first s t).to (got_below upper high s a) in omega (arith, k, first);
      low_in = let k = behind_in low (length lower) t (upper_first s t).to (got_below lower low t b) in omega (arith, k, second);
    }

pub so_far_less : (upper lower : List Stretch) (high low i j : ℕ) (s t r : Stretch)
    → slice_get upper high ≡ Some s → slice_get lower low ≡ Some t → r ≡ upper_first s t
    → i ≡ behind high s r.to → j ≡ behind low t r.to
    → (length upper - i) + (length lower - j) < (length upper - high) + (length lower - low)
so_far_less upper lower high low i j s t r a b e p q = of (least_ends s t)
  where
    first : i ≡ behind high s (upper_first s t).to
    first = p ∙ ap (λ (z : Stretch). behind high s z.to) e

    second : j ≡ behind low t (upper_first s t).to
    second = q ∙ ap (λ (z : Stretch). behind low t z.to) e

    of : (int_le s.to (upper_first s t).to ≡ true) ⊎ (int_le t.to (upper_first s t).to ≡ true)
        → (length upper - i) + (length lower - j) < (length upper - high) + (length lower - low)
    of (inl k) =
        let m = behind_past high s (upper_first s t).to k in
        let n = behind_from low t (upper_first s t).to in
        let x = got_below upper high s a in let y = got_below lower low t b in
        omega (arith, first, second, m, n, x, y)
    of (inr k) =
        let m = behind_past low t (upper_first s t).to k in
        let n = behind_from high s (upper_first s t).to in
        let x = got_below upper high s a in let y = got_below lower low t b in
        omega (arith, first, second, m, n, x, y)

pub so_far_all : (upper lower all : List Stretch) (high low : ℕ) → IsSoFar upper lower high low all
    → length upper ≤ high → (l : List (ItemOf Listed)) (g h : ℤ → Option Giver) (end : ℤ)
    → AreRuns l g end (pos 0) upper → AreRuns l h end (pos 0) lower
    → AreRuns l (λ w. option_or (g w) (h w)) end (pos 0) all
so_far_all upper lower all high low w k l g h end a b =
    merged_all l g h end (drop high upper) (drop low lower) all (w.merged l g h end a b) (none_left upper high k)

-- the second list doesn't end first
short_end : (l : List (ItemOf Listed)) (g h : ℤ → Option Giver) (end : ℤ)
    (upper lower done : List Stretch) → IsMerged l g h end upper lower done → (upper ≡ [] → ⊥)
    → lower ≡ [] → ⊥
short_end l g h end [] lower done m n e = n refl
short_end l g h end (s ∷ rest) lower done m n e =
    not_short l g h end s (s ∷ rest) lower rest done m refl e

pub so_far_short : (upper lower all : List Stretch) (high low : ℕ) → IsSoFar upper lower high low all
    → high < length upper → slice_get lower low ≡ None → (l : List (ItemOf Listed))
    (g h : ℤ → Option Giver) (end : ℤ) → AreRuns l g end (pos 0) upper → AreRuns l h end (pos 0) lower
    → AreRuns l (λ w. option_or (g w) (h w)) end (pos 0) all
so_far_short upper lower all high low w k e l g h end a b =
    absurd (short_end l g h end (drop high upper) (drop low lower) all (w.merged l g h end a b)
    (some_left upper high k) (none_left lower low (some_at lower low e)))

-- ---- so many root children

pub none_runs : (roots l : List (ItemOf Listed)) (kind : List ℕ) (from count : ℕ) (end : ℤ)
    (s : List Stretch) → count ≡ 0 → AreRuns roots (λ w. None) end (pos 0) s
    → AreRuns roots (giver from kind (take count l)) end (pos 0) s
none_runs roots l kind from count end s e r =
    runs_as roots (λ w. None) (giver from kind (take count l)) end (pos 0) s
    (λ w. sym (ap (λ n. giver from kind (take n l) w) e)) r

pub one_runs : (roots l rest : List (ItemOf Listed)) (kind : List ℕ) (from count : ℕ) (end : ℤ)
    (x : ItemOf Listed) (s : List Stretch) → count ≡ 1 → l ≡ x ∷ rest
    → AreRuns roots (giver from kind (x ∷ [])) end (pos 0) s
    → AreRuns roots (giver from kind (take count l)) end (pos 0) s
one_runs roots l rest kind from count end x s e f r =
    subst (λ m. AreRuns roots (giver from kind m) end (pos 0) s)
    (sym (ap (λ n. take n l) e ∙ ap (take 1) f)) r

pub half_runs : (roots : List (ItemOf Listed)) (kind : List ℕ) (from n m count : ℕ) (end : ℤ)
    (upper lower all : List Stretch) → count ≡ n + m → from + count ≤ length roots
    → AreRuns roots (giver from kind (take n (drop from roots))) end (pos 0) lower
    → AreRuns roots (giver (from + n) kind (take m (drop (from + n) roots))) end (pos 0) upper
    → ((l : List (ItemOf Listed)) (g h : ℤ → Option Giver) (end : ℤ) → AreRuns l g end (pos 0) upper
    → AreRuns l h end (pos 0) lower → AreRuns l (λ w. option_or (g w) (h w)) end (pos 0) all)
    → AreRuns roots (giver from kind (take count (drop from roots))) end (pos 0) all
half_runs roots kind from n m count end upper lower all e f a b merged =
    runs_as roots
    (λ w. option_or (giver (from + n) kind (take m (drop (from + n) roots)) w) (giver from kind (take n (drop from roots)) w))
    (giver from kind (take count (drop from roots))) end (pos 0) all
    (λ w. giver_halves roots kind from n m count w e (enough from n roots (omega (arith, e, f))))
    (merged roots (giver (from + n) kind (take m (drop (from + n) roots))) (giver from kind (take n (drop from roots))) end b a)
  where
    enough : (i k : ℕ) (l : List (ItemOf Listed)) → i + k ≤ length l → k ≤ length (drop i l)
    enough zero k l h = omega (arith, h)
    enough (suc i) k [] h = omega (arith, h)
    enough (suc i) k (x ∷ l) h = enough i k l (omega (arith, h))

pub all_runs : (roots : List (ItemOf Listed)) (kind : List ℕ) (count : ℕ) (end : ℤ) (s : List Stretch)
    → count ≡ length roots → AreRuns roots (giver 0 kind (take count (drop 0 roots))) end (pos 0) s
    → AreRuns roots (giver 0 kind roots) end (pos 0) s
all_runs roots kind count end s e r =
    subst (λ m. AreRuns roots (giver 0 kind m) end (pos 0) s)
    (ap (λ n. take n roots) e ∙ take_whole roots) r
  where
    take_whole : (l : List (ItemOf Listed)) → take (length l) l ≡ l
    take_whole [] = refl
    take_whole (x ∷ l) = ap (λ m. x ∷ m) (take_whole l)
