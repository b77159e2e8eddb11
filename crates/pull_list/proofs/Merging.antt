-- How sorted runs are merged.
use Rattle.std.proofs.lemmas.List.{drop_more}
use Rattle.std.proofs.Common.{◌≡◌, sym, subst, ◌∙◌, ℕ, ◌+◌, drop, length, get_or, ℤ, pos, ◌<◌, ◌≤ℤ◌, ◌<ℤ◌, ◌⊎◌, inl, inr, ◌↔◌, List, [], ◌∷◌, ◌++◌, arith}
use Rattle.std.proofs.lemmas.Int.{ints, by_lt_z}
use Rattle.pull_list.specs.Runs.{AreApart, AreSorted, Each, Has, IsOfRun, IsRun, IsWithin, Precedes, StartsBy}
use Rattle.pull_list.specs.declared.runs.Run.{Run}

-- ---- lists in two parts

pub has_append : (xs ys : List Run) (k : ℕ) (v : ℤ) → Has (xs ++ ys) k v ↔ (Has xs k v ⊎ Has ys k v)
has_append [] ys k v = (λ h. inr h, λ h. only h)
  where
    only : ⊥ ⊎ Has ys k v → Has ys k v
    only (inl h) = absurd h
    only (inr h) = h
has_append (x ∷ xs) ys k v =
    let more = has_append xs ys k v in
    (λ h. there h more.0, λ h. back h more.1)
  where
    there : IsOfRun x k v ⊎ Has (xs ++ ys) k v → (Has (xs ++ ys) k v → Has xs k v ⊎ Has ys k v)
        → (IsOfRun x k v ⊎ Has xs k v) ⊎ Has ys k v
    there (inl h) f = inl (inl h)
    there (inr h) f = by (f h)
      where
        by : Has xs k v ⊎ Has ys k v → (IsOfRun x k v ⊎ Has xs k v) ⊎ Has ys k v
        by (inl j) = inl (inr j)
        by (inr j) = inr j

    back : (IsOfRun x k v ⊎ Has xs k v) ⊎ Has ys k v
        → (Has xs k v ⊎ Has ys k v → Has (xs ++ ys) k v) → IsOfRun x k v ⊎ Has (xs ++ ys) k v
    back (inl (inl h)) f = inl h
    back (inl (inr h)) f = inr (f (inl h))
    back (inr h) f = inr (f (inr h))

pub each_append : (P : Run → Type 0) (xs ys : List Run) → Each P xs → Each P ys → Each P (xs ++ ys)
each_append P [] ys h j = j
each_append P (x ∷ xs) ys h j = (h.0, each_append P xs ys h.1 j)

pub each_front : (P : Run → Type 0) (xs ys : List Run) → Each P (xs ++ ys) → Each P xs
each_front P [] ys h = tt
each_front P (x ∷ xs) ys h = (h.0, each_front P xs ys h.1)

pub each_back : (P : Run → Type 0) (xs ys : List Run) → Each P (xs ++ ys) → Each P ys
each_back P [] ys h = h
each_back P (x ∷ xs) ys h = each_back P xs ys h.1

pub each_map : (P Q : Run → Type 0) (xs : List Run) → ((r : Run) → P r → Q r) → Each P xs → Each Q xs
each_map P Q [] f h = tt
each_map P Q (x ∷ xs) f h = (f x h.0, each_map P Q xs f h.1)

-- ---- the last run

-- a run ends before another that starts no earlier than one that it ends before
precedes_later : (a b c : Run) → Precedes a b → StartsBy b c → Precedes a c
precedes_later a b c (inl h) (inl j) = inl (omega (arith, h, j))
precedes_later a b c (inl h) (inr j) = inl (omega (arith, h, j.0))
precedes_later a b c (inr h) (inl j) = inl (omega (arith, h.0, j))
precedes_later a b c (inr h) (inr j) =
    let f = h.1 in let g = j.1 in inr (h.0 ∙ j.0, omega (arith, ints, f, g))

-- the last run of some is replaced by one that starts no earlier
apart_last : (done : List Run) (last next : Run) → AreApart (done ++ last ∷ []) → StartsBy last next
    → IsRun next → AreApart (done ++ next ∷ [])
apart_last [] last next h s r = (r, tt, tt)
apart_last (x ∷ done) last next h s r =
    let front = each_front (Precedes x) done (last ∷ []) h.1 in
    let back = each_back (Precedes x) done (last ∷ []) h.1 in (
      h.0,
      each_append (Precedes x) done (next ∷ []) front (precedes_later x last next back.0 s, tt),
      apart_last done last next h.2 s r,
    )

-- one more run after the last
apart_more : (done : List Run) (last next : Run) → AreApart (done ++ last ∷ []) → Precedes last next
    → StartsBy last next → IsRun next → AreApart ((done ++ last ∷ []) ++ next ∷ [])
apart_more [] last next h p s r = (h.0, (p, tt), (r, tt, tt))
apart_more (x ∷ done) last next h p s r =
    let back = each_back (Precedes x) done (last ∷ []) h.1 in (
      h.0,
      each_append (Precedes x) (done ++ last ∷ []) (next ∷ []) h.1
          (precedes_later x last next back.0 s, tt),
      apart_more done last next h.2 p s r,
    )

-- ---- the loop

-- these runs have the numbers of those that are done, of the last one and of the rest
pub record IsMerging (all done : List Run) (last : Run) (rest : List Run) : Type 0 where
  pub has : (k : ℕ) (v : ℤ) → Has all k v ↔ (Has (done ++ last ∷ []) k v ⊎ Has rest k v)
  pub apart : AreApart (done ++ last ∷ [])
  pub sorted : AreSorted (last ∷ rest)
  pub runs : Each IsRun rest
  pub within : (n : ℕ) → Each (IsWithin n) all
      → Each (IsWithin n) (done ++ last ∷ []) × Each (IsWithin n) rest

pub merging_begins : (last : Run) (rest done : List Run) → done ≡ [] → Each IsRun (last ∷ rest)
    → AreSorted (last ∷ rest) → IsMerging (last ∷ rest) done last rest
merging_begins last rest done e runs sorted = subst (λ d. IsMerging (last ∷ rest) d last rest) (sym e)
    (record {
      has = λ k v. (there k v, back k v);
      apart = (runs.0, tt, tt);
      sorted = sorted;
      runs = runs.1;
      within = λ n h. ((h.0, tt), h.1);
    })
  where
    there : (k : ℕ) (v : ℤ) → IsOfRun last k v ⊎ Has rest k v
        → (IsOfRun last k v ⊎ ⊥) ⊎ Has rest k v
    there k v (inl h) = inl (inl h)
    there k v (inr h) = inr h

    back : (k : ℕ) (v : ℤ) → (IsOfRun last k v ⊎ ⊥) ⊎ Has rest k v
        → IsOfRun last k v ⊎ Has rest k v
    back k v (inl (inl h)) = inl h
    back k v (inl (inr h)) = absurd h
    back k v (inr h) = inr h

-- what has a number of one of two lists or of a run
abbrev Or : (A B C : Type 0) → Type 0
Or A B C = (A ⊎ B) ⊎ C

-- the next run, where it neither meets nor touches the last
pub merging_next : (all done : List Run) (last next : Run) (rest : List Run)
    → IsMerging all done last (next ∷ rest)
    → ((last.group ≡ next.group) × (next.first ≤ℤ last.past) → ⊥)
    → IsMerging all (done ++ last ∷ []) next rest
merging_next all done last next rest m apart = record {
  has = λ k v. (
    λ h. there k v ((m.has k v).0 h),
    λ h. (m.has k v).1 (back k v h),
  );
  apart = apart_more done last next m.apart (ends last next starts apart) starts m.runs.0;
  sorted = m.sorted.1;
  runs = m.runs.1;
  within = λ n h. let w = m.within n h in
      (each_append (IsWithin n) (done ++ last ∷ []) (next ∷ []) w.0 (w.1.0, tt), w.1.1);
}
  where
    starts : StartsBy last next
    starts = m.sorted.0.0

    ends : (a b : Run) → StartsBy a b → ((a.group ≡ b.group) × (b.first ≤ℤ a.past) → ⊥) → Precedes a b
    ends a b (inl h) other = inl h
    ends a b (inr h) other = inr (h.0, past (λ le. other (h.0, le)))
      where
        past : (b.first ≤ℤ a.past → ⊥) → a.past <ℤ b.first
        past far = by_lt_z a.past b.first (λ h. h) (λ le. absurd (far le))

    there : (k : ℕ) (v : ℤ) → Has (done ++ last ∷ []) k v ⊎ (IsOfRun next k v ⊎ Has rest k v)
        → Has ((done ++ last ∷ []) ++ next ∷ []) k v ⊎ Has rest k v
    there k v (inl h) = inl ((has_append (done ++ last ∷ []) (next ∷ []) k v).1 (inl h))
    there k v (inr (inl h)) = inl ((has_append (done ++ last ∷ []) (next ∷ []) k v).1 (inr (inl h)))
    there k v (inr (inr h)) = inr h

    back : (k : ℕ) (v : ℤ) → Has ((done ++ last ∷ []) ++ next ∷ []) k v ⊎ Has rest k v
        → Has (done ++ last ∷ []) k v ⊎ (IsOfRun next k v ⊎ Has rest k v)
    back k v (inl h) = by ((has_append (done ++ last ∷ []) (next ∷ []) k v).0 h)
      where
        by : Has (done ++ last ∷ []) k v ⊎ (IsOfRun next k v ⊎ ⊥)
            → Has (done ++ last ∷ []) k v ⊎ (IsOfRun next k v ⊎ Has rest k v)
        by (inl j) = inl j
        by (inr (inl j)) = inr (inl j)
        by (inr (inr j)) = absurd j
    back k v (inr h) = inr (inr h)

-- the run of the last one and of the next, where they meet or touch
abbrev pub IsJoined : Run → Run → Run → Type 0
IsJoined one other both = (both.group ≡ one.group) × (both.first ≡ one.first)
    × ((both.past ≡ one.past) × (other.past ≤ℤ one.past)
    ⊎ ((both.past ≡ other.past) × (one.past ≤ℤ other.past)))

pub joined_has : (one other both : Run) (k : ℕ) (v : ℤ) → IsJoined one other both → one.group ≡ other.group
    → one.first ≤ℤ other.first → other.first ≤ℤ one.past
    → IsOfRun both k v ↔ (IsOfRun one k v ⊎ IsOfRun other k v)
joined_has one other both k v j same starts meets = (there, back)
  where
    side : (v <ℤ one.past) ⊎ (one.past ≤ℤ v)
    side = by_lt_z v one.past inl inr

    there : IsOfRun both k v → IsOfRun one k v ⊎ IsOfRun other k v
    there h = by side j.2
      where
        by : (v <ℤ one.past) ⊎ (one.past ≤ℤ v)
            → ((both.past ≡ one.past) × (other.past ≤ℤ one.past))
            ⊎ ((both.past ≡ other.past) × (one.past ≤ℤ other.past))
            → IsOfRun one k v ⊎ IsOfRun other k v
        by (inl a) p = let f = h.1 in let g = j.1 in inl (sym j.0 ∙ h.0, omega (arith, ints, f, g), a)
        by (inr a) (inl p) = let b = h.2 in let d = p.0 in absurd (omega (arith, ints, a, b, d))
        by (inr a) (inr p) = let b = h.2 in let d = p.0 in
            inr (sym same ∙ sym j.0 ∙ h.0, omega (arith, ints, a, meets), omega (arith, ints, b, d))

    back : IsOfRun one k v ⊎ IsOfRun other k v → IsOfRun both k v
    back h = by h j.2
      where
        by : IsOfRun one k v ⊎ IsOfRun other k v
            → ((both.past ≡ one.past) × (other.past ≤ℤ one.past))
            ⊎ ((both.past ≡ other.past) × (one.past ≤ℤ other.past)) → IsOfRun both k v
        by (inl h) (inl p) = let a = h.1 in let b = h.2 in let d = p.0 in let f = j.1 in
            (j.0 ∙ h.0, omega (arith, ints, a, f), omega (arith, ints, b, d))
        by (inl h) (inr p) = let a = h.1 in let b = h.2 in let d = p.0 in let e = p.1 in let f = j.1 in
            (j.0 ∙ h.0, omega (arith, ints, a, f), omega (arith, ints, b, d, e))
        by (inr h) (inl p) = let a = h.1 in let b = h.2 in let d = p.0 in let e = p.1 in let f = j.1 in
            (j.0 ∙ same ∙ h.0, omega (arith, ints, a, f, starts), omega (arith, ints, b, d, e))
        by (inr h) (inr p) = let a = h.1 in let b = h.2 in let d = p.0 in let f = j.1 in
            (j.0 ∙ same ∙ h.0, omega (arith, ints, a, f, starts), omega (arith, ints, b, d))

starts_same : (a b c : Run) → c.group ≡ a.group → c.first ≡ a.first → StartsBy a b → StartsBy c b
starts_same a b c e f (inl h) = inl (omega (arith, e, h))
starts_same a b c e f (inr h) = let g = h.1 in inr (e ∙ h.0, omega (arith, ints, f, g))

starts_trans : (a b c : Run) → StartsBy a b → StartsBy b c → StartsBy a c
starts_trans a b c (inl h) (inl j) = inl (omega (arith, h, j))
starts_trans a b c (inl h) (inr j) = let g = j.0 in inl (omega (arith, h, g))
starts_trans a b c (inr h) (inl j) = let g = h.0 in inl (omega (arith, j, g))
starts_trans a b c (inr h) (inr j) =
    let f = h.1 in let g = j.1 in inr (h.0 ∙ j.0, omega (arith, ints, f, g))

pub within_joined : (n : ℕ) (one other both : Run) → IsJoined one other both → IsWithin n one
    → IsWithin n other → IsWithin n both
within_joined n one other both j a b =
    let low = a.0 in let f = j.1 in (omega (arith, ints, low, f), by j.2)
  where
    by : ((both.past ≡ one.past) × (other.past ≤ℤ one.past))
        ⊎ ((both.past ≡ other.past) × (one.past ≤ℤ other.past)) → both.past ≤ℤ pos n
    by (inl p) = let d = p.0 in let e = a.1 in omega (arith, ints, d, e)
    by (inr p) = let d = p.0 in let e = b.1 in omega (arith, ints, d, e)

pub run_joined : (one other both : Run) → IsJoined one other both → IsRun one → IsRun both
run_joined one other both j a = by j.2
  where
    by : ((both.past ≡ one.past) × (other.past ≤ℤ one.past))
        ⊎ ((both.past ≡ other.past) × (one.past ≤ℤ other.past)) → both.first <ℤ both.past
    by (inl p) = let d = p.0 in let f = j.1 in omega (arith, ints, d, f, a)
    by (inr p) = let d = p.0 in let e = p.1 in let f = j.1 in omega (arith, ints, d, e, f, a)

-- the last of some runs
last_is_run : (done : List Run) (last : Run) → AreApart (done ++ last ∷ []) → IsRun last
last_is_run [] last h = h.0
last_is_run (x ∷ done) last h = last_is_run done last h.2

-- the next run, where it meets or touches the last
pub merging_joins : (all done : List Run) (last next both : Run) (rest : List Run)
    → IsMerging all done last (next ∷ rest) → last.group ≡ next.group → next.first ≤ℤ last.past
    → both.group ≡ last.group → both.first ≡ last.first
    → ((both.past ≡ last.past) × (next.past ≤ℤ last.past))
    ⊎ ((both.past ≡ next.past) × (last.past ≤ℤ next.past))
    → IsMerging all done both rest
merging_joins all done last next both rest m same meets e f p = record {
  has = λ k v. (
    λ h. there k v ((m.has k v).0 h),
    λ h. (m.has k v).1 (back k v h),
  );
  apart = apart_last done last both m.apart (inr (sym e, omega (arith, ints, f)))
      (run_joined last next both (e, f, p) (last_is_run done last m.apart));
  sorted = (
    each_map (StartsBy last) (StartsBy both) rest (λ r h. starts_same last r both e f h) m.sorted.0.1,
    m.sorted.1.1,
  );
  runs = m.runs.1;
  within = λ n h. let w = m.within n h in (
    each_append (IsWithin n) done (both ∷ []) (each_front (IsWithin n) done (last ∷ []) w.0)
        (within_joined n last next both (e, f, p) (each_back (IsWithin n) done (last ∷ []) w.0).0 w.1.0, tt),
    w.1.1,
  );
}
  where
    first : StartsBy last next → last.first ≤ℤ next.first
    first (inl h) = absurd (omega (arith, h, same))
    first (inr h) = h.1

    of_both : (k : ℕ) (v : ℤ) → IsOfRun both k v ↔ (IsOfRun last k v ⊎ IsOfRun next k v)
    of_both k v = joined_has last next both k v (e, f, p) same (first m.sorted.0.0) meets

    there : (k : ℕ) (v : ℤ) → Has (done ++ last ∷ []) k v ⊎ (IsOfRun next k v ⊎ Has rest k v)
        → Has (done ++ both ∷ []) k v ⊎ Has rest k v
    there k v (inr (inr h)) = inr h
    there k v (inr (inl h)) = inl ((has_append done (both ∷ []) k v).1 (inr (inl ((of_both k v).1 (inr h)))))
    there k v (inl h) = by ((has_append done (last ∷ []) k v).0 h)
      where
        by : Has done k v ⊎ (IsOfRun last k v ⊎ ⊥) → Has (done ++ both ∷ []) k v ⊎ Has rest k v
        by (inl j) = inl ((has_append done (both ∷ []) k v).1 (inl j))
        by (inr (inl j)) = inl ((has_append done (both ∷ []) k v).1 (inr (inl ((of_both k v).1 (inl j)))))
        by (inr (inr j)) = absurd j

    back : (k : ℕ) (v : ℤ) → Has (done ++ both ∷ []) k v ⊎ Has rest k v
        → Has (done ++ last ∷ []) k v ⊎ (IsOfRun next k v ⊎ Has rest k v)
    back k v (inr h) = inr (inr h)
    back k v (inl h) = by ((has_append done (both ∷ []) k v).0 h)
      where
        one : IsOfRun last k v ⊎ IsOfRun next k v
            → Has (done ++ last ∷ []) k v ⊎ (IsOfRun next k v ⊎ Has rest k v)
        one (inl j) = inl ((has_append done (last ∷ []) k v).1 (inr (inl j)))
        one (inr j) = inr (inl j)

        by : Has done k v ⊎ (IsOfRun both k v ⊎ ⊥)
            → Has (done ++ last ∷ []) k v ⊎ (IsOfRun next k v ⊎ Has rest k v)
        by (inl j) = inl ((has_append done (last ∷ []) k v).1 (inl j))
        by (inr (inl j)) = one ((of_both k v).0 j)
        by (inr (inr j)) = absurd j

pub merging_ends : (all done : List Run) (last : Run) → IsMerging all done last []
    → (k : ℕ) (v : ℤ) → Has (done ++ last ∷ []) k v ↔ Has all k v
merging_ends all done last m k v = (λ h. (m.has k v).1 (inl h), λ h. by ((m.has k v).0 h))
  where
    by : Has (done ++ last ∷ []) k v ⊎ ⊥ → Has (done ++ last ∷ []) k v
    by (inl h) = h
    by (inr h) = absurd h

-- ---- the same, by what the loop has

pub next_at : (all done done' more : List Run) (last last' : Run) (i : ℕ) (d : Run) → i < length more
    → IsMerging all done last (drop i more)
    → ((last.group ≡ (get_or more i d).group) × ((get_or more i d).first ≤ℤ last.past) → ⊥)
    → done' ≡ done ++ last ∷ [] → last' ≡ get_or more i d
    → IsMerging all done' last' (drop (i + 1) more)
next_at all done done' more last last' i d lt m apart e f =
    subst (λ x. IsMerging all done' x (drop (i + 1) more)) (sym f)
    (subst (λ x. IsMerging all x (get_or more i d) (drop (i + 1) more)) (sym e)
    (merging_next all done last (get_or more i d) (drop (i + 1) more)
    (subst (λ x. IsMerging all done last x) (drop_more more i d lt) m) apart))

pub join_at : (all done done' more : List Run) (last last' both : Run) (i : ℕ) (d : Run)
    → i < length more → IsMerging all done last (drop i more)
    → (last.group ≡ (get_or more i d).group) × ((get_or more i d).first ≤ℤ last.past)
    → both.group ≡ last.group → both.first ≡ last.first
    → ((both.past ≡ last.past) × ((get_or more i d).past ≤ℤ last.past))
    ⊎ ((both.past ≡ (get_or more i d).past) × (last.past ≤ℤ (get_or more i d).past))
    → done' ≡ done → last' ≡ both
    → IsMerging all done' last' (drop (i + 1) more)
join_at all done done' more last last' both i d lt m met e f p g h =
    subst (λ x. IsMerging all done' x (drop (i + 1) more)) (sym h)
    (subst (λ x. IsMerging all x both (drop (i + 1) more)) (sym g)
    (merging_joins all done last (get_or more i d) both (drop (i + 1) more)
    (subst (λ x. IsMerging all done last x) (drop_more more i d lt) m) met.0 met.1 e f p))
