-- The numbers that are in both of two lists of runs.
use Rattle.std.proofs.Common.{◌≡◌, sym, subst, ◌∙◌, ℕ, ◌+◌, drop, length, get_or, ℤ, ◌<◌, ◌≤◌, ◌≤ℤ◌, ◌<ℤ◌, ◌⊎◌, inl, inr, ◌↔◌, List, [], ◌∷◌, ◌++◌, arith}
use Rattle.std.proofs.lemmas.List.{drop_all, drop_more}
use Rattle.std.proofs.lemmas.Int.{ints}
use Rattle.pull_list.specs.Runs.{AreApart, Each, EndsBefore, Has, IsGreater, IsLesser, IsOfRun, IsRun, IsWithin, Precedes}
use Rattle.pull_list.specs.declared.runs.Run.{Run}
use Rattle.pull_list.proofs.Merging.{has_append}

-- ---- two runs

pub overlap_has : (one other both : Run) (k : ℕ) (v : ℤ) → one.group ≡ other.group
    → both.group ≡ one.group → IsGreater one.first other.first both.first
    → IsLesser one.past other.past both.past
    → (IsOfRun one k v × IsOfRun other k v) ↔ IsOfRun both k v
overlap_has one other both k v same e f g = (
  λ h. (e ∙ h.0.0, later f h.0.1 h.1.1, earlier g h.0.2 h.1.2),
  λ h. let a = from f h.1 in let b = to g h.2 in
      ((sym e ∙ h.0, a.0, b.0), (sym same ∙ sym e ∙ h.0, a.1, b.1)),
)
  where
    later : IsGreater one.first other.first both.first → one.first ≤ℤ v → other.first ≤ℤ v
        → both.first ≤ℤ v
    later (inl p) a b = let q = p.0 in omega (arith, ints, q, a)
    later (inr p) a b = let q = p.0 in omega (arith, ints, q, b)

    earlier : IsLesser one.past other.past both.past → v <ℤ one.past → v <ℤ other.past
        → v <ℤ both.past
    earlier (inl p) a b = let q = p.0 in omega (arith, ints, q, a)
    earlier (inr p) a b = let q = p.0 in omega (arith, ints, q, b)

    from : IsGreater one.first other.first both.first → both.first ≤ℤ v
        → (one.first ≤ℤ v) × (other.first ≤ℤ v)
    from (inl p) a = let q = p.0 in let r = p.1 in
        (omega (arith, ints, q, a), omega (arith, ints, q, r, a))
    from (inr p) a = let q = p.0 in let r = p.1 in
        (omega (arith, ints, q, r, a), omega (arith, ints, q, a))

    to : IsLesser one.past other.past both.past → v <ℤ both.past
        → (v <ℤ one.past) × (v <ℤ other.past)
    to (inl p) a = let q = p.0 in let r = p.1 in
        (omega (arith, ints, q, a), omega (arith, ints, q, r, a))
    to (inr p) a = let q = p.0 in let r = p.1 in
        (omega (arith, ints, q, r, a), omega (arith, ints, q, a))

pub none_has : (one other : Run) (first past : ℤ) (k : ℕ) (v : ℤ)
    → IsGreater one.first other.first first → IsLesser one.past other.past past → past ≤ℤ first
    → (IsOfRun one k v × IsOfRun other k v) ↔ ⊥
none_has one other first past k v f g far = (λ h. by f g h.0.1 h.0.2 h.1.1 h.1.2, λ h. absurd h)
  where
    by : IsGreater one.first other.first first → IsLesser one.past other.past past
        → one.first ≤ℤ v → v <ℤ one.past → other.first ≤ℤ v → v <ℤ other.past → ⊥
    by (inl p) (inl q) a b c d = let m = p.0 in let n = q.0 in omega (arith, ints, far, m, n, a, b, c, d)
    by (inl p) (inr q) a b c d = let m = p.0 in let n = q.0 in omega (arith, ints, far, m, n, a, b, c, d)
    by (inr p) (inl q) a b c d = let m = p.0 in let n = q.0 in omega (arith, ints, far, m, n, a, b, c, d)
    by (inr p) (inr q) a b c d = let m = p.0 in let n = q.0 in omega (arith, ints, far, m, n, a, b, c, d)

pub apart_has : (one other : Run) (k : ℕ) (v : ℤ) → (one.group ≡ other.group → ⊥)
    → (IsOfRun one k v × IsOfRun other k v) ↔ ⊥
apart_has one other k v far = (λ h. far (h.0.0 ∙ sym h.1.0), λ h. absurd h)

-- ---- one run after another

-- the number lies after a run
IsPast : Run → ℕ → ℤ → Type 0
IsPast a k v = (a.group < k) ⊎ ((a.group ≡ k) × (a.past <ℤ v))

after : (a : Run) (rs : List Run) (k : ℕ) (v : ℤ) → Each (Precedes a) rs → Has rs k v → IsPast a k v
unfolding IsPast
after a [] k v p h = absurd h
after a (r ∷ rs) k v p (inl h) = by p.0
  where
    by : Precedes a r → (a.group < k) ⊎ ((a.group ≡ k) × (a.past <ℤ v))
    by (inl l) = let e = h.0 in inl (omega (arith, l, e))
    by (inr l) = let f = l.1 in let g = h.1 in inr (l.0 ∙ h.0, omega (arith, ints, f, g))
after a (r ∷ rs) k v p (inr h) = after a rs k v p.1 h

-- what ends before a run has no number after it
ends_first : (a b : Run) (k : ℕ) (v : ℤ) → EndsBefore a b → IsOfRun a k v → IsPast b k v → ⊥
unfolding IsPast
ends_first a b k v (inl l) h (inl j) = let e = h.0 in omega (arith, l, e, j)
ends_first a b k v (inl l) h (inr j) = let e = h.0 in let f = j.0 in omega (arith, l, e, f)
ends_first a b k v (inr l) h (inl j) = let e = h.0 in let f = l.0 in omega (arith, e, f, j)
ends_first a b k v (inr l) h (inr j) =
    let p = h.2 in let q = l.1 in let r = j.1 in omega (arith, ints, p, q, r)

ends_last : (a b : Run) (k : ℕ) (v : ℤ) → (EndsBefore a b → ⊥) → IsOfRun b k v → IsPast a k v → ⊥
unfolding IsPast
ends_last a b k v far h (inl j) = let e = h.0 in far (inl (omega (arith, e, j)))
ends_last a b k v far h (inr j) =
    let p = h.2 in let r = j.1 in far (inr (j.0 ∙ sym h.0, omega (arith, ints, p, r)))

pub meet_first : (a b : Run) (left right : List Run) (k : ℕ) (v : ℤ) → EndsBefore a b → AreApart (b ∷ right)
    → (Has (a ∷ left) k v × Has (b ∷ right) k v)
    ↔ ((IsOfRun a k v × IsOfRun b k v) ⊎ (Has left k v × Has (b ∷ right) k v))
meet_first a b left right k v ends apart = (λ h. there h.0 h.1, back)
  where
    there : IsOfRun a k v ⊎ Has left k v → IsOfRun b k v ⊎ Has right k v
        → (IsOfRun a k v × IsOfRun b k v) ⊎ (Has left k v × (IsOfRun b k v ⊎ Has right k v))
    there (inl h) (inl j) = inl (h, j)
    there (inl h) (inr j) = absurd (ends_first a b k v ends h (after b right k v apart.1 j))
    there (inr h) j = inr (h, j)

    back : (IsOfRun a k v × IsOfRun b k v) ⊎ (Has left k v × (IsOfRun b k v ⊎ Has right k v))
        → (IsOfRun a k v ⊎ Has left k v) × (IsOfRun b k v ⊎ Has right k v)
    back (inl h) = (inl h.0, inl h.1)
    back (inr h) = (inr h.0, h.1)

pub meet_last : (a b : Run) (left right : List Run) (k : ℕ) (v : ℤ) → (EndsBefore a b → ⊥)
    → AreApart (a ∷ left)
    → (Has (a ∷ left) k v × Has (b ∷ right) k v)
    ↔ ((IsOfRun a k v × IsOfRun b k v) ⊎ (Has (a ∷ left) k v × Has right k v))
meet_last a b left right k v far apart = (λ h. there h.0 h.1, back)
  where
    there : IsOfRun a k v ⊎ Has left k v → IsOfRun b k v ⊎ Has right k v
        → (IsOfRun a k v × IsOfRun b k v) ⊎ ((IsOfRun a k v ⊎ Has left k v) × Has right k v)
    there (inl h) (inl j) = inl (h, j)
    there (inr h) (inl j) = absurd (ends_last a b k v far j (after a left k v apart.1 h))
    there h (inr j) = inr (h, j)

    back : (IsOfRun a k v × IsOfRun b k v) ⊎ ((IsOfRun a k v ⊎ Has left k v) × Has right k v)
        → (IsOfRun a k v ⊎ Has left k v) × (IsOfRun b k v ⊎ Has right k v)
    back (inl h) = (inl h.0, inl h.1)
    back (inr h) = (h.0, inr h.1)

-- ---- the loop

-- the numbers that are in both are in these runs, or in what is left of both
pub record IsMeeting (one other both left right : List Run) : Type 0 where
  pub has : (k : ℕ) (v : ℤ)
      → (Has one k v × Has other k v) ↔ (Has both k v ⊎ (Has left k v × Has right k v))
  pub one_apart : AreApart left
  pub other_apart : AreApart right
  pub runs : Each IsRun both
  pub within : (n : ℕ) → Each (IsWithin n) one → Each (IsWithin n) both × Each (IsWithin n) left

pub meeting_begins : (one other both : List Run) → both ≡ [] → AreApart one → AreApart other
    → IsMeeting one other both one other
meeting_begins one other both e a b = subst (λ x. IsMeeting one other x one other) (sym e) (record {
  has = λ k v. (λ h. inr h, by k v);
  one_apart = a;
  other_apart = b;
  runs = tt;
  within = λ n h. (tt, h);
})
  where
    by : (k : ℕ) (v : ℤ) → ⊥ ⊎ (Has one k v × Has other k v) → Has one k v × Has other k v
    by k v (inl h) = absurd h
    by k v (inr h) = h

-- what a pair of runs has goes over to the runs that were found
moved : {A B C D E F : Type 0} → A ↔ (B ⊎ C) → C ↔ (D ⊎ E) → F ↔ (B ⊎ D) → A ↔ (F ⊎ E)
moved {A} {B} {C} {D} {E} {F} p q r = (λ h. there (p.0 h), back)
  where
    on : D ⊎ E → F ⊎ E
    on (inl d) = inl (r.1 (inr d))
    on (inr e) = inr e

    there : B ⊎ C → F ⊎ E
    there (inl b) = inl (r.1 (inl b))
    there (inr c) = on (q.0 c)

    from : B ⊎ D → A
    from (inl b) = p.1 (inl b)
    from (inr d) = p.1 (inr (q.1 (inl d)))

    back : F ⊎ E → A
    back (inl f) = from (r.0 f)
    back (inr e) = p.1 (inr (q.1 (inr e)))

-- what adding the overlap of two runs does
pub record IsAdded (a b : Run) (old new : List Run) : Type 0 where
  pub has : (k : ℕ) (v : ℤ) → Has new k v ↔ (Has old k v ⊎ (IsOfRun a k v × IsOfRun b k v))
  pub runs : Each IsRun old → Each IsRun new
  pub within : (n : ℕ) → IsWithin n a → Each (IsWithin n) old → Each (IsWithin n) new

pub meeting_first : (one other both more : List Run) (a b : Run) (left right : List Run)
    → IsMeeting one other both (a ∷ left) (b ∷ right) → EndsBefore a b → IsAdded a b both more
    → IsMeeting one other more left (b ∷ right)
meeting_first one other both more a b left right m ends added = record {
  has = λ k v. moved (m.has k v) (meet_first a b left right k v ends m.other_apart) (added.has k v);
  one_apart = m.one_apart.2;
  other_apart = m.other_apart;
  runs = added.runs m.runs;
  within = λ n h. let w = m.within n h in (added.within n w.1.0 w.0, w.1.1);
}

pub meeting_last : (one other both more : List Run) (a b : Run) (left right : List Run)
    → IsMeeting one other both (a ∷ left) (b ∷ right) → (EndsBefore a b → ⊥) → IsAdded a b both more
    → IsMeeting one other more (a ∷ left) right
meeting_last one other both more a b left right m far added = record {
  has = λ k v. moved (m.has k v) (meet_last a b left right k v far m.one_apart) (added.has k v);
  one_apart = m.one_apart;
  other_apart = m.other_apart.2;
  runs = added.runs m.runs;
  within = λ n h. let w = m.within n h in (added.within n w.1.0 w.0, w.1);
}

-- nothing is left of one of both
pub meeting_ends : (one other both left right : List Run) → IsMeeting one other both left right
    → (left ≡ []) ⊎ (right ≡ [])
    → (k : ℕ) (v : ℤ) → Has both k v ↔ (Has one k v × Has other k v)
meeting_ends one other both left right m e k v = (λ h. (m.has k v).1 (inl h), λ h. by ((m.has k v).0 h))
  where
    by : Has both k v ⊎ (Has left k v × Has right k v) → Has both k v
    by (inl h) = h
    by (inr h) = gone e
      where
        gone : (left ≡ []) ⊎ (right ≡ []) → Has both k v
        gone (inl f) = absurd (subst (λ x. Has x k v) f h.0)
        gone (inr f) = absurd (subst (λ x. Has x k v) f h.1)

-- ---- the same, by what the loop has

pub first_at : (one other both more : List Run) (i j : ℕ) (d e : Run) → i < length one
    → j < length other → IsMeeting one other both (drop i one) (drop j other)
    → EndsBefore (get_or one i d) (get_or other j e)
    → IsAdded (get_or one i d) (get_or other j e) both more
    → IsMeeting one other more (drop (i + 1) one) (drop j other)
first_at one other both more i j d e l k m ends added =
    subst (λ x. IsMeeting one other more (drop (i + 1) one) x) (sym (drop_more other j e k))
    (meeting_first one other both more (get_or one i d) (get_or other j e) (drop (i + 1) one)
    (drop (j + 1) other)
    (subst (λ x. IsMeeting one other both x (get_or other j e ∷ drop (j + 1) other)) (drop_more one i d l)
    (subst (λ x. IsMeeting one other both (drop i one) x) (drop_more other j e k) m)) ends added)

pub last_at : (one other both more : List Run) (i j : ℕ) (d e : Run) → i < length one
    → j < length other → IsMeeting one other both (drop i one) (drop j other)
    → (EndsBefore (get_or one i d) (get_or other j e) → ⊥)
    → IsAdded (get_or one i d) (get_or other j e) both more
    → IsMeeting one other more (drop i one) (drop (j + 1) other)
last_at one other both more i j d e l k m far added =
    subst (λ x. IsMeeting one other more x (drop (j + 1) other)) (sym (drop_more one i d l))
    (meeting_last one other both more (get_or one i d) (get_or other j e) (drop (i + 1) one)
    (drop (j + 1) other)
    (subst (λ x. IsMeeting one other both x (get_or other j e ∷ drop (j + 1) other)) (drop_more one i d l)
    (subst (λ x. IsMeeting one other both (drop i one) x) (drop_more other j e k) m)) far added)

pub left_of_one : (one other both : List Run) (i j : ℕ) → IsMeeting one other both (drop i one) (drop j other)
    → length one ≤ i → (k : ℕ) (v : ℤ) → Has both k v ↔ (Has one k v × Has other k v)
left_of_one one other both i j m le = meeting_ends one other both (drop i one) (drop j other) m
    (inl (drop_all i one le))

pub left_of_other : (one other both : List Run) (i j : ℕ) → IsMeeting one other both (drop i one) (drop j other)
    → length other ≤ j → (k : ℕ) (v : ℤ) → Has both k v ↔ (Has one k v × Has other k v)
left_of_other one other both i j m le = meeting_ends one other both (drop i one) (drop j other) m
    (inr (drop_all j other le))

-- ---- adding the overlap of two runs

pub added_some : (old new : List Run) (run one other : Run) → new ≡ old ++ run ∷ []
    → ((k : ℕ) (v : ℤ) → (IsOfRun one k v × IsOfRun other k v) ↔ IsOfRun run k v)
    → (k : ℕ) (v : ℤ) → Has new k v ↔ (Has old k v ⊎ (IsOfRun one k v × IsOfRun other k v))
added_some old new run one other e same k v =
    subst (λ x. Has x k v ↔ (Has old k v ⊎ (IsOfRun one k v × IsOfRun other k v))) (sym e)
    (λ h. there ((has_append old (run ∷ []) k v).0 h), back)
  where
    there : Has old k v ⊎ (IsOfRun run k v ⊎ ⊥)
        → Has old k v ⊎ (IsOfRun one k v × IsOfRun other k v)
    there (inl h) = inl h
    there (inr (inl h)) = inr ((same k v).1 h)
    there (inr (inr h)) = absurd h

    back : Has old k v ⊎ (IsOfRun one k v × IsOfRun other k v) → Has (old ++ run ∷ []) k v
    back (inl h) = (has_append old (run ∷ []) k v).1 (inl h)
    back (inr h) = (has_append old (run ∷ []) k v).1 (inr (inl ((same k v).0 h)))

pub added_none : (old : List Run) (one other : Run)
    → ((k : ℕ) (v : ℤ) → (IsOfRun one k v × IsOfRun other k v) ↔ ⊥)
    → (k : ℕ) (v : ℤ) → Has old k v ↔ (Has old k v ⊎ (IsOfRun one k v × IsOfRun other k v))
added_none old one other far k v = (λ h. inl h, by)
  where
    by : Has old k v ⊎ (IsOfRun one k v × IsOfRun other k v) → Has old k v
    by (inl h) = h
    by (inr h) = absurd ((far k v).0 h)
