-- Runs that are added one by one.
use Rattle.std.proofs.Common.{◌≡◌, sym, subst, ◌∙◌, ℕ, zero, suc, ◌+◌, ◌<◌, ◌≤◌, drop, length, get_or, ℤ, ◌≤ℤ◌, ◌⊎◌, inl, inr, ◌↔◌, List, [], ◌∷◌, ◌++◌, arith}
use Rattle.std.proofs.lemmas.List.{drop_all, drop_more}
use Rattle.std.proofs.lemmas.Int.{ints}
use Rattle.pull_list.specs.Runs.{AreApart, Each, Has, IsGreater, IsOfRun, IsRun, IsWithin, Precedes, Puts}
use Rattle.pull_list.specs.declared.runs.Run.{Run}
use Rattle.pull_list.proofs.Merging.{each_append, each_back, each_front, each_map, has_append, joined_has, run_joined, within_joined}

-- ---- one run

one_alone : (r : Run) (k : ℕ) (v : ℤ) → Has (r ∷ []) k v ↔ IsOfRun r k v
one_alone r k v = (by, λ h. inl h)
  where
    by : IsOfRun r k v ⊎ ⊥ → IsOfRun r k v
    by (inl h) = h
    by (inr h) = absurd h

either : {A B C D : Type 0} → (A → C) → (B → D) → A ⊎ B → C ⊎ D
either f g (inl a) = inl (f a)
either f g (inr b) = inr (g b)

last_has : (front : List Run) (r : Run) (k : ℕ) (v : ℤ)
    → Has (front ++ r ∷ []) k v ↔ (Has front k v ⊎ IsOfRun r k v)
last_has front r k v = (
  λ h. either (λ a. a) (one_alone r k v).0 ((has_append front (r ∷ []) k v).0 h),
  λ h. (has_append front (r ∷ []) k v).1 (either (λ a. a) (one_alone r k v).1 h),
)

after_last : (old : List Run) (r : Run) → Puts old (old ++ r ∷ []) r
after_last old r = record {
  has = last_has old r;
  runs = λ h j. each_append IsRun old (r ∷ []) j (h, tt);
  within = λ n h j. each_append (IsWithin n) old (r ∷ []) j (h, tt);
}

pub puts_after : (old new : List Run) (r : Run) → new ≡ old ++ r ∷ [] → Puts old new r
puts_after old new r e = subst (λ x. Puts old x r) (sym e) (after_last old r)

-- one that meets the last or begins at its end
to_last : (front : List Run) (last r both : Run) → both.group ≡ last.group
    → both.first ≡ last.first → IsGreater last.past r.past both.past
    → (last.group ≡ r.group) × (last.first ≤ℤ r.first) × (r.first ≤ℤ last.past)
    → Puts (front ++ last ∷ []) (front ++ both ∷ []) r
to_last front last r both g f p c = record {
  has = λ k v. (λ h. there k v ((last_has front both k v).0 h), λ h. back k v h);
  runs = λ h j. each_append IsRun front (both ∷ []) (each_front IsRun front (last ∷ []) j)
      (run_joined last r both (g, f, p) (each_back IsRun front (last ∷ []) j).0, tt);
  within = λ n h j.
      each_append (IsWithin n) front (both ∷ []) (each_front (IsWithin n) front (last ∷ []) j)
      (within_joined n last r both (g, f, p) (each_back (IsWithin n) front (last ∷ []) j).0 h, tt);
}
  where
    is : (k : ℕ) (v : ℤ) → IsOfRun both k v ↔ (IsOfRun last k v ⊎ IsOfRun r k v)
    is k v = joined_has last r both k v (g, f, p) c.0 c.1 c.2

    there : (k : ℕ) (v : ℤ) → Has front k v ⊎ IsOfRun both k v
        → Has (front ++ last ∷ []) k v ⊎ IsOfRun r k v
    there k v (inl h) = inl ((last_has front last k v).1 (inl h))
    there k v (inr h) = either (λ a. (last_has front last k v).1 (inr a)) (λ b. b) ((is k v).0 h)

    back : (k : ℕ) (v : ℤ) → Has (front ++ last ∷ []) k v ⊎ IsOfRun r k v
        → Has (front ++ both ∷ []) k v
    back k v (inr h) = (last_has front both k v).1 (inr ((is k v).1 (inr h)))
    back k v (inl h) = (last_has front both k v).1
        (either (λ a. a) (λ b. (is k v).1 (inl b)) ((last_has front last k v).0 h))

pub puts_joined : (front new : List Run) (last r both : Run) → new ≡ front ++ both ∷ []
    → both.group ≡ last.group → both.first ≡ last.first → IsGreater last.past r.past both.past
    → (last.group ≡ r.group) × (last.first ≤ℤ r.first) × (r.first ≤ℤ last.past)
    → Puts (front ++ last ∷ []) new r
puts_joined front new last r both e g f p c =
    subst (λ x. Puts (front ++ last ∷ []) x r) (sym e) (to_last front last r both g f p c)

-- one of which all numbers are there
pub puts_covered : (old : List Run) (r : Run) → ((k : ℕ) (v : ℤ) → IsOfRun r k v → Has old k v)
    → Puts old old r
puts_covered old r c = record {
  has = λ k v. (λ h. inl h, by k v);
  runs = λ h j. j;
  within = λ n h j. j;
}
  where
    by : (k : ℕ) (v : ℤ) → Has old k v ⊎ IsOfRun r k v → Has old k v
    by k v (inl h) = h
    by k v (inr h) = c k v h

pub covered_by : (one other : Run) (k : ℕ) (v : ℤ)
    → (one.group ≡ other.group) × (one.first ≤ℤ other.first) × (other.past ≤ℤ one.past)
    → IsOfRun other k v → IsOfRun one k v
covered_by one other k v c h =
    let a = c.1 in let b = c.2 in let d = h.1 in let e = h.2 in
    (c.0 ∙ h.0, omega (arith, ints, a, d), omega (arith, ints, b, e))

pub has_at : (rs : List Run) (i : ℕ) (r : Run) (k : ℕ) (v : ℤ) → i < length rs
    → r ≡ get_or rs i r → IsOfRun r k v → Has rs k v
has_at [] i r k v lt e h = absurd (omega (arith, lt))
has_at (x ∷ rs) zero r k v lt e h = inl (subst (λ y. IsOfRun y k v) e h)
has_at (x ∷ rs) (suc i) r k v lt e h = inr (has_at rs i r k v (omega (arith, lt)) e h)

-- ---- more runs

-- the runs so far and those that are left have the numbers of all
pub record IsAdding (runs all more rest : List Run) : Type 0 where
  pub has : (k : ℕ) (v : ℤ) → (Has all k v ⊎ Has rest k v) ↔ (Has runs k v ⊎ Has more k v)
  pub are_runs : Each IsRun runs → Each IsRun more → Each IsRun all × Each IsRun rest
  pub within : (n : ℕ) → Each (IsWithin n) runs → Each (IsWithin n) more
      → Each (IsWithin n) all × Each (IsWithin n) rest

pub adding_begins : (runs more : List Run) → IsAdding runs runs more more
adding_begins runs more = record {
  has = λ k v. (λ h. h, λ h. h);
  are_runs = λ a b. (a, b);
  within = λ n a b. (a, b);
}

adding_next : (runs all new more rest : List Run) (r : Run) → IsAdding runs all more (r ∷ rest)
    → Puts all new r → IsAdding runs new more rest
adding_next runs all new more rest r a p = record {
  has = λ k v. (λ h. (a.has k v).0 (there k v h), λ h. back k v ((a.has k v).1 h));
  are_runs = λ h j. let b = a.are_runs h j in (p.runs b.1.0 b.0, b.1.1);
  within = λ n h j. let b = a.within n h j in (p.within n b.1.0 b.0, b.1.1);
}
  where
    split : (k : ℕ) (v : ℤ) → Has all k v ⊎ IsOfRun r k v
        → Has all k v ⊎ (IsOfRun r k v ⊎ Has rest k v)
    split k v (inl h) = inl h
    split k v (inr h) = inr (inl h)

    there : (k : ℕ) (v : ℤ) → Has new k v ⊎ Has rest k v
        → Has all k v ⊎ (IsOfRun r k v ⊎ Has rest k v)
    there k v (inl h) = split k v ((p.has k v).0 h)
    there k v (inr h) = inr (inr h)

    back : (k : ℕ) (v : ℤ) → Has all k v ⊎ (IsOfRun r k v ⊎ Has rest k v)
        → Has new k v ⊎ Has rest k v
    back k v (inl h) = inl ((p.has k v).1 (inl h))
    back k v (inr (inl h)) = inl ((p.has k v).1 (inr h))
    back k v (inr (inr h)) = inr h

pub adding_at : (runs all new more : List Run) (i : ℕ) (d : Run) → i < length more
    → IsAdding runs all more (drop i more) → Puts all new (get_or more i d)
    → IsAdding runs new more (drop (i + 1) more)
adding_at runs all new more i d lt a p =
    adding_next runs all new more (drop (i + 1) more) (get_or more i d)
    (subst (IsAdding runs all more) (drop_more more i d lt) a) p

pub adding_ends : (runs all more : List Run) (i : ℕ) → length more ≤ i
    → IsAdding runs all more (drop i more) → IsAdding runs all more []
adding_ends runs all more i h a = subst (IsAdding runs all more) (drop_all i more h) a

pub added_has : (runs all more : List Run) → IsAdding runs all more [] → (k : ℕ) (v : ℤ)
    → Has all k v ↔ (Has runs k v ⊎ Has more k v)
added_has runs all more a k v = (λ h. (a.has k v).0 (inl h), λ h. by ((a.has k v).1 h))
  where
    by : Has all k v ⊎ ⊥ → Has all k v
    by (inl h) = h
    by (inr h) = absurd h

-- ---- runs that are apart

precedes_trans : (a b c : Run) → Precedes a b → IsRun b → Precedes b c → Precedes a c
precedes_trans a b c (inl h) r (inl j) = inl (omega (arith, h, j))
precedes_trans a b c (inl h) r (inr j) = let f = j.0 in inl (omega (arith, h, f))
precedes_trans a b c (inr h) r (inl j) = let f = h.0 in inl (omega (arith, j, f))
precedes_trans a b c (inr h) r (inr j) =
    let f = h.1 in let g = j.1 in inr (h.0 ∙ j.0, omega (arith, ints, f, g, r))

apart_here : (last next : Run) (rest : List Run) → IsRun last → Precedes last next
    → AreApart (next ∷ rest) → AreApart (last ∷ next ∷ rest)
apart_here last next rest r p a = (
  r,
  (
    p,
    each_map (Precedes next) (Precedes last) rest
        (λ x h. precedes_trans last next x p a.0 h) a.1,
  ),
  a,
)

-- all are apart where the last one and those that are left are
pub record IsOrdering (all : List Run) (last : Run) (rest : List Run) : Type 0 where
  pub apart : AreApart (last ∷ rest) → AreApart all
  pub runs : Each IsRun (last ∷ rest)

pub ordering_begins : (first : Run) (more : List Run) → Each IsRun (first ∷ more)
    → IsOrdering (first ∷ more) first more
ordering_begins first more h = record { apart = λ a. a; runs = h }

pub ordering_at : (all more : List Run) (last : Run) (i : ℕ) (d : Run) → i < length more
    → IsOrdering all last (drop i more) → Precedes last (get_or more i d)
    → IsOrdering all (get_or more i d) (drop (i + 1) more)
ordering_at all more last i d lt o p =
    let s = subst (IsOrdering all last) (drop_more more i d lt) o in record {
      apart = λ a. s.apart (apart_here last (get_or more i d) (drop (i + 1) more) s.runs.0 p a);
      runs = s.runs.1;
    }

pub ordering_ends : (all more : List Run) (last : Run) (i : ℕ) → length more ≤ i
    → IsOrdering all last (drop i more) → AreApart all
ordering_ends all more last i h o =
    let s = subst (IsOrdering all last) (drop_all i more h) o in s.apart (s.runs.0, tt, tt)
