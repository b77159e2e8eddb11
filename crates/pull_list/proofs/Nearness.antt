-- Numbers that are near those of runs.
use Rattle.std.proofs.Common.{◌≡◌, sym, subst, ◌∙◌, ℕ, ◌+◌, drop, length, get_or, ℤ, pos, ◌+ℤ◌, ◌-ℤ◌, ◌<◌, ◌≤ℤ◌, ◌<ℤ◌, ◌⊎◌, inl, inr, ◌↔◌, List, [], ◌∷◌, ◌++◌, arith}
use Rattle.std.proofs.lemmas.List.{drop_more}
use Rattle.std.proofs.lemmas.Int.{ints, by_lt_z}
use Rattle.pull_list.specs.Runs.{AreApart, Each, Has, HasNear, IsOfRun, IsRun, IsWithin, Puts, far, further}
use Rattle.pull_list.specs.declared.runs.Run.{Run}
use Rattle.pull_list.proofs.Merging.{has_append}

-- ---- one run

-- the run with so many numbers more at both ends
pub record IsWidened (h : ℕ) (r w : Run) : Type 0 where
  pub group : w.group ≡ r.group
  pub first : w.first ≡ r.first -ℤ pos h
  pub past : w.past ≡ r.past +ℤ pos h

near_of : (h k : ℕ) (v n : ℤ) (r : Run) → r.group ≡ k → r.first ≤ℤ n → n <ℤ r.past
    → (n -ℤ v) ≤ℤ pos h → (v -ℤ n) ≤ℤ pos h → HasNear (r ∷ []) h k v
near_of h k v n r e a b c d = record { number = n; has = inl (e, a, b); low = c; high = d }

widened_near : (h k : ℕ) (v : ℤ) (r w : Run) → IsWidened h r w → IsRun r → IsOfRun w k v
    → HasNear (r ∷ []) h k v
widened_near h k v r w is some has =
    let a = is.first in let b = is.past in let c = has.1 in let d = has.2 in
    let e = sym is.group ∙ has.0 in
    by_lt_z v r.first
    (λ l. near_of h k v r.first r e (omega (arith, ints)) some (omega (arith, ints, a, c))
    (omega (arith, ints, l)))
    (λ l. by_lt_z v r.past
    (λ m. near_of h k v v r e l m (omega (arith, ints)) (omega (arith, ints)))
    (λ m. near_of h k v (r.past -ℤ pos 1) r e (omega (arith, ints, some)) (omega (arith, ints))
    (omega (arith, ints, m)) (omega (arith, ints, b, d))))

near_widened : (h k : ℕ) (v : ℤ) (r w : Run) → IsWidened h r w → HasNear (r ∷ []) h k v
    → IsOfRun w k v
near_widened h k v r w is near = by near.has
  where
    by : IsOfRun r k near.number ⊎ ⊥ → IsOfRun w k v
    by (inl has) =
        let a = is.first in let b = is.past in let c = has.1 in let d = has.2 in
        let low = near.low in let high = near.high in
        (is.group ∙ has.0, omega (arith, ints, a, c, low), omega (arith, ints, b, d, high))
    by (inr has) = absurd has

widened_run : (h : ℕ) (r w : Run) → IsWidened h r w → IsRun r → IsRun w
widened_run h r w is some = let a = is.first in let b = is.past in omega (arith, ints, a, b, some)

-- ---- the runs of a list

near_either : (h k : ℕ) (v : ℤ) (r : Run) (rs : List Run) → HasNear (r ∷ rs) h k v
    → HasNear (r ∷ []) h k v ⊎ HasNear rs h k v
near_either h k v r rs near = by near.has
  where
    by : IsOfRun r k near.number ⊎ Has rs k near.number → HasNear (r ∷ []) h k v ⊎ HasNear rs h k v
    by (inl has) = inl (record { number = near.number; has = inl has; low = near.low; high = near.high })
    by (inr has) = inr (record { number = near.number; has = has; low = near.low; high = near.high })

near_one : (h k : ℕ) (v : ℤ) (r : Run) (rs : List Run) → HasNear (r ∷ []) h k v
    → HasNear (r ∷ rs) h k v
near_one h k v r rs near = by near.has
  where
    by : IsOfRun r k near.number ⊎ ⊥ → HasNear (r ∷ rs) h k v
    by (inl has) = record { number = near.number; has = inl has; low = near.low; high = near.high }
    by (inr has) = absurd has

near_more : (h k : ℕ) (v : ℤ) (r : Run) (rs : List Run) → HasNear rs h k v → HasNear (r ∷ rs) h k v
near_more h k v r rs near =
    record { number = near.number; has = inr near.has; low = near.low; high = near.high }

-- the numbers that are near are in these runs, or near one of what is left
pub record IsWidening (h : ℕ) (all near rest : List Run) : Type 0 where
  pub has : (k : ℕ) (v : ℤ) → HasNear all h k v ↔ (Has near k v ⊎ HasNear rest h k v)
  pub runs : Each IsRun near
  pub within : Each (IsWithin further) near
  pub rest_runs : Each IsRun rest
  pub rest_within : Each (IsWithin far) rest

pub widening_begins : (h : ℕ) (all near : List Run) → near ≡ [] → Each IsRun all
    → Each (IsWithin far) all → IsWidening h all near all
widening_begins h all near e runs within = subst (λ x. IsWidening h all x all) (sym e) (record {
  has = λ k v. (λ n. inr n, by k v);
  runs = tt;
  within = tt;
  rest_runs = runs;
  rest_within = within;
})
  where
    by : (k : ℕ) (v : ℤ) → ⊥ ⊎ HasNear all h k v → HasNear all h k v
    by k v (inl n) = absurd n
    by k v (inr n) = n

widening_next : (h : ℕ) (all near new rest : List Run) (r w : Run)
    → IsWidening h all near (r ∷ rest) → IsWidened h r w → IsWithin further w → Puts near new w
    → IsWidening h all new rest
widening_next h all near new rest r w m is within p = record {
  has = λ k v. (λ n. there k v ((m.has k v).0 n), λ n. (m.has k v).1 (back k v n));
  runs = p.runs (widened_run h r w is m.rest_runs.0) m.runs;
  within = p.within further within m.within;
  rest_runs = m.rest_runs.1;
  rest_within = m.rest_within.1;
}
  where
    split : (k : ℕ) (v : ℤ) → HasNear (r ∷ []) h k v ⊎ HasNear rest h k v
        → Has new k v ⊎ HasNear rest h k v
    split k v (inl n) = inl ((p.has k v).1 (inr (near_widened h k v r w is n)))
    split k v (inr n) = inr n

    there : (k : ℕ) (v : ℤ) → Has near k v ⊎ HasNear (r ∷ rest) h k v
        → Has new k v ⊎ HasNear rest h k v
    there k v (inl n) = inl ((p.has k v).1 (inl n))
    there k v (inr n) = split k v (near_either h k v r rest n)

    back : (k : ℕ) (v : ℤ) → Has new k v ⊎ HasNear rest h k v
        → Has near k v ⊎ HasNear (r ∷ rest) h k v
    back k v (inr n) = inr (near_more h k v r rest n)
    back k v (inl n) = by ((p.has k v).0 n)
      where
        by : Has near k v ⊎ IsOfRun w k v → Has near k v ⊎ HasNear (r ∷ rest) h k v
        by (inl j) = inl j
        by (inr j) = inr (near_one h k v r rest (widened_near h k v r w is m.rest_runs.0 j))

pub widening_at : (h : ℕ) (all near new runs : List Run) (w : Run) (i : ℕ) (d : Run)
    → i < length runs → IsWidening h all near (drop i runs) → IsWidened h (get_or runs i d) w
    → IsWithin further w → Puts near new w → IsWidening h all new (drop (i + 1) runs)
widening_at h all near new runs w i d lt m is within p =
    widening_next h all near new (drop (i + 1) runs) (get_or runs i d) w
    (subst (IsWidening h all near) (drop_more runs i d lt) m) is within p

pub within_at : (h : ℕ) (all near runs : List Run) (i : ℕ) (d : Run) → i < length runs
    → IsWidening h all near (drop i runs) → IsWithin far (get_or runs i d)
within_at h all near runs i d lt m =
    (subst (Each (IsWithin far)) (drop_more runs i d lt) m.rest_within).0

pub widening_ends : (h : ℕ) (all near : List Run) → IsWidening h all near []
    → (k : ℕ) (v : ℤ) → Has near k v ↔ HasNear all h k v
widening_ends h all near m k v = (λ n. (m.has k v).1 (inl n), λ n. by ((m.has k v).0 n))
  where
    by : Has near k v ⊎ HasNear [] h k v → Has near k v
    by (inl n) = n
    by (inr n) = absurd n.has

-- ---- what is wanted

-- runs that are apart have numbers
pub apart_runs : (rs : List Run) → AreApart rs → Each IsRun rs
apart_runs [] h = tt
apart_runs (r ∷ rs) h = (h.0, apart_runs rs h.2)

pub further_each : (rs : List Run) → Each (IsWithin far) rs → Each (IsWithin further) rs
further_each [] h = tt
further_each (r ∷ rs) h =
    let a = h.0.0 in let b = h.0.1 in ((omega (arith, ints, a), omega (arith, ints, b)), further_each rs h.1)

near_same : (xs ys : List Run) (h k : ℕ) (v : ℤ) → ((k : ℕ) (v : ℤ) → Has xs k v → Has ys k v)
    → HasNear xs h k v → HasNear ys h k v
near_same xs ys h k v f near =
    record { number = near.number; has = f k near.number near.has; low = near.low; high = near.high }

-- without handles
pub wanted_used : (xs used available : List Run) (h : ℕ) → h ≡ 0
    → ((k : ℕ) (v : ℤ) → Has xs k v ↔ Has used k v)
    → (k : ℕ) (v : ℤ) → Has xs k v ↔ (Has used k v ⊎ (HasNear used h k v × Has available k v))
wanted_used xs used available h e same k v = (λ n. inl ((same k v).0 n), by)
  where
    by : Has used k v ⊎ (HasNear used h k v × Has available k v) → Has xs k v
    by (inl n) = (same k v).1 n
    by (inr n) =
        let a = n.0.low in let b = n.0.high in
        let at : n.0.number ≡ v = omega (arith, ints, a, b, e) in
        (same k v).1 (subst (Has used k) at n.0.has)

-- with handles: the common runs of what is near and what is available, and the used ones after them
pub wanted_near : (all both near stock used available : List Run) (h : ℕ)
    → ((k : ℕ) (v : ℤ) → Has near k v ↔ HasNear used h k v)
    → ((k : ℕ) (v : ℤ) → Has stock k v ↔ Has available k v)
    → ((k : ℕ) (v : ℤ) → Has both k v ↔ (Has near k v × Has stock k v))
    → ((k : ℕ) (v : ℤ) → Has all k v ↔ Has (both ++ used) k v)
    → (k : ℕ) (v : ℤ) → Has all k v ↔ (Has used k v ⊎ (HasNear used h k v × Has available k v))
wanted_near all both near stock used available h n s c a k v = (
  λ x. there ((has_append both used k v).0 ((a k v).0 x)),
  λ x. (a k v).1 ((has_append both used k v).1 (back x)),
)
  where
    there : Has both k v ⊎ Has used k v → Has used k v ⊎ (HasNear used h k v × Has available k v)
    there (inl x) = let y = (c k v).0 x in inr ((n k v).0 y.0, (s k v).0 y.1)
    there (inr x) = inl x

    back : Has used k v ⊎ (HasNear used h k v × Has available k v) → Has both k v ⊎ Has used k v
    back (inl x) = inr x
    back (inr x) = inl ((c k v).1 ((n k v).1 x.0, (s k v).1 x.1))

-- the same of used runs in another order
pub wanted_same : (all xs used available : List Run) (h : ℕ)
    → ((k : ℕ) (v : ℤ) → Has xs k v ↔ Has used k v)
    → ((k : ℕ) (v : ℤ) → Has all k v ↔ (Has xs k v ⊎ (HasNear xs h k v × Has available k v)))
    → (k : ℕ) (v : ℤ) → Has all k v ↔ (Has used k v ⊎ (HasNear used h k v × Has available k v))
wanted_same all xs used available h same a k v = (λ x. there ((a k v).0 x), λ x. (a k v).1 (back x))
  where
    there : Has xs k v ⊎ (HasNear xs h k v × Has available k v)
        → Has used k v ⊎ (HasNear used h k v × Has available k v)
    there (inl x) = inl ((same k v).0 x)
    there (inr x) = inr (near_same xs used h k v (λ l w. (same l w).0) x.0, x.1)

    back : Has used k v ⊎ (HasNear used h k v × Has available k v)
        → Has xs k v ⊎ (HasNear xs h k v × Has available k v)
    back (inl x) = inl ((same k v).1 x)
    back (inr x) = inr (near_same used xs h k v (λ l w. (same l w).1) x.0, x.1)
