-- How numbers are taken in.
use Rattle.std.proofs.Common.{◌≡◌, sym, subst, ◌∙◌, ℕ, zero, suc, ◌+◌, length, get_or, ℤ, pos, ◌+ℤ◌, ◌-ℤ◌, ◌<◌, ◌≤◌, ◌≤ℤ◌, ◌<ℤ◌, ◌⊎◌, inl, inr, ◌↔◌, List, [], ◌∷◌, ◌++◌, slice_set, arith}
use Rattle.std.proofs.lemmas.Int.{ints, by_lt_z}
use Rattle.pull_list.specs.Runs.{Adds, Each, Has, IsExtended, IsNext, IsOfRun, IsRun, IsWithin, far}
use Rattle.pull_list.specs.declared.runs.Run.{Run}
use Rattle.pull_list.proofs.Merging.{each_append, has_append}

-- ---- one run

-- what a run has with one number more
record IsMore (r new : Run) (k : ℕ) (v : ℤ) : Type 0 where
  has : (j : ℕ) (w : ℤ) → IsOfRun new j w ↔ (IsOfRun r j w ⊎ ((j ≡ k) × (w ≡ v)))
  run : IsRun r → IsRun new
  within : IsWithin far r → IsWithin far new

more_has : (r new : Run) (k : ℕ) (v : ℤ) → IsNext r k v → IsExtended r v new → (j : ℕ) (w : ℤ)
    → IsOfRun new j w → IsOfRun r j w ⊎ ((j ≡ k) × (w ≡ v))
more_has r new k v next ext j w h = by ext.1
  where
    by : ((new.first ≡ v) × (new.past ≡ r.past) × (v <ℤ r.first))
        ⊎ (((new.first ≡ r.first) × (new.past ≡ (v +ℤ pos 1)) × (r.past ≤ℤ v) × (r.first ≤ℤ v))
        ⊎ ((new.first ≡ r.first) × (new.past ≡ r.past) × (r.first ≤ℤ v) × (v <ℤ r.past)))
        → IsOfRun r j w ⊎ ((j ≡ k) × (w ≡ v))
    by (inl e) =
        let a = e.0 in let b = e.1 in let c = e.2 in let d = h.1 in let f = h.2 in let g = next.1 in
        by_lt_z w r.first
        (λ l. inr (sym h.0 ∙ ext.0 ∙ next.0, omega (arith, ints, a, d, g, l)))
        (λ l. inl (sym ext.0 ∙ h.0, l, omega (arith, ints, b, f)))
    by (inr (inl e)) =
        let a = e.0 in let b = e.1 in let c = e.2 in let d = h.1 in let f = h.2 in let g = next.2 in
        by_lt_z w r.past
        (λ l. inl (sym ext.0 ∙ h.0, omega (arith, ints, a, d), l))
        (λ l. inr (sym h.0 ∙ ext.0 ∙ next.0, omega (arith, ints, b, f, g, c, l)))
    by (inr (inr e)) =
        let a = e.0 in let b = e.1 in let d = h.1 in let f = h.2 in
        inl (sym ext.0 ∙ h.0, omega (arith, ints, a, d), omega (arith, ints, b, f))

has_more : (r new : Run) (k : ℕ) (v : ℤ) → IsRun r → IsNext r k v → IsExtended r v new
    → (j : ℕ) (w : ℤ)
    → IsOfRun r j w ⊎ ((j ≡ k) × (w ≡ v)) → IsOfRun new j w
has_more r new k v some next ext j w h = by h ext.1
  where
    by : IsOfRun r j w ⊎ ((j ≡ k) × (w ≡ v))
        → ((new.first ≡ v) × (new.past ≡ r.past) × (v <ℤ r.first))
        ⊎ (((new.first ≡ r.first) × (new.past ≡ (v +ℤ pos 1)) × (r.past ≤ℤ v) × (r.first ≤ℤ v))
        ⊎ ((new.first ≡ r.first) × (new.past ≡ r.past) × (r.first ≤ℤ v) × (v <ℤ r.past)))
        → IsOfRun new j w
    by (inl o) (inl e) =
        let a = e.0 in let b = e.1 in let c = e.2 in let d = o.1 in let f = o.2 in
        (ext.0 ∙ o.0, omega (arith, ints, a, c, d), omega (arith, ints, b, f))
    by (inl o) (inr (inl e)) =
        let a = e.0 in let b = e.1 in let c = e.2 in let d = o.1 in let f = o.2 in
        (ext.0 ∙ o.0, omega (arith, ints, a, d), omega (arith, ints, b, c, f))
    by (inl o) (inr (inr e)) =
        let a = e.0 in let b = e.1 in let d = o.1 in let f = o.2 in
        (ext.0 ∙ o.0, omega (arith, ints, a, d), omega (arith, ints, b, f))
    by (inr o) (inl e) =
        let a = e.0 in let b = e.1 in let c = e.2 in let d = o.1 in let g = next.2 in
        (ext.0 ∙ next.0 ∙ sym o.0, omega (arith, ints, a, d), omega (arith, ints, b, c, d, some))
    by (inr o) (inr (inl e)) =
        let a = e.0 in let b = e.1 in let c = e.3 in let d = o.1 in
        (ext.0 ∙ next.0 ∙ sym o.0, omega (arith, ints, a, c, d), omega (arith, ints, b, d))
    by (inr o) (inr (inr e)) =
        let a = e.0 in let b = e.1 in let c = e.2 in let f = e.3 in let d = o.1 in
        (ext.0 ∙ next.0 ∙ sym o.0, omega (arith, ints, a, c, d), omega (arith, ints, b, f, d))

more_run : (r new : Run) (v : ℤ) → IsExtended r v new → IsRun r → IsRun new
more_run r new v ext some = by ext.1
  where
    by : ((new.first ≡ v) × (new.past ≡ r.past) × (v <ℤ r.first))
        ⊎ (((new.first ≡ r.first) × (new.past ≡ (v +ℤ pos 1)) × (r.past ≤ℤ v) × (r.first ≤ℤ v))
        ⊎ ((new.first ≡ r.first) × (new.past ≡ r.past) × (r.first ≤ℤ v) × (v <ℤ r.past)))
        → new.first <ℤ new.past
    by (inl e) = let a = e.0 in let b = e.1 in let c = e.2 in omega (arith, ints, a, b, c, some)
    by (inr (inl e)) = let a = e.0 in let b = e.1 in let c = e.3 in omega (arith, ints, a, b, c)
    by (inr (inr e)) = let a = e.0 in let b = e.1 in omega (arith, ints, a, b, some)

more_within : (r new : Run) (v : ℤ) → IsExtended r v new → (pos 0 -ℤ pos far) ≤ℤ v → v <ℤ pos far
    → IsWithin far r → IsWithin far new
more_within r new v ext low high is = by ext.1
  where
    by : ((new.first ≡ v) × (new.past ≡ r.past) × (v <ℤ r.first))
        ⊎ (((new.first ≡ r.first) × (new.past ≡ (v +ℤ pos 1)) × (r.past ≤ℤ v) × (r.first ≤ℤ v))
        ⊎ ((new.first ≡ r.first) × (new.past ≡ r.past) × (r.first ≤ℤ v) × (v <ℤ r.past)))
        → ((pos 0 -ℤ pos far) ≤ℤ new.first) × (new.past ≤ℤ pos far)
    by (inl e) = let a = e.0 in let b = e.1 in let c = is.1 in
        (omega (arith, ints, a, low), omega (arith, ints, b, c))
    by (inr (inl e)) = let a = e.0 in let b = e.1 in let c = is.0 in
        (omega (arith, ints, a, c), omega (arith, ints, b, high))
    by (inr (inr e)) = let a = e.0 in let b = e.1 in let c = is.0 in let d = is.1 in
        (omega (arith, ints, a, c), omega (arith, ints, b, d))

is_more : (r new : Run) (k : ℕ) (v : ℤ) → IsRun r → IsNext r k v → IsExtended r v new
    → (pos 0 -ℤ pos far) ≤ℤ v → v <ℤ pos far → IsMore r new k v
is_more r new k v some next ext low high = record {
  has = λ j w. (more_has r new k v next ext j w, has_more r new k v some next ext j w);
  run = more_run r new v ext;
  within = more_within r new v ext low high;
}

-- ---- a run of a list

regroup : {A B C : Type 0} → (A ⊎ C) ⊎ B → (A ⊎ B) ⊎ C
regroup (inl (inl a)) = inl (inl a)
regroup (inl (inr c)) = inr c
regroup (inr b) = inl (inr b)

-- the run at an index has one number more
set_more : (rs : List Run) (i : ℕ) (d new : Run) (k : ℕ) (v : ℤ) → i < length rs
    → IsMore (get_or rs i d) new k v → Adds rs (slice_set rs i new) k v
set_more [] i d new k v lt m = absurd (omega (arith, lt))
set_more (r ∷ rs) zero d new k v lt m = record {
  has = λ j w. (there j w, back j w);
  runs = λ h. (m.run h.0, h.1);
  within = λ h. (m.within h.0, h.1);
}
  where
    there : (j : ℕ) (w : ℤ) → IsOfRun new j w ⊎ Has rs j w
        → (IsOfRun r j w ⊎ Has rs j w) ⊎ ((j ≡ k) × (w ≡ v))
    there j w (inl h) = regroup (inl ((m.has j w).0 h))
    there j w (inr h) = inl (inr h)

    back : (j : ℕ) (w : ℤ) → (IsOfRun r j w ⊎ Has rs j w) ⊎ ((j ≡ k) × (w ≡ v))
        → IsOfRun new j w ⊎ Has rs j w
    back j w (inl (inl h)) = inl ((m.has j w).1 (inl h))
    back j w (inl (inr h)) = inr h
    back j w (inr h) = inl ((m.has j w).1 (inr h))
set_more (r ∷ rs) (suc i) d new k v lt m =
    let a = set_more rs i d new k v (omega (arith, lt)) m in record {
      has = λ j w. (there j w (a.has j w).0, back j w (a.has j w).1);
      runs = λ h. (h.0, a.runs h.1);
      within = λ h. (h.0, a.within h.1);
    }
  where
    there : (j : ℕ) (w : ℤ) → (Has (slice_set rs i new) j w → Has rs j w ⊎ ((j ≡ k) × (w ≡ v)))
        → IsOfRun r j w ⊎ Has (slice_set rs i new) j w
        → (IsOfRun r j w ⊎ Has rs j w) ⊎ ((j ≡ k) × (w ≡ v))
    there j w f (inl h) = inl (inl h)
    there j w f (inr h) = by (f h)
      where
        by : Has rs j w ⊎ ((j ≡ k) × (w ≡ v)) → (IsOfRun r j w ⊎ Has rs j w) ⊎ ((j ≡ k) × (w ≡ v))
        by (inl x) = inl (inr x)
        by (inr x) = inr x

    back : (j : ℕ) (w : ℤ) → (Has rs j w ⊎ ((j ≡ k) × (w ≡ v)) → Has (slice_set rs i new) j w)
        → (IsOfRun r j w ⊎ Has rs j w) ⊎ ((j ≡ k) × (w ≡ v))
        → IsOfRun r j w ⊎ Has (slice_set rs i new) j w
    back j w f (inl (inl h)) = inl h
    back j w f (inl (inr h)) = inr (f (inl h))
    back j w f (inr h) = inr (f (inr h))

run_at : (rs : List Run) (i : ℕ) (d : Run) → i < length rs → Each IsRun rs → IsRun (get_or rs i d)
run_at [] i d lt h = absurd (omega (arith, lt))
run_at (r ∷ rs) zero d lt h = h.0
run_at (r ∷ rs) (suc i) d lt h = run_at rs i d (omega (arith, lt)) h.1

pub taken_at : (old new : List Run) (i : ℕ) (r run : Run) (k : ℕ) (v : ℤ) → i < length old
    → Each IsRun old → r ≡ get_or old i r → IsNext r k v → IsExtended r v run
    → (pos 0 -ℤ pos far) ≤ℤ v → v <ℤ pos far → new ≡ slice_set old i run → Adds old new k v
taken_at old new i r run k v lt runs same next ext low high e =
    subst (λ x. Adds old x k v) (sym e)
    (set_more old i r run k v lt
    (is_more (get_or old i r) run k v (run_at old i r lt runs) (subst (λ x. IsNext x k v) same next)
    (subst (λ x. IsExtended x v run) same ext) low high))

-- ---- a run of one number after the others

-- the runs as they were, or merged
pub record IsKept (old mid : List Run) : Type 0 where
  pub has : (j : ℕ) (w : ℤ) → Has mid j w ↔ Has old j w
  pub runs : Each IsRun mid
  pub within : Each (IsWithin far) old → Each (IsWithin far) mid

pub kept_same : (old mid : List Run) → Each IsRun old → mid ≡ old → IsKept old mid
kept_same old mid runs e = subst (IsKept old) (sym e)
    (record { has = λ j w. (λ h. h, λ h. h); runs = runs; within = λ h. h })

pushed : (old mid new : List Run) (r : Run) (k : ℕ) (v : ℤ)
    → ((j : ℕ) (w : ℤ) → Has mid j w ↔ Has old j w) → Each IsRun mid
    → (Each (IsWithin far) old → Each (IsWithin far) mid)
    → r.group ≡ k → r.first ≡ v → r.past ≡ (v +ℤ pos 1)
    → (pos 0 -ℤ pos far) ≤ℤ v → v <ℤ pos far → new ≡ mid ++ r ∷ [] → Adds old new k v
pushed old mid new r k v same runs within e f g low high put = subst (λ x. Adds old x k v) (sym put) (record {
  has = λ j w. (λ h. there j w ((has_append mid (r ∷ []) j w).0 h), back j w);
  runs = λ h. each_append IsRun mid (r ∷ []) runs (omega (arith, ints, f, g), tt);
  within = λ h. each_append (IsWithin far) mid (r ∷ []) (within h)
      ((omega (arith, ints, f, low), omega (arith, ints, g, high)), tt);
})
  where
    there : (j : ℕ) (w : ℤ) → Has mid j w ⊎ (IsOfRun r j w ⊎ ⊥) → Has old j w ⊎ ((j ≡ k) × (w ≡ v))
    there j w (inl h) = inl ((same j w).0 h)
    there j w (inr (inl h)) = let a = h.1 in let b = h.2 in
        inr (sym h.0 ∙ e, omega (arith, ints, a, b, f, g))
    there j w (inr (inr h)) = absurd h

    back : (j : ℕ) (w : ℤ) → Has old j w ⊎ ((j ≡ k) × (w ≡ v)) → Has (mid ++ r ∷ []) j w
    back j w (inl h) = (has_append mid (r ∷ []) j w).1 (inl ((same j w).1 h))
    back j w (inr h) = let a = h.1 in (has_append mid (r ∷ []) j w).1
        (inr (inl (e ∙ sym h.0, omega (arith, ints, a, f), omega (arith, ints, a, g))))

pub put_last : (old mid new : List Run) (r : Run) (k : ℕ) (v : ℤ) → IsKept old mid
    → r.group ≡ k → r.first ≡ v → r.past ≡ (v +ℤ pos 1)
    → (pos 0 -ℤ pos far) ≤ℤ v → v <ℤ pos far → new ≡ mid ++ r ∷ [] → Adds old new k v
put_last old mid new r k v kept e f g low high put =
    pushed old mid new r k v kept.has kept.runs kept.within e f g low high put
