-- The earlier of two places.
use Rattle.std.proofs.Common.{◌≡◌, refl, sym, subst, ◌∙◌, ◌⊎◌, inl, inr, ℕ, ◌<◌, ◌≤◌, ◌==◌, ◌&&◌, Bool, true, false, cond, Option, Some, None, List, [], ◌∷◌, arith}
use Rattle.std.specs.Prelude.{nat_lt, IfSome}
use Rattle.coord.specs.Soundness.{Precedes}
use Rattle.flat.specs.declared.faults.Cause.{Cause}
use Rattle.flat.specs.Blocked.{IsFirst, IsFree}
use Rattle.std.proofs.lemmas.Bool.{and_parts, eqb-true, ltb-false, ltb-true, or_cases, or_parts}
use Rattle.flat_stack.specs.declared.fault_places.Spot.{Spot}
use Rattle.flat_stack.specs.Spots.{inner_place, spot_place, IsNear, Under, StartsBelow, IsFreeTo}
use Rattle.flat_stack.specs.Sought.{child_before, is_before, earlier, IsSought}
use Rattle.flat_stack.proofs.FirstLemmas.{below_or, free_all, first_under}
use Rattle.flat_stack.proofs.PlaceLemmas.{none_before, starts_later}

-- ---- tests

same_yes : (a b : ℕ) → a ≡ b → (a == b) ≡ true
same_yes a b e = grind arith

-- ---- the loops over root children

-- at the end of a loop over n root children
pub free_from : (has : List ℕ → Cause → Type 0) (n m : ℕ) → n ≤ m → IsFreeTo has m
    → ((place : List ℕ) (c : Cause) → has place c → StartsBelow n place) → IsFree has
free_from has n m h free low =
    free_all has m free (λ place c k. starts_later n m place h (low place c k))

-- at a root child
pub first_at : (has : List ℕ → Cause → Type 0) (k j : ℕ) (child : Option ℕ) (c : Cause) → j ≡ k
    → IsFreeTo has k → IsFirst (Under has k) (inner_place child) c
    → IsFirst has (j ∷ inner_place child) c
first_at has k j child c e free f =
    subst (λ z. IsFirst has (z ∷ inner_place child) c) (sym e)
    (first_under has k (inner_place child) c free f)

-- ---- document order

-- what stands before the first child stands before the second
inner_before : (c d : Option ℕ) (p : List ℕ) → child_before c d ≡ true
    → Precedes p (inner_place c) → Precedes p (inner_place d)
inner_before None d p e h = absurd (none_before p h)
inner_before (Some i) None p e h = absurd (cc e)
inner_before (Some i) (Some j) [] e h = tt
inner_before (Some i) (Some j) (k ∷ p) e h =
    let less = ltb-true i j e in
    elim h [
      | inl a ↦ inl (omega (arith, a, less))
      | inr b ↦ absurd (none_before p b.1)
    ]

inner_behind : (c d : Option ℕ) (p : List ℕ) → child_before c d ≡ false
    → Precedes p (inner_place d) → Precedes p (inner_place c)
inner_behind None None p e h = h
inner_behind None (Some j) p e h = absurd (cc e)
inner_behind (Some i) None p e h = absurd (none_before p h)
inner_behind (Some i) (Some j) [] e h = tt
inner_behind (Some i) (Some j) (k ∷ p) e h =
    let least = ltb-false i j e in
    elim h [
      | inl a ↦ inl (omega (arith, a, least))
      | inr b ↦ absurd (none_before p b.1)
    ]

before_both : (s t : Spot) (p : List ℕ) → is_before s t ≡ true → Precedes p (spot_place s)
    → Precedes p (spot_place t)
before_both s t [] e h = tt
before_both s t (i ∷ p) e h =
    elim (or_cases (nat_lt s.track t.track) ((s.track == t.track) && child_before s.child t.child) e) [
      | inl a ↦
          let less = ltb-true s.track t.track a in
          elim h [
            | inl b ↦ inl (omega (arith, b, less))
            | inr b ↦ let same = b.0 in inl (omega (arith, same, less))
          ]
      | inr a ↦
          let two = and_parts (s.track == t.track) (child_before s.child t.child) a in
          let same = eqb-true s.track t.track two.0 in
          elim h [
            | inl b ↦ inl (omega (arith, b, same))
            | inr b ↦ inr (b.0 ∙ same, inner_before s.child t.child p two.1 b.1)
          ]
    ]

before_first : (s t : Spot) (p : List ℕ) → is_before s t ≡ false → Precedes p (spot_place t)
    → Precedes p (spot_place s)
before_first s t [] e h = tt
before_first s t (i ∷ p) e h =
    let two = or_parts (nat_lt s.track t.track) ((s.track == t.track) && child_before s.child t.child) e in
    let least = ltb-false s.track t.track two.0 in
    elim h [
      | inl a ↦ inl (omega (arith, a, least))
      | inr b ↦ of b (below_or t.track s.track (omega (arith, least))) two.1
    ]
  where
    of : (i ≡ t.track) × Precedes p (inner_place t.child) → (t.track < s.track) ⊎ (t.track ≡ s.track)
        → ((s.track == t.track) && child_before s.child t.child) ≡ false
        → (i < s.track) ⊎ ((i ≡ s.track) × Precedes p (inner_place s.child))
    of b (inl less) f = let same = b.0 in inl (omega (arith, same, less))
    of b (inr equal) f =
        let yes = same_yes s.track t.track (sym equal) in
        let no : child_before s.child t.child ≡ false = rw yes at f in
        inr (b.0 ∙ equal, inner_behind s.child t.child p no b.1)

-- ---- the earlier of two first places is the first of both

pub earlier_sought : (has other all : List ℕ → Cause → Type 0) (a b : Option Spot)
    → ((place : List ℕ) (c : Cause) → all place c → has place c ⊎ other place c)
    → ((place : List ℕ) (c : Cause) → has place c → all place c)
    → ((place : List ℕ) (c : Cause) → other place c → all place c)
    → IsSought has a → IsSought other b → IsSought all (earlier a b)
earlier_sought has other all None None split left right f g = λ place c h. elim (split place c h) [
  | inl x ↦ f place c x
  | inr y ↦ g place c y
]
earlier_sought has other all None (Some t) split left right f g = record {
  there = right (spot_place t) t.cause g.there;
  first = λ place c before h. elim (split place c h) [
    | inl x ↦ f place c x
    | inr y ↦ g.first place c before y
  ];
}
earlier_sought has other all (Some s) None split left right f g = record {
  there = left (spot_place s) s.cause f.there;
  first = λ place c before h. elim (split place c h) [
    | inl x ↦ f.first place c before x
    | inr y ↦ g place c y
  ];
}
earlier_sought has other all (Some s) (Some t) split left right f g = of (is_before s t) refl
  where
    of : (b : Bool) → is_before s t ≡ b → IsFirst all (spot_place (cond b s t)) (cond b s t).cause
    of true e = record {
      there = left (spot_place s) s.cause f.there;
      first = λ place c before h. elim (split place c h) [
        | inl x ↦ f.first place c before x
        | inr y ↦ g.first place c (before_both s t place e before) y
      ];
    }
    of false e = record {
      there = right (spot_place t) t.cause g.there;
      first = λ place c before h. elim (split place c h) [
        | inl x ↦ f.first place c (before_first s t place e before) x
        | inr y ↦ g.first place c before y
      ];
    }

-- what is at the same places has the same first
pub sought_as : (has other : List ℕ → Cause → Type 0) (a : Option Spot)
    → ((place : List ℕ) (c : Cause) → has place c → other place c)
    → ((place : List ℕ) (c : Cause) → other place c → has place c)
    → IsSought has a → IsSought other a
sought_as has other None there back f = λ place c h. f place c (back place c h)
sought_as has other (Some s) there back f = record {
  there = there (spot_place s) s.cause f.there;
  first = λ place c before h. f.first place c before (back place c h);
}

-- both can stand in a place, and so can the earlier one
pub near_or : (e a b : Option Spot) → e ≡ earlier a b → IfSome a IsNear → IfSome b IsNear
    → IfSome e IsNear
near_or e a b is f g = subst (λ o. IfSome o IsNear) (sym is) (near_of a b f g)
  where
    pick : (s t : Spot) (b : Bool) → IsNear s → IsNear t → IsNear (cond b s t)
    pick s t true f g = f
    pick s t false f g = g

    near_of : (a b : Option Spot) → IfSome a IsNear → IfSome b IsNear → IfSome (earlier a b) IsNear
    near_of None b f g = g
    near_of (Some s) None f g = f
    near_of (Some s) (Some t) f g = pick s t (is_before s t) f g
