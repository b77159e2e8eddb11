-- The first place at which something is wrong, found child by child.
use Rattle.std.proofs.Common.{◌≡◌, refl, sym, subst, ap, ◌⊎◌, inl, inr, ℕ, zero, suc, ◌+◌, ◌<◌, List, [], ◌∷◌, arith}
use Rattle.coord.specs.Soundness.{Precedes}
use Rattle.flat.specs.declared.faults.Cause.{Cause}
use Rattle.flat.specs.declared.faults.Cause.TheVariants as C
use Rattle.flat.specs.declared.faults.FlatFault.{FlatFault}
use Rattle.flat.specs.declared.faults.FlatFault.TheVariants as F
use Rattle.flat.specs.Answers.{Names}
use Rattle.flat.specs.Blocked.{IsFree, IsFirst}
use Rattle.flat_stack.specs.declared.fault_places.Spot.{Spot}
use Rattle.flat_stack.specs.Spots.{spot_place, IsSaid, Under, StartsBelow, IsFreeTo}

pub first_under : (has : List ℕ → Cause → Type 0) (k : ℕ) (place : List ℕ) (c : Cause)
    → IsFreeTo has k → IsFirst (Under has k) place c → IsFirst has (k ∷ place) c
first_under has k place c free f = record { there = f.there; first = of }
  where
    of : (before : List ℕ) (d : Cause) → Precedes before (k ∷ place) → has before d → ⊥
    of [] d e h = free [] d h tt
    of (j ∷ q) d e h = elim e [
      | inl a ↦ free (j ∷ q) d h a
      | inr b ↦ f.first q d b.1 (subst (λ z. has (z ∷ q) d) b.0 h)
    ]

pub below_or : (j k : ℕ) → j < k + 1 → (j < k) ⊎ (j ≡ k)
below_or zero zero h = inr refl
below_or zero (suc k) h = inl (omega arith)
below_or (suc j) zero h = absurd (omega (arith, h))
below_or (suc j) (suc k) h = elim (below_or j k (omega (arith, h))) [
  | inl a ↦ inl (omega (arith, a))
  | inr e ↦ inr (ap suc e)
]

pub free_more : (has : List ℕ → Cause → Type 0) (k : ℕ) → IsFreeTo has k → IsFree (Under has k)
    → IsFreeTo has (k + 1)
free_more has k free u [] c h s = free [] c h tt
free_more has k free u (j ∷ q) c h s = elim (below_or j k s) [
  | inl a ↦ free (j ∷ q) c h a
  | inr e ↦ u q c (subst (λ z. has (z ∷ q) c) e h)
]

pub free_all : (has : List ℕ → Cause → Type 0) (n : ℕ) → IsFreeTo has n
    → ((place : List ℕ) (c : Cause) → has place c → StartsBelow n place) → IsFree has
free_all has n free low place c h = free place c h (low place c h)

-- the first one is told of
pub named : (has : List ℕ → Cause → Type 0) (s : Spot) (f : FlatFault)
    → IsFirst has (spot_place s) s.cause → IsSaid s f → Names has f
named has s (F.Nested place) h e =
    subst (λ p. IsFirst has p C.Nested) (sym e.0) (subst (λ c. IsFirst has (spot_place s) c) e.1 h)
named has s (F.Transition place) h e =
    subst (λ p. IsFirst has p C.Crossing) (sym e.0)
    (subst (λ c. IsFirst has (spot_place s) c) e.1 h)
named has s (F.Phase place) h e =
    subst (λ p. IsFirst has p C.Phase) (sym e.0) (subst (λ c. IsFirst has (spot_place s) c) e.1 h)
named has s F.Range h e = e
named has s F.Memory h e = tt
