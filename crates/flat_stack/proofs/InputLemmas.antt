-- What is wrong with inputs, found one after another.
use Rattle.std.proofs.Common.{◌≡◌, refl, sym, subst, ap, ◌∙◌, ℕ, zero, suc, ◌+◌, ◌<◌, ◌≤◌, ◌==◌, Bool, true, false, Some, List, [], ◌∷◌, length, arith}
use Rattle.std.specs.Prelude.{slice_get}
use Rattle.std.proofs.lemmas.Bool.Decides.{nat_tests}
use Rattle.otio_model.specs.declared.timelines.Timeline.{Timeline}
use Rattle.coord.specs.Soundness.{IsSound}
use Rattle.flat.specs.declared.faults.Cause.{Cause}
use Rattle.flat.specs.declared.faults.FlatAt.{FlatAt}
use Rattle.flat.specs.declared.faults.FlatFault.{FlatFault}
use Rattle.flat.specs.declared.faults.FlatFault.TheVariants as F
use Rattle.flat.specs.Answers.{AreFree, AreSound, JoinNames, JoinRefused, Names}
use Rattle.flat.specs.Blocked.{IsFree, IsFirst}
use Rattle.flat.specs.Joined.{JoinBlocks}
use Rattle.flat.specs.Roots.{roots}
use Rattle.flat_stack.specs.declared.fault_places.Spot.{Spot}
use Rattle.flat_stack.specs.Spots.{IsSaid, spot_place}
use Rattle.flat_stack.proofs.FirstLemmas.{named}
use Rattle.coord.proofs.Members.{same_some}
use Rattle.flat_stack.specs.Blocking.{FreeTo, TellsInput, first_at, last_at}

pub sound_in : (l : List Timeline) (i : ℕ) (t : Timeline) → AreSound l → slice_get l i ≡ Some t
    → IsSound t
sound_in [] i t s e = absurd (cc e)
sound_in (q ∷ l) zero t s e = subst IsSound (same_some q t e) s.0
sound_in (q ∷ l) (suc i) t s e = sound_in l i t s.1 e

-- ---- first and last

test_no : (a b : ℕ) → a < b → (a == b) ≡ false
test_no a b h = grind (arith, nat_tests)

test_less : (a b : ℕ) → (suc a == suc b) ≡ (a == b)
test_less a b = grind (arith, nat_tests)

zero_no : (n : ℕ) → 0 < n → (n == 0) ≡ false
zero_no n h = grind (arith, nat_tests)

pub first_is : (i : ℕ) → (i == 0) ≡ first_at true i
first_is zero = refl
first_is (suc i) = zero_no (suc i) (omega arith)

last_in : (l : List Timeline) (i : ℕ) → i < length l → (suc i == length l) ≡ last_at l i
last_in [] i h = absurd (omega (arith, h))
last_in (t ∷ []) zero h = refl
last_in (t ∷ []) (suc i) h = absurd (omega (arith, h))
last_in (t ∷ (m ∷ more)) zero h = test_no 1 (suc (suc (length more))) (omega arith)
last_in (t ∷ (m ∷ more)) (suc i) h =
    test_less (suc i) (suc (length more)) ∙ last_in (m ∷ more) i (omega (arith, h))

pub last_is : (l : List Timeline) (i : ℕ) → i < length l → (i + 1 == length l) ≡ last_at l i
last_is l i h = ap (λ n. n == length l) (let z : i + 1 ≡ suc i = omega arith in z) ∙ last_in l i h

-- ---- the loop

pub free_next : (f : Bool) (l : List Timeline) (i : ℕ) (t : Timeline) → FreeTo f l i
    → slice_get l i ≡ Some t → IsFree (JoinBlocks (first_at f i) (last_at l i) (roots t))
    → FreeTo f l (suc i)
free_next f [] i t a e h = absurd (cc e)
free_next f (q ∷ []) zero t a e h =
    subst (λ (z : Timeline). IsFree (JoinBlocks f true (roots z))) (sym (same_some q t e)) h
free_next f (q ∷ []) (suc i) t a e h = absurd (cc e)
free_next f (q ∷ (m ∷ more)) zero t a e h =
    (subst (λ (z : Timeline). IsFree (JoinBlocks f false (roots z))) (sym (same_some q t e)) h, tt)
free_next f (q ∷ (m ∷ more)) (suc i) t a e h =
    (a.0, free_next false (m ∷ more) i t a.1 e (later i h))
  where
    later : (i : ℕ) → IsFree (JoinBlocks false (last_at (m ∷ more) i) (roots t))
        → IsFree (JoinBlocks (first_at false i) (last_at (m ∷ more) i) (roots t))
    later zero k = k
    later (suc i) k = k

pub names_next : (f : Bool) (l : List Timeline) (i : ℕ) (t : Timeline) (w : FlatFault)
    → FreeTo f l i → slice_get l i ≡ Some t
    → Names (JoinBlocks (first_at f i) (last_at l i) (roots t)) w → JoinNames f l i w
names_next f [] i t w a e h = absurd (cc e)
names_next f (q ∷ []) zero t w a e h =
    subst (λ (z : Timeline). Names (JoinBlocks f true (roots z)) w) (sym (same_some q t e)) h
names_next f (q ∷ []) (suc i) t w a e h = absurd (cc e)
names_next f (q ∷ (m ∷ more)) zero t w a e h =
    subst (λ (z : Timeline). Names (JoinBlocks f false (roots z)) w) (sym (same_some q t e)) h
names_next f (q ∷ (m ∷ more)) (suc i) t w a e h =
    (a.0, names_next false (m ∷ more) i t w a.1 e (later i h))
  where
    later : (i : ℕ) → Names (JoinBlocks false (last_at (m ∷ more) i) (roots t)) w
        → Names (JoinBlocks (first_at false i) (last_at (m ∷ more) i) (roots t)) w
    later zero k = k
    later (suc i) k = k

pub free_inputs : (f : Bool) (l : List Timeline) (n : ℕ) → length l ≤ n → FreeTo f l n
    → AreFree f l
free_inputs f [] n h a = tt
free_inputs f (t ∷ []) zero h a = absurd (omega (arith, h))
free_inputs f (t ∷ []) (suc n) h a = a
free_inputs f (t ∷ (m ∷ more)) zero h a = absurd (omega (arith, h))
free_inputs f (t ∷ (m ∷ more)) (suc n) h a =
    (a.0, free_inputs false (m ∷ more) n (omega (arith, h)) a.1)

-- with the two tests as the code makes them
blocks_as : (l : List Timeline) (i : ℕ) (t : Timeline) (P : (List ℕ → Cause → Type 0) → Type 0)
    → i < length l → P (JoinBlocks (i == 0) (i + 1 == length l) (roots t))
    → P (JoinBlocks (first_at true i) (last_at l i) (roots t))
blocks_as l i t P h k =
    subst (λ b. P (JoinBlocks (first_at true i) b (roots t))) (last_is l i h)
    (subst (λ b. P (JoinBlocks b (i + 1 == length l) (roots t))) (first_is i) k)

pub free_more : (l : List Timeline) (i : ℕ) (t : Timeline) → i < length l → FreeTo true l i
    → slice_get l i ≡ Some t → IsFree (JoinBlocks (i == 0) (i + 1 == length l) (roots t))
    → FreeTo true l (i + 1)
free_more l i t h a e k =
    subst (FreeTo true l) (let z : suc i ≡ i + 1 = omega arith in z)
    (free_next true l i t a e (blocks_as l i t IsFree h k))

pub refused_at : (l : List Timeline) (i : ℕ) (t : Timeline) (s : Spot) (at : FlatAt)
    → i < length l → FreeTo true l i → slice_get l i ≡ Some t
    → IsFirst (JoinBlocks (i == 0) (i + 1 == length l) (roots t)) (spot_place s) s.cause
    → IsSaid s at.fault → TellsInput i at.fault at.input → JoinRefused l at
refused_at l i t s at h a e k said input = of at.fault at.input said input
  where
    names : (w : FlatFault) → IsSaid s w → JoinNames true l i w
    names w m = names_next true l i t w a e
        (blocks_as l i t (λ has. Names has w) h (named (JoinBlocks (i == 0) (i + 1 == length l) (roots t)) s w k m))

    of : (w : FlatFault) (j : ℕ) → IsSaid s w → TellsInput i w j
        → JoinRefused l (record { input = j; fault = w })
    of (F.Nested place) j m n = subst (λ z. JoinNames true l z (F.Nested place)) (sym n) (names (F.Nested place) m)
    of (F.Transition place) j m n =
        subst (λ z. JoinNames true l z (F.Transition place)) (sym n) (names (F.Transition place) m)
    of (F.Phase place) j m n = subst (λ z. JoinNames true l z (F.Phase place)) (sym n) (names (F.Phase place) m)
    of F.Range j m n = absurd m
    of F.Memory j m n = tt

pub memory_first : (i j : ℕ) (w : FlatFault) → TellsInput i w j → w ≡ F.Memory → j ≡ 0
memory_first i j (F.Nested place) h e = absurd (cc e)
memory_first i j (F.Transition place) h e = absurd (cc e)
memory_first i j (F.Phase place) h e = absurd (cc e)
memory_first i j F.Range h e = absurd (cc e)
memory_first i j F.Memory h e = h
