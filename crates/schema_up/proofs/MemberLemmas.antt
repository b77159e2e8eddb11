-- Members without one of them, and with one under another name.
use Rattle.std.proofs.Common.{◌≡◌, ◌≢◌, ℕ, suc, ◌<◌, ◌≤◌, Bool, true, false, List, [], ◌∷◌, ◌++◌, Option, take, drop, length, get_or, set, refl, ap, sym, ◌∙◌, arith, option_map, slice_get}
use Rattle.std.specs.Str.{bytes_eq}
use Rattle.std.proofs.lemmas.Slice.Eq.{bytes_eq-Decides}
use Rattle.json_value.specs.declared.Json.{Json}
use Rattle.sequences.specs.Pairs.{names_of, IsNew, AreDistinct, value_of}
use Rattle.sequences.specs.Places.{place_of}
use Rattle.sequences.proofs.PairLemmas.{value_of-place, apart}
use Rattle.schema_up.specs.Upgrades.{Pairs, without, named_anew}

-- the value that is taken from the place of a name
pub taken_value : (name : List ℕ) (ms : Pairs) (place : ℕ) (r : Option (List ℕ × Json)) → place ≡ place_of name (names_of ms) → slice_get ms place ≡ r → option_map (λ m. m.1) r ≡ value_of name ms
taken_value name ms place r at is = ap (λ o. option_map (λ m. m.1) o) (sym is) ∙ ap (λ k. option_map (λ m. m.1) (slice_get ms k)) at ∙ sym (value_of-place name ms)

-- the members without the one at the place of a name
removed : (name : List ℕ) (ms : Pairs) → take (place_of name (names_of ms)) ms ++ drop (suc (place_of name (names_of ms))) ms ≡ without name ms
removed name [] = refl
removed name (m ∷ ms) = by (bytes_eq name m.0) refl (removed name ms) where
  by : (t : Bool) → bytes_eq name m.0 ≡ t → take (place_of name (names_of ms)) ms ++ drop (suc (place_of name (names_of ms))) ms ≡ without name ms → take (place_of name (names_of (m ∷ ms))) (m ∷ ms) ++ drop (suc (place_of name (names_of (m ∷ ms)))) (m ∷ ms) ≡ without name (m ∷ ms)
  by true e below = rw e refl
  by false e below = rw e (ap (λ l. m ∷ l) below)

pub taken_rest : (name : List ℕ) (ms : Pairs) (place : ℕ) (rest : Pairs) → place ≡ place_of name (names_of ms) → rest ≡ take place ms ++ drop (suc place) ms → rest ≡ without name ms
taken_rest name ms place rest at is = is ∙ ap (λ k. take k ms ++ drop (suc k) ms) at ∙ removed name ms

-- a name that is new stays new where one is taken out
pub new_without : (n name : List ℕ) (ms : Pairs) → IsNew n (names_of ms) → IsNew n (names_of (without name ms))
new_without n name [] h = tt
new_without n name (m ∷ ms) h = by (bytes_eq name m.0) refl (new_without n name ms h.1) where
  by : (t : Bool) → bytes_eq name m.0 ≡ t → IsNew n (names_of (without name ms)) → IsNew n (names_of (without name (m ∷ ms)))
  by true e below = rw e h.1
  by false e below = rw e (h.0, below)

-- a name is new where its member is taken out of members with distinct names
gone : (name : List ℕ) (ms : Pairs) → AreDistinct (names_of ms) → IsNew name (names_of (without name ms))
gone name [] h = tt
gone name (m ∷ ms) h = by (bytes_eq name m.0) refl (gone name ms h.1) where
  by : (t : Bool) → bytes_eq name m.0 ≡ t → IsNew name (names_of (without name ms)) → IsNew name (names_of (without name (m ∷ ms)))
  by true e below = rw e (let same : name ≡ m.0 = grind (arith, bytes_eq-Decides name m.0) in rw same h.0)
  by false e below = rw e (apart name m.0 e, below)

pub taken_gone : (name : List ℕ) (ms : Pairs) (place : ℕ) (rest : Pairs) → place ≡ place_of name (names_of ms) → rest ≡ take place ms ++ drop (suc place) ms → AreDistinct (names_of ms)
    → IsNew name (names_of rest)
taken_gone name ms place rest at is distinct = rw (taken_rest name ms place rest at is) (gone name ms distinct)

-- a name other than the new one stays new
new_anew : (n old new : List ℕ) (ms : Pairs) → n ≢ new → IsNew n (names_of ms) → IsNew n (names_of (named_anew old new ms))
new_anew n old new [] other h = tt
new_anew n old new (m ∷ ms) other h = by (bytes_eq old m.0) refl (new_anew n old new ms other h.1) where
  by : (t : Bool) → bytes_eq old m.0 ≡ t → IsNew n (names_of (named_anew old new ms)) → IsNew n (names_of (named_anew old new (m ∷ ms)))
  by true e below = rw e (other, h.1)
  by false e below = rw e (h.0, below)

-- names stay distinct where one becomes a new one
pub distinct_anew : (old new : List ℕ) (ms : Pairs) → IsNew new (names_of ms) → AreDistinct (names_of ms) → AreDistinct (names_of (named_anew old new ms))
distinct_anew old new [] fresh h = tt
distinct_anew old new (m ∷ ms) fresh h = by (bytes_eq old m.0) refl (distinct_anew old new ms fresh.1 h.1) where
  by : (t : Bool) → bytes_eq old m.0 ≡ t → AreDistinct (names_of (named_anew old new ms)) → AreDistinct (names_of (named_anew old new (m ∷ ms)))
  by true e below = rw e (fresh.1, h.1)
  by false e below = rw e (new_anew m.0 old new ms (λ q. fresh.0 (sym q)) h.0, below)

named_there : (old new : List ℕ) (ms : Pairs) (d : List ℕ × Json) → place_of old (names_of ms) < length ms
    → set ms (place_of old (names_of ms)) (new, (get_or ms (place_of old (names_of ms)) d).1) ≡ named_anew old new ms
named_there old new [] d h = absurd (omega arith)
named_there old new (m ∷ ms) d h = by (bytes_eq old m.0) refl (named_there old new ms d) h where
  by : (t : Bool) → bytes_eq old m.0 ≡ t
      → (place_of old (names_of ms) < length ms → set ms (place_of old (names_of ms)) (new, (get_or ms (place_of old (names_of ms)) d).1) ≡ named_anew old new ms) → place_of old (names_of (m ∷ ms)) < length (m ∷ ms)
      → set (m ∷ ms) (place_of old (names_of (m ∷ ms))) (new, (get_or (m ∷ ms) (place_of old (names_of (m ∷ ms))) d).1) ≡ named_anew old new (m ∷ ms)
  by true e below h = rw e refl
  by false e below h = rw e (ap (λ l. m ∷ l) (below (let k = rw e at h in omega arith)))

-- the member at the place of the old name, under the new one
pub named_at : (old new : List ℕ) (ms : Pairs) (i : ℕ) (d : List ℕ × Json) → i ≡ place_of old (names_of ms) → i < length ms → d ≡ get_or ms i d → set ms i (new, d.1) ≡ named_anew old new ms
named_at old new ms i d e h q = let k = named_there old new ms d (rw (← e) h) in cc

-- no member has the old name
pub named_nowhere : (old new : List ℕ) (ms : Pairs) → length ms ≤ place_of old (names_of ms) → named_anew old new ms ≡ ms
named_nowhere old new [] h = refl
named_nowhere old new (m ∷ ms) h = by (bytes_eq old m.0) refl (named_nowhere old new ms) h where
  by : (t : Bool) → bytes_eq old m.0 ≡ t → (length ms ≤ place_of old (names_of ms) → named_anew old new ms ≡ ms) → length (m ∷ ms) ≤ place_of old (names_of (m ∷ ms)) → named_anew old new (m ∷ ms) ≡ m ∷ ms
  by true e below h = absurd (let k = rw e at h in omega arith)
  by false e below h = rw e (ap (λ l. m ∷ l) (below (let k = rw e at h in omega arith)))
