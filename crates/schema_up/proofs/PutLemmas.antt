-- Members where a value is put, and members that lack a name.
use Rattle.std.proofs.Common.{◌≡◌, ◌≢◌, ℕ, Bool, true, false, List, [], ◌∷◌, Some, refl, sym, ap, ◌∙◌}
use Rattle.std.specs.Str.{bytes_eq}
use Rattle.std.proofs.lemmas.Slice.Eq.{bytes_eq-Decides}
use Rattle.json_value.specs.declared.Json.{Json}
use Rattle.sequences.specs.Pairs.{value_of, put}
use Rattle.schema_up.specs.Upgrades.{Pairs}

-- a name is itself, and no other
pub self_name : (n : List ℕ) → bytes_eq n n ≡ true
self_name n = (bytes_eq-Decides n n).1 refl

pub differs : (a b : List ℕ) → a ≢ b → bytes_eq a b ≡ false
differs a b other = by (bytes_eq a b) refl
  where
    by : (t : Bool) → bytes_eq a b ≡ t → bytes_eq a b ≡ false
    by true e = absurd (other ((bytes_eq-Decides a b).0 e))
    by false e = e

-- the value that was put
pub put_same : (name : List ℕ) (x : Json) (ms : Pairs) → value_of name (put name x ms) ≡ Some x
put_same name x [] = rw (self_name name) refl
put_same name x (m ∷ ms) = by (bytes_eq name m.0) refl (put_same name x ms)
  where
    by : (t : Bool) → bytes_eq name m.0 ≡ t → value_of name (put name x ms) ≡ Some x
        → value_of name (put name x (m ∷ ms)) ≡ Some x
    by true e below = rw (e, self_name name) refl
    by false e below = rw (e, e) below

-- and the values of other names, which stay
pub put_other : (name other : List ℕ) (x : Json) (ms : Pairs) → bytes_eq name other ≡ false
    → value_of name (put other x ms) ≡ value_of name ms
put_other name other x [] h = rw h refl
put_other name other x (m ∷ ms) h = by (bytes_eq other m.0) refl (put_other name other x ms h)
  where
    by : (t : Bool) → bytes_eq other m.0 ≡ t
        → value_of name (put other x ms) ≡ value_of name ms
        → value_of name (put other x (m ∷ ms)) ≡ value_of name (m ∷ ms)
    by true e below =
        let same : other ≡ m.0 = (bytes_eq-Decides other m.0).0 e in
        let apart : bytes_eq name m.0 ≡ false = ap (bytes_eq name) (sym same) ∙ h in
        rw (e, h, apart) refl
    by false e below = rw (e, below) refl

-- none of the members has the name
abbrev pub Lacks : List ℕ → Pairs → Type 0
Lacks name [] = Unit {0}
Lacks name (m ∷ ms) = (bytes_eq name m.0 ≡ false) × Lacks name ms
