-- The names of an object's members in the written order are distinct.
use Rattle.std.proofs.Common.{◌≡◌, ◌≢◌, ℕ, Bool, true, false, ◌||◌, List, [], ◌∷◌, ◌++◌, length, refl, sym, ap, arith}
use Rattle.std.specs.Str.{bytes_eq}
use Rattle.json_value.specs.declared.Json.{Json}
use Rattle.sequences.specs.Pairs.{names_of, IsNew, AreDistinct}
use Rattle.sequences.proofs.PairLemmas.{apart}
use Rattle.schema_rows.specs.Rows.{Row}
use Rattle.schema_rows.specs.declared.schemas.Schema.{Schema}
use Rattle.schema_rows.specs.Schemas.{schema_key, rows_of}
use Rattle.schema_rows.specs.Families.{is_row, others}
use Rattle.schema_rows.proofs.Distinct.{row_names, table_distinct}
use Rattle.schema_write.specs.Written.{named_values}

-- the test by which a member is none of the others
abbrev pub fixed : List Row → List ℕ → Bool
fixed rows name = bytes_eq name schema_key || is_row rows name

-- no name that passes is the name n
abbrev pub Excludes : List Row → List ℕ → Type 0
Excludes rows n = (name : List ℕ) → fixed rows name ≡ false → name ≢ n

-- nor one of these
abbrev pub ExcludesAll : List Row → List (List ℕ) → Type 0
ExcludesAll rows [] = Unit {0}
ExcludesAll rows (n ∷ ns) = Excludes rows n × ExcludesAll rows ns

left_false : (s t : Bool) → (s || t) ≡ false → s ≡ false
left_false true t h = absurd (cc h)
left_false false t h = refl

right_false : (s t : Bool) → (s || t) ≡ false → t ≡ false
right_false true t h = absurd (cc h)
right_false false t h = h

-- the names of some of the rows
excludes_rows : (rows some : List Row) → ((name : List ℕ) → fixed rows name ≡ false → is_row some name ≡ false) → ExcludesAll rows (row_names some)
excludes_rows rows [] h = tt
excludes_rows rows (row ∷ some) h = (
  λ name passes. apart name row.name (left_false (bytes_eq name row.name) (is_row some name) (h name passes)),
  excludes_rows rows some (λ name passes. right_false (bytes_eq name row.name) (is_row some name) (h name passes)),
)

pub excludes_head : (rows : List Row) → ExcludesAll rows (schema_key ∷ row_names rows)
excludes_head rows = (
  λ name passes. apart name schema_key (left_false (bytes_eq name schema_key) (is_row rows name) passes),
  excludes_rows rows rows (λ name passes. right_false (bytes_eq name schema_key) (is_row rows name) passes),
)

-- a name that is excluded is new among the others
others_new : (rows : List Row) (n : List ℕ) (rest : List (List ℕ × Json)) → Excludes rows n → IsNew n (names_of (others rows rest))
others_new rows n [] h = tt
others_new rows n (m ∷ rest) h = by (fixed rows m.0) refl (others_new rows n rest h)
  where
    by : (t : Bool) → fixed rows m.0 ≡ t → IsNew n (names_of (others rows rest)) → IsNew n (names_of (others rows (m ∷ rest)))
    by true e below = rw e below
    by false e below = rw e (λ same. h m.0 e (sym same), below)

-- a new name stays new
kept_new : (rows : List Row) (n : List ℕ) (rest : List (List ℕ × Json)) → IsNew n (names_of rest) → IsNew n (names_of (others rows rest))
kept_new rows n [] h = tt
kept_new rows n (m ∷ rest) h = by (fixed rows m.0) refl (kept_new rows n rest h.1)
  where
    by : (t : Bool) → fixed rows m.0 ≡ t → IsNew n (names_of (others rows rest)) → IsNew n (names_of (others rows (m ∷ rest)))
    by true e below = rw e below
    by false e below = rw e (h.0, below)

-- the others have distinct names
pub others_distinct : (rows : List Row) (rest : List (List ℕ × Json)) → AreDistinct (names_of rest) → AreDistinct (names_of (others rows rest))
others_distinct rows [] h = tt
others_distinct rows (m ∷ rest) h = by (fixed rows m.0) refl (others_distinct rows rest h.1)
  where
    by : (t : Bool) → fixed rows m.0 ≡ t → AreDistinct (names_of (others rows rest)) → AreDistinct (names_of (others rows (m ∷ rest)))
    by true e below = rw e below
    by false e below = rw e (kept_new rows m.0 rest h.0, below)

new_joined : (n : List ℕ) (xs ys : List (List ℕ)) → IsNew n xs → IsNew n ys → IsNew n (xs ++ ys)
new_joined n [] ys h k = k
new_joined n (x ∷ xs) ys h k = (h.0, new_joined n xs ys h.1 k)

joined : (rows : List Row) (heads : List (List ℕ)) (rest : List (List ℕ × Json)) → AreDistinct heads → ExcludesAll rows heads → AreDistinct (names_of rest)
    → AreDistinct (heads ++ names_of (others rows rest))
joined rows [] rest h e d = others_distinct rows rest d
joined rows (n ∷ heads) rest h e d =
    (new_joined n heads (names_of (others rows rest)) h.0 (others_new rows n rest e.0), joined rows heads rest h.1 e.1 d)

-- the names of a value for each row, and of other pairs
names_joined : (rows : List Row) (values : List Json) (pairs : List (List ℕ × Json)) → length values ≡ length rows
    → names_of (named_values rows values ++ pairs) ≡ row_names rows ++ names_of pairs
names_joined [] [] pairs h = refl
names_joined [] (v ∷ values) pairs h = absurd (omega (arith, h))
names_joined (row ∷ rows) [] pairs h = absurd (omega (arith, h))
names_joined (row ∷ rows) (v ∷ values) pairs h = ap (λ names. row.name ∷ names) (names_joined rows values pairs (omega (arith, h)))

-- the names of an object in the written order
pub written_distinct : (schema : Schema) (rows : List Row) (values : List Json) (rest : List (List ℕ × Json)) (text : Json) → rows ≡ rows_of schema → length values ≡ length rows
    → AreDistinct (names_of rest) → AreDistinct (names_of ((schema_key, text) ∷ (named_values rows values ++ others rows rest)))
written_distinct schema rows values rest text e long d =
    let heads : AreDistinct (schema_key ∷ row_names rows) = rw e (table_distinct schema) in
    let all = joined rows (schema_key ∷ row_names rows) rest heads (excludes_head rows) d in
    rw (names_joined rows values (others rows rest) long) all
