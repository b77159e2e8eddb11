-- Values added under the names of rows, and members that no row names.
use Rattle.std.proofs.Common.{◌≡◌, ℕ, zero, suc, ◌+◌, ◌<◌, ◌≤◌, List, [], ◌∷◌, ◌++◌, Some, option_map, slice_get, length, get_or, set, map, take, drop, refl, sym, ap, ap₂, ◌∙◌, add-one, append_assoc, arith}
use Rattle.json_value.specs.declared.Json.{Json, Str}
use Rattle.schema_rows.specs.declared.rows.Field.{Field}
use Rattle.schema_rows.specs.Rows.{row_of}
use Rattle.schema_write.specs.Written.{name_of, named_values}

-- one more value under the name of its row
named-next : (table : List Field) (values : List Json) (i : ℕ) (name : List ℕ) (v : Json) → i < length values → length values ≤ length table
    → option_map name_of (slice_get table i) ≡ Some name → v ≡ get_or values i v
    → take (suc i) (named_values (map row_of table) values) ≡ take i (named_values (map row_of table) values) ++ (name, v) ∷ []
named-next [] values i name v h long p q = absurd (omega (arith, h, long))
named-next (g ∷ table) [] i name v h long p q = absurd (omega (arith, h))
named-next (g ∷ table) (w ∷ values) zero name v h long p q = let n : g.name.now ≡ name = cc p in ap₂ (λ a b. (a, b) ∷ []) n (sym q)
named-next (g ∷ table) (w ∷ values) (suc i) name v h long p q = ap (λ l. (g.name.now, w) ∷ l) (named-next table values i name v (omega arith) (omega (arith, long)) p q)

pub row_added : (old : List (List ℕ × Json)) (table : List Field) (values : List Json) (i : ℕ) (now : List (List ℕ × Json)) (name : List ℕ) (v : Json) → i < length values
    → length values ≤ length table → now ≡ old ++ take i (named_values (map row_of table) values) → option_map name_of (slice_get table i) ≡ Some name → v ≡ get_or values i v
    → now ++ (name, v) ∷ [] ≡ old ++ take (i + 1) (named_values (map row_of table) values)
row_added old table values i now name v h long is p q =
    ap (λ l. l ++ (name, v) ∷ []) is
    ∙ append_assoc old (take i (named_values (map row_of table) values)) ((name, v) ∷ [])
    ∙ ap (λ l. old ++ l) (sym (named-next table values i name v h long p q)) ∙ ap (λ k. old ++ take k (named_values (map row_of table) values)) (sym (add-one i))

-- all rows
all_named : (table : List Field) (values : List Json) (i : ℕ) → length values ≤ i → take i (named_values (map row_of table) values) ≡ named_values (map row_of table) values
all_named [] values zero h = refl
all_named [] values (suc i) h = refl
all_named (g ∷ table) [] zero h = refl
all_named (g ∷ table) [] (suc i) h = refl
all_named (g ∷ table) (w ∷ values) zero h = absurd (omega (arith, h))
all_named (g ∷ table) (w ∷ values) (suc i) h = ap (λ l. (g.name.now, w) ∷ l) (all_named table values i (omega (arith, h)))

pub rows_added : (old now : List (List ℕ × Json)) (table : List Field) (values : List Json) (i : ℕ) → length values ≤ i
    → now ≡ old ++ take i (named_values (map row_of table) values) → now ≡ old ++ named_values (map row_of table) values
rows_added old now table values i h is = is ∙ ap (λ l. old ++ l) (all_named table values i h)

none_left : {X : Type 0} (i : ℕ) (ys : List X) (d : X) → [] ≡ drop i ys → d ≡ get_or ys i d
none_left zero ys d h = ap (λ l. get_or l 0 d) h
none_left (suc i) [] d h = refl
none_left (suc i) (y ∷ ys) d h = none_left i ys d h

-- what is left of a list, where the first of it is read
pub left-read : {X : Type 0} (xs ys : List X) (i : ℕ) (d : X) → drop i xs ≡ drop i ys → get_or xs i d ≡ get_or ys i d
left-read xs ys zero d h = ap (λ l. get_or l 0 d) h
left-read [] [] (suc i) d h = refl
left-read [] (y ∷ ys) (suc i) d h = none_left i ys d h
left-read (x ∷ xs) [] (suc i) d h = sym (none_left i xs d (sym h))
left-read (x ∷ xs) (y ∷ ys) (suc i) d h = left-read xs ys i d h

set_behind : {X : Type 0} (xs : List X) (i : ℕ) (z : X) → drop (suc i) (set xs i z) ≡ drop (suc i) xs
set_behind [] zero z = refl
set_behind [] (suc i) z = refl
set_behind (x ∷ xs) zero z = refl
set_behind (x ∷ xs) (suc i) z = set_behind xs i z

abbrev tail : {X : Type 0} → List X → List X
tail [] = []
tail (x ∷ xs) = xs

tail-drop : {X : Type 0} (xs : List X) (i : ℕ) → tail (drop i xs) ≡ drop (suc i) xs
tail-drop [] zero = refl
tail-drop [] (suc i) = refl
tail-drop (x ∷ xs) zero = refl
tail-drop (x ∷ xs) (suc i) = tail-drop xs i

-- and replaced
pub left-behind : {X : Type 0} (xs ys : List X) (i : ℕ) (z : X) → drop i xs ≡ drop i ys → drop (i + 1) (set xs i z) ≡ drop (i + 1) ys
left-behind xs ys i z h =
    ap (λ k. drop k (set xs i z)) (add-one i) ∙ set_behind xs i z ∙ sym (tail-drop xs i) ∙ ap tail h ∙ tail-drop ys i ∙ ap (λ k. drop k ys) (sym (add-one i))

-- the schema, the rows and the others, one after another
pub all_added : {X : Type 0} (new behind front none rows rest : List X) (x : X) → new ≡ behind ++ rest → behind ≡ front ++ rows → front ≡ none ++ x ∷ [] → none ≡ [] → new ≡ x ∷ (rows ++ rest)
all_added new behind front none rows rest x a b c d =
    a ∙ ap (λ l. l ++ rest) (b ∙ ap (λ l. l ++ rows) (c ∙ ap (λ l. l ++ x ∷ []) d))

-- the same where the schema's text was made before
pub object_added : (new behind front none rows rest : List (List ℕ × Json)) (key name text of : List ℕ)
    → new ≡ behind ++ rest → behind ≡ front ++ rows → front ≡ none ++ (key, Str text) ∷ []
    → none ≡ [] → key ≡ name → text ≡ of → new ≡ (name, Str of) ∷ (rows ++ rest)
object_added new behind front none rows rest key name text of a b c d e f =
    all_added new behind front none rows rest (name, Str of) a b
    (c ∙ ap₂ (λ (k t : List ℕ). none ++ (k, Str t) ∷ []) e f) d

-- as many values as a table has rows
pub table-length : (table : List Field) (values : List Json)
    → length values ≡ length (map row_of table) → length values ≡ length table
table-length table values h = h ∙ same table
  where
    same : (table : List Field) → length (map row_of table) ≡ length table
    same [] = refl
    same (f ∷ table) = ap suc (same table)
