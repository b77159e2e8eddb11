-- Members of objects of older schemas, upgraded.
use Rattle.std.proofs.Common.{◌≡◌, ◌≢◌, ℕ, Bool, true, false, List, [], ◌∷◌, ◌++◌, refl, sym, ap, ap₂, ◌∙◌}
use Rattle.std.specs.List.{list_any}
use Rattle.std.specs.Str.{bytes_eq}
use Rattle.std.proofs.lemmas.Bool.{false≢true}
use Rattle.json_value.specs.declared.Json.{Json, Str, Map}
use Rattle.json_value.specs.declared.Json.TheVariants as J
use Rattle.json_value.specs.declared.Json.TheOpen.{Json-F}
use Rattle.sequences.specs.Pairs.{value_of, put}
use Rattle.schema_rows.specs.Rows.{Row as TableRow}
use Rattle.schema_up.specs.declared.old_names.Form.{Form}
use Rattle.schema_up.specs.declared.old_names.Row.{Row}
use Rattle.schema_up.specs.declared.old_names.Row.TheVariants.{Kept, Object}
use Rattle.schema_up.specs.Names.{schema_in, schema_or_other, schema_named, string_in}
use Rattle.schema_up.specs.UpgradeRows.{row_of, where_holds}
use Rattle.schema_up.specs.Upgrades.{Pairs, upgraded, upgraded_at, pair_at, pairs_at, renewed, without}
use Rattle.schema_rows.specs.Schemas.{schema_key}
use Rattle.schema_rows.specs.Families.{others}
use Rattle.schema_up.proofs.PutLemmas.{differs, Lacks}
use Rattle.schema_up.proofs.Levels.{upgraded_at-Map, upgraded_at-Str, kept_same}
use Rattle.schema_write.specs.Written.{named_values}
use Rattle.schema_write.proofs.Distinct.{fixed, Excludes}

-- the schema of members that begin with its text
pub schema_first : (text : List ℕ) (ms : Pairs) → schema_in ((schema_key, Str text) ∷ ms)
    ≡ schema_named text
schema_first text ms = ap (λ (layer : Json-F Json). schema_or_other (string_in layer)) (J.outs-Str text)

-- values under the names of rows become these
abbrev pub Become : Form → List TableRow → List Json → List Json → Type 0
Become form (row ∷ rows) (x ∷ xs) (y ∷ ys) =
    (upgraded_at x (row_of form row.name) ≡ y) × Become form rows xs ys
Become form rows [] [] = Unit {0}
Become form rows xs ys = ⊥

pub named_become : (form : Form) (rows : List TableRow) (xs ys : List Json)
    → Become form rows xs ys
    → pairs_at Object form (named_values rows xs) ≡ named_values rows ys
named_become form [] [] [] h = refl
named_become form [] [] (y ∷ ys) h = absurd h
named_become form [] (x ∷ xs) [] h = absurd h
named_become form [] (x ∷ xs) (y ∷ ys) h = absurd h
named_become form (row ∷ rows) [] [] h = refl
named_become form (row ∷ rows) [] (y ∷ ys) h = absurd h
named_become form (row ∷ rows) (x ∷ xs) [] h = absurd h
named_become form (row ∷ rows) (x ∷ xs) (y ∷ ys) h =
    ap₂ (λ (v : Json) (l : Pairs). (row.name, v) ∷ l) h.0 (named_become form rows xs ys h.1)

-- members with names that stand for nothing stay
abbrev pub Stay : Form → Pairs → Type 0
Stay form [] = Unit {0}
Stay form (m ∷ ms) = (row_of form m.0 ≡ Kept) × Stay form ms

pub stay_same : (form : Form) (ms : Pairs) → Stay form ms → pairs_at Object form ms ≡ ms
stay_same form [] h = refl
stay_same form (m ∷ ms) h = ap₂ (λ (v : Json) (l : Pairs). (m.0, v) ∷ l)
    (ap (upgraded_at m.1) h.0 ∙ kept_same m.1) (stay_same form ms h.1)

pub pairs_append : (form : Form) (xs ys : Pairs)
    → pairs_at Object form (xs ++ ys) ≡ pairs_at Object form xs ++ pairs_at Object form ys
pairs_append form [] ys = refl
pairs_append form (x ∷ xs) ys =
    ap (λ (l : Pairs). pair_at Object form x ∷ l) (pairs_append form xs ys)

-- what an object with a schema's text, values of rows and other members becomes
pub object_becomes : (form : Form) (text : List ℕ) (rows : List TableRow) (xs ys : List Json)
    (rest : Pairs) → schema_named text ≡ form → row_of form schema_key ≡ Kept
    → Become form rows xs ys → Stay form rest
    → upgraded (Map ((schema_key, Str text) ∷ (named_values rows xs ++ rest)))
    ≡ Map (renewed form ((schema_key, Str text) ∷ (named_values rows ys ++ rest)))
object_becomes form text rows xs ys rest is key h stay =
    let ms = (schema_key, Str text) ∷ (named_values rows xs ++ rest) in
    let same = schema_first text (named_values rows xs ++ rest) ∙ is in
    let head = ap (upgraded_at (Str text)) key ∙ upgraded_at-Str text Kept in
    let tail = pairs_append form (named_values rows xs) rest
    ∙ ap₂ (λ (a b : Pairs). a ++ b) (named_become form rows xs ys h) (stay_same form rest stay) in
    upgraded_at-Map ms Object
    ∙ ap (λ (f : Form). Map (renewed f (pairs_at Object f ms))) same
    ∙ ap₂ (λ (v : Json) (l : Pairs). Map (renewed form ((schema_key, v) ∷ l))) head tail

pub value_lacks : (name : List ℕ) (ms more : Pairs) → Lacks name ms
    → value_of name (ms ++ more) ≡ value_of name more
value_lacks name [] more h = refl
value_lacks name (m ∷ ms) more h = rw h.0 (value_lacks name ms more h.1)

pub without_lacks : (name : List ℕ) (ms : Pairs) → Lacks name ms → without name ms ≡ ms
without_lacks name [] h = refl
without_lacks name (m ∷ ms) h = rw h.0 (ap (λ (l : Pairs). m ∷ l) (without_lacks name ms h.1))

pub put_lacks : (name : List ℕ) (x : Json) (ms more : Pairs) → Lacks name ms
    → put name x (ms ++ more) ≡ ms ++ put name x more
put_lacks name x [] more h = refl
put_lacks name x (m ∷ ms) more h = rw h.0 (ap (λ (l : Pairs). m ∷ l) (put_lacks name x ms more h.1))

pub put_end : (name : List ℕ) (x : Json) (ms : Pairs) → Lacks name ms
    → put name x ms ≡ ms ++ (name, x) ∷ []
put_end name x [] h = refl
put_end name x (m ∷ ms) h = rw h.0 (ap (λ (l : Pairs). m ∷ l) (put_end name x ms h.1))

-- no member of that name was found
pub lacks_by : (name : List ℕ) (ms : Pairs)
    → list_any (λ (m : List ℕ × Json). bytes_eq name m.0) ms ≡ false → Lacks name ms
lacks_by name [] h = tt
lacks_by name (m ∷ ms) h = by (bytes_eq name m.0) refl h (lacks_by name ms)
  where
    by : (t : Bool) → bytes_eq name m.0 ≡ t
        → list_any (λ (m : List ℕ × Json). bytes_eq name m.0) (m ∷ ms) ≡ false
        → (list_any (λ (m : List ℕ × Json). bytes_eq name m.0) ms ≡ false → Lacks name ms)
        → Lacks name (m ∷ ms)
    by true e h below = absurd (false≢true (sym (rw e at h)))
    by false e h below = (e, below (rw e at h))

-- the members that a table has no row for stay, where no name that passes stands for anything
pub others_stay : (form : Form) (rows : List TableRow) (ms : Pairs)
    → ((name : List ℕ) → fixed rows name ≡ false → row_of form name ≡ Kept)
    → Stay form (others rows ms)
others_stay form rows [] h = tt
others_stay form rows (m ∷ ms) h = by (fixed rows m.0) refl (others_stay form rows ms h)
  where
    by : (t : Bool) → fixed rows m.0 ≡ t → Stay form (others rows ms)
        → Stay form (others rows (m ∷ ms))
    by true e below = rw e below
    by false e below = rw e (h m.0 e, below)

-- and none of them has the name of a row
pub others_lack : (name : List ℕ) (rows : List TableRow) (ms : Pairs) → Excludes rows name
    → Lacks name (others rows ms)
others_lack name rows [] h = tt
others_lack name rows (m ∷ ms) h = by (fixed rows m.0) refl (others_lack name rows ms h)
  where
    by : (t : Bool) → fixed rows m.0 ≡ t → Lacks name (others rows ms)
        → Lacks name (others rows (m ∷ ms))
    by true e below = rw e below
    by false e below = rw e (differs name m.0 (λ same. h m.0 e (sym same)), below)

-- a name that isn't one
pub where_not : (name other : List ℕ) (row : Row) → name ≢ other
    → where_holds (bytes_eq name other) row ≡ Kept
where_not name other row h = rw (differs name other h) refl
