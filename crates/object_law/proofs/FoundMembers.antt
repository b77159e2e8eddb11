-- The members of an object in the written order, by their names.
use Rattle.std.proofs.Common.{◌≡◌, ◌≢◌, inr, ℕ, Bool, true, false, List, [], ◌∷◌, ◌++◌, Some, refl, sym, ap, ◌∙◌}
use Rattle.std.specs.Str.{bytes_eq}
use Rattle.std.proofs.lemmas.Bool.{false≢true, or_left, or_right}
use Rattle.std.proofs.lemmas.Slice.Eq.{bytes_eq-Decides}
use Rattle.json_value.specs.declared.Json.{Json}
use Rattle.json_value.specs.declared.Json.TheVariants as J
use Rattle.sequences.specs.Pairs.{value_of, IsNew, AreDistinct}
use Rattle.schema_rows.specs.Rows.{Row}
use Rattle.schema_rows.specs.declared.values.Value.{Value}
use Rattle.schema_rows.specs.Schemas.{schema_key}
use Rattle.schema_rows.specs.Defaults.{absent_value}
use Rattle.schema_rows.specs.Families.{is_row, others}
use Rattle.schema_rows.specs.Stands as W
use Rattle.schema_rows.specs.Stands.{Gives, Gives_row, Gives_rows}
use Rattle.schema_write.specs.Written.{named_values}
use Rattle.schema_up.proofs.PutLemmas.{self_name, differs}
use Rattle.schema_rows.proofs.Distinct.{row_names}
use Rattle.schema_write.proofs.Distinct.{fixed}

-- a row's value in JSON: what gives it, or null where it is the one that stands for an absent member
pub data Holds (row : Row) (json : Json) (value : Value) : Type 0 where
  given : json ≢ J.Null → Gives row.kind json value → Holds row json value
  left_out : json ≡ J.Null → absent_value row ≡ Some value → Holds row json value

abbrev pub HoldsAll : List Row → List Json → List Value → Type 0
HoldsAll [] [] [] = Unit {0}
HoldsAll (row ∷ rows) (json ∷ jsons) (value ∷ values) = Holds row json value × HoldsAll rows jsons values
HoldsAll _ _ _ = ⊥

-- a name of a row is not a name that no row has
apart_name : (n name : List ℕ) (rows : List Row) → IsNew n (row_names rows) → is_row rows name ≡ true → bytes_eq name n ≡ false
apart_name n name [] new h = absurd (false≢true h)
apart_name n name (row ∷ rows) new h = by (bytes_eq name row.name) refl h (apart_name n name rows new.1)
  where
    by : (t : Bool) → bytes_eq name row.name ≡ t → is_row (row ∷ rows) name ≡ true → (is_row rows name ≡ true → bytes_eq name n ≡ false) → bytes_eq name n ≡ false
    by true e here below = differs name n (λ same. new.0 (sym same ∙ (bytes_eq-Decides name row.name).0 e))
    by false e here below = below (rw e at here)

first_row : (row : Row) (rows : List Row) → is_row (row ∷ rows) row.name ≡ true
first_row row rows = or_left (bytes_eq row.name row.name) (is_row rows row.name) (self_name row.name)

first_value : (n : List ℕ) (json : Json) (rest : List (List ℕ × Json)) → value_of n ((n, json) ∷ rest) ≡ Some json
first_value n json rest = rw (self_name n) refl

pub later_value : (name n : List ℕ) (json : Json) (rest : List (List ℕ × Json)) → bytes_eq name n ≡ false → value_of name ((n, json) ∷ rest) ≡ value_of name rest
later_value name n json rest e = rw e refl

pub row_stands : (row : Row) (members : List (List ℕ × Json)) (json : Json) (value : Value) → value_of row.name members ≡ Some json → Holds row json value → Gives_row row members value
row_stands row members json value at (given some g) = W.present row members value json (at, some) g
row_stands row members json value at (left_out null v) = W.absent row members value (inr (at ∙ ap Some null)) v

-- each row has its value among members where its name is found as among the values under the rows' names
pub rows_stand : (rows : List Row) (jsons : List Json) (values : List Value) (members tail : List (List ℕ × Json)) → AreDistinct (row_names rows)
    → ((name : List ℕ) → is_row rows name ≡ true → value_of name members ≡ value_of name (named_values rows jsons ++ tail)) → HoldsAll rows jsons values → Gives_rows rows members values
rows_stand [] [] [] members tail d find h = W.no_rows [] members [] refl refl
rows_stand (row ∷ rows) (json ∷ jsons) (value ∷ values) members tail d find h =
    let rest = named_values rows jsons ++ tail in
    let at : value_of row.name members ≡ Some json = find row.name (first_row row rows) ∙ first_value row.name json (named_values rows jsons ++ tail) in
    W.more_rows (row ∷ rows) members (value ∷ values) row rows value values refl refl (row_stands row members json value at h.0)
    (rows_stand rows jsons values members tail d.1
    (λ name e. find name (or_right (bytes_eq name row.name) (is_row rows name) e) ∙ later_value name row.name json (named_values rows jsons ++ tail) (apart_name row.name name rows d.0 e)) h.1)
rows_stand _ _ _ members tail d find h = absurd h

-- a name of a row isn't that of the schema
pub not_schema : (name : List ℕ) (rows : List Row) (text : Json) (rest : List (List ℕ × Json)) → AreDistinct (schema_key ∷ row_names rows) → is_row rows name ≡ true
    → value_of name ((schema_key, text) ∷ rest) ≡ value_of name rest
not_schema name rows text rest d h = later_value name schema_key text rest (apart_name schema_key name rows d.0 h)

pub others_drop : (rows : List Row) (m : List ℕ × Json) (ms : List (List ℕ × Json)) → fixed rows m.0 ≡ true → others rows (m ∷ ms) ≡ others rows ms
others_drop rows m ms e = rw e refl

others_keep : (rows : List Row) (m : List ℕ × Json) (ms : List (List ℕ × Json)) → fixed rows m.0 ≡ false → others rows (m ∷ ms) ≡ m ∷ others rows ms
others_keep rows m ms e = rw e refl

-- the values under the names of rows are none of the others
others_named : (rows some : List Row) (jsons : List Json) (tail : List (List ℕ × Json)) → ((name : List ℕ) → is_row some name ≡ true → is_row rows name ≡ true)
    → others rows (named_values some jsons ++ tail) ≡ others rows tail
others_named rows [] jsons tail within = refl
others_named rows (row ∷ some) [] tail within = refl
others_named rows (row ∷ some) (json ∷ jsons) tail within =
    others_drop rows (row.name, json) (named_values some jsons ++ tail) (or_right (bytes_eq row.name schema_key) (is_row rows row.name) (within row.name (first_row row some)))
    ∙ others_named rows some jsons tail (λ name h. within name (or_right (bytes_eq name row.name) (is_row some name) h))

-- the others of the others are all of them
pub others_twice : (rows : List Row) (ms : List (List ℕ × Json)) → others rows (others rows ms) ≡ others rows ms
others_twice rows [] = refl
others_twice rows (m ∷ ms) = by (fixed rows m.0) refl (others_twice rows ms)
  where
    by : (t : Bool) → fixed rows m.0 ≡ t → others rows (others rows ms) ≡ others rows ms → others rows (others rows (m ∷ ms)) ≡ others rows (m ∷ ms)
    by true e below = ap (others rows) (others_drop rows m ms e) ∙ below ∙ sym (others_drop rows m ms e)
    by false e below =
        ap (others rows) (others_keep rows m ms e) ∙ others_keep rows m (others rows ms) e ∙ ap (λ (l : List (List ℕ × Json)). m ∷ l) below ∙ sym (others_keep rows m ms e)

-- the others of an object in the written order
pub others_written : (rows : List Row) (jsons : List Json) (rest : List (List ℕ × Json)) (text : Json)
    → others rows ((schema_key, text) ∷ (named_values rows jsons ++ others rows rest)) ≡ others rows rest
others_written rows jsons rest text =
    others_drop rows (schema_key, text) (named_values rows jsons ++ others rows rest) refl ∙ others_named rows rows jsons (others rows rest) (λ name h. h) ∙ others_twice rows rest
