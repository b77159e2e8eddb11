-- An object of a schema once its rows are read, and a whole value.
use Rattle.std.proofs.Common.{◌≡◌, ◌≢◌, ◌≤◌, ℕ, List, Option, Some, Result, Ok, Err, IfOk, IfErr, MatchOption, true, false, map, sym, ap, subst, ◌∙◌}
use Rattle.std.specs.List.{list_any}
use Rattle.json_value.specs.declared.Json.{Json}
use Rattle.schema_rows.specs.declared.faults.SchemaFault.{SchemaFault}
use Rattle.schema_rows.specs.declared.faults.SchemaFault.TheVariants as F
use Rattle.schema_rows.specs.declared.schemas.Schema.{Schema}
use Rattle.schema_rows.specs.declared.values.Fields.{Fields}
use Rattle.schema_rows.specs.declared.values.Value.{Value}
use Rattle.schema_rows.specs.Schemas.{rows_of, version_of, named, IsObjectOf, IsForeign}
use Rattle.schema_rows.specs.Readings.{known}
use Rattle.schema_rows.specs.Families.{child, breaks, stilled, others}
use Rattle.schema_rows.specs.Stands.{Gives_rows, Gives_fields, fields, Gives_reading, as_child, as_member, as_kept, as_missing, as_medium}
use Rattle.schema_rows.specs.Faults.{Refuses_fields, transitions}

pub child_fields : (family : List Schema) (json : Json) (read : Fields) → Gives_reading (child family) json (known read) → Gives_fields family json read
child_fields family json read (as_child _ _ _ f r w k g) =
    let e : family ≡ f = cc in
    let e2 : read ≡ r = cc in
    subst (λ (x : Fields). Gives_fields family json x) (sym e2) (subst (λ (x : List Schema). Gives_fields x json r) (sym e) g)
child_fields family json read (as_member _ _ _ f r w k g) = absurd (cc)
child_fields family json read (as_kept _ _ _ f w k g) = absurd (cc)
child_fields family json read (as_missing _ _ _ w j k) = absurd (cc)
child_fields family json read (as_medium _ _ _ w n g) = absurd (cc)

pub object_read : (r : Result (Option Fields) SchemaFault) (family : List Schema) (json : Json) (schema : Schema) (values : List Value) (members : List (List ℕ × Json)) (name : List ℕ) (version : ℕ)
    → IsObjectOf json members name version → named name family ≡ Some schema → version ≤ version_of schema → Gives_rows (rows_of schema) members values
    → IfOk r (λ found. (f : Fields) × (found ≡ Some f) × (list_any (breaks schema) values ≡ false) × (f.schema ≡ schema) × (f.values ≡ map (stilled schema) values) × (f.rest ≡ others (rows_of schema) members))
    → IfOk r (λ found. MatchOption found (IsForeign family json) (Gives_fields family json))
object_read (Err fault) family json schema values members name version o n v g h = tt
object_read (Ok found) family json schema values members name version o n v g (f, e, fine, s, is, rest) =
    let back = sym s in
    let read : Gives_fields family json f = fields family json f members name version values o (n ∙ ap Some back) (subst (λ (x : Schema). version ≤ version_of x) back v)
    (subst (λ (x : Schema). Gives_rows (rows_of x) members values) back g) (subst (λ (x : Schema). list_any (breaks x) values ≡ false) back fine)
    (subst (λ (x : Schema). f.values ≡ map (stilled x) values) back is) (subst (λ (x : Schema). f.rest ≡ others (rows_of x) members) back rest) in
    subst (λ (x : Option Fields). MatchOption x (IsForeign family json) (Gives_fields family json)) (sym e) read

pub object_refused : (r : Result (Option Fields) SchemaFault) (place : List ℕ) (family : List Schema) (json : Json) (schema : Schema) (values : List Value) (members : List (List ℕ × Json)) (name : List ℕ) (version : ℕ)
    → IsObjectOf json members name version → named name family ≡ Some schema → version ≤ version_of schema → Gives_rows (rows_of schema) members values
    → IfErr r (λ fault. fault ≢ F.Memory → (list_any (breaks schema) values ≡ true) × (fault ≡ F.Transitions place))
    → IfErr r (λ fault. fault ≢ F.Memory → Refuses_fields place family json fault)
object_refused (Ok found) place family json schema values members name version o n v g h = tt
object_refused (Err fault) place family json schema values members name version o n v g h = λ m. transitions place family json fault members name version schema values o n v g (h m).0 (h m).1

-- a value that is no object of a schema
pub foreign_any : (json : Json) (family : List Schema) → ((m : List (List ℕ × Json)) (n : List ℕ) (v : ℕ) → IsObjectOf json m n v → ⊥) → IsForeign family json
foreign_any json family h = λ m n v b. absurd (h m n v b)
