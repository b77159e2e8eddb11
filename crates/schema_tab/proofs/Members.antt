-- What a row has, from what its member gives, and what a member gives, from what its list gives.
use Rattle.std.proofs.Common.{◌≡◌, ◌≢◌, ℕ, List, Result, Ok, Err, Some, None, IfOk, IfErr, map, sym, subst}
use Rattle.json_value.specs.declared.Json.{Json}
use Rattle.json_value.specs.declared.Json.TheVariants as J
use Rattle.schema_rows.specs.declared.faults.SchemaFault.{SchemaFault}
use Rattle.schema_rows.specs.declared.faults.SchemaFault.TheVariants as F
use Rattle.schema_rows.specs.declared.schemas.TheConstants as C
use Rattle.schema_rows.specs.declared.values.Value.{Value}
use Rattle.schema_rows.specs.Rows.{Row, RowKind}
use Rattle.schema_rows.specs.Rows as R
use Rattle.schema_rows.specs.Defaults.{absent_value}
use Rattle.schema_rows.specs.Families.{IsAbsent, IsGiven, child, member, medium}
use Rattle.schema_rows.specs.Stands.{Gives, Gives_row, present, absent}
use Rattle.schema_rows.specs.Faults.{IsWrong, Refuses, wrong, in_items, in_objects, in_effects, in_markers, in_media, in_stack, Refuses_row, missing, refused, Refuses_any, Refuses_reading}

pub row_given : (r : Result Value SchemaFault) (row : Row) (members : List (List ℕ × Json)) (json : Json) → IsGiven row.name members json
    → IfOk r (λ v. Gives row.kind json v) → IfOk r (λ v. Gives_row row members v)
row_given (Ok v) row members json g h = present row members v json g h
row_given (Err f) row members json g h = tt

pub row_refused : (r : Result Value SchemaFault) (place : List ℕ) (row : Row) (members : List (List ℕ × Json)) (json : Json) → IsGiven row.name members json
    → IfErr r (λ f. f ≢ F.Memory → Refuses place row json f) → IfErr r (λ f. f ≢ F.Memory → Refuses_row place row members f)
row_refused (Ok v) place row members json g h = tt
row_refused (Err f) place row members json g h = λ n. refused place row members f json g (h n)

pub row_absent : (r : Result Value SchemaFault) (row : Row) (members : List (List ℕ × Json)) → IsAbsent row.name members
    → IfOk r (λ v. absent_value row ≡ Some v) → IfOk r (λ v. Gives_row row members v)
row_absent (Ok v) row members g h = absent row members v g h
row_absent (Err f) row members g h = tt

pub row_missing : (r : Result Value SchemaFault) (place : List ℕ) (row : Row) (members : List (List ℕ × Json)) → IsAbsent row.name members
    → IfErr r (λ f. f ≢ F.Memory → (absent_value row ≡ None) × (f ≡ F.Field place row.name)) → IfErr r (λ f. f ≢ F.Memory → Refuses_row place row members f)
row_missing (Ok v) place row members g h = tt
row_missing (Err f) place row members g h = λ n. missing place row members f g (h n).0 (h n).1

pub gives_as : (r : Result Value SchemaFault) (kind to : RowKind) (json as_json : Json) → kind ≡ to → json ≡ as_json → IfOk r (λ v. Gives to as_json v) → IfOk r (λ v. Gives kind json v)
gives_as (Ok v) kind to json as_json k j h = subst (λ (x : RowKind). Gives x json v) (sym k) (subst (λ (x : Json). Gives to x v) (sym j) h)
gives_as (Err f) kind to json as_json k j h = tt

pub items_refused : (r : Result Value SchemaFault) (place : List ℕ) (row : Row) (json : Json) (list : List Json) → row.kind ≡ R.items → json ≡ J.List list
    → IfErr r (λ f. f ≢ F.Memory → Refuses_any (child C.ITEMS) place 0 list f) → IfErr r (λ f. f ≢ F.Memory → Refuses place row json f)
items_refused (Ok v) place row json list k j h = tt
items_refused (Err f) place row json list k j h = λ n. in_items place row json f list k j (h n)

pub objects_refused : (r : Result Value SchemaFault) (place : List ℕ) (row : Row) (json : Json) (list : List Json) → row.kind ≡ R.objects → json ≡ J.List list
    → IfErr r (λ f. f ≢ F.Memory → Refuses_any (child C.ROOTS) place 0 list f) → IfErr r (λ f. f ≢ F.Memory → Refuses place row json f)
objects_refused (Ok v) place row json list k j h = tt
objects_refused (Err f) place row json list k j h = λ n. in_objects place row json f list k j (h n)

pub effects_refused : (r : Result Value SchemaFault) (place : List ℕ) (row : Row) (json : Json) (list : List Json) → row.kind ≡ R.effects → json ≡ J.List list
    → IfErr r (λ f. f ≢ F.Memory → Refuses_any (member C.EFFECTS) place 0 list f) → IfErr r (λ f. f ≢ F.Memory → Refuses place row json f)
effects_refused (Ok v) place row json list k j h = tt
effects_refused (Err f) place row json list k j h = λ n. in_effects place row json f list k j (h n)

pub markers_refused : (r : Result Value SchemaFault) (place : List ℕ) (row : Row) (json : Json) (list : List Json) → row.kind ≡ R.markers → json ≡ J.List list
    → IfErr r (λ f. f ≢ F.Memory → Refuses_any (member C.MARKERS) place 0 list f) → IfErr r (λ f. f ≢ F.Memory → Refuses place row json f)
markers_refused (Ok v) place row json list k j h = tt
markers_refused (Err f) place row json list k j h = λ n. in_markers place row json f list k j (h n)

pub media_refused : (r : Result Value SchemaFault) (place : List ℕ) (row : Row) (json : Json) (members : List (List ℕ × Json)) → row.kind ≡ R.media → json ≡ J.Map members
    → IfErr r (λ f. f ≢ F.Memory → Refuses_any medium place 0 (map (λ (m : List ℕ × Json). m.1) members) f) → IfErr r (λ f. f ≢ F.Memory → Refuses place row json f)
media_refused (Ok v) place row json members k j h = tt
media_refused (Err f) place row json members k j h = λ n. in_media place row json f members k j (h n)

pub stack_refused : (r : Result Value SchemaFault) (place : List ℕ) (row : Row) (json : Json) → row.kind ≡ R.stack
    → IfErr r (λ f. f ≢ F.Memory → Refuses_reading (child C.STACKS) place json f) → IfErr r (λ f. f ≢ F.Memory → Refuses place row json f)
stack_refused (Ok v) place row json k h = tt
stack_refused (Err f) place row json k h = λ n. in_stack place row json f k (h n)

-- a member that is no list, in a row of lists
pub no_list : (place : List ℕ) (row : Row) (json : Json) (kind : RowKind) (fault : SchemaFault) → row.kind ≡ kind
    → (((list : List Json) → json ≡ J.List list → ⊥) → IsWrong kind json)
    → (fault ≢ F.Memory → ((list : List Json) → json ≡ J.List list → ⊥) × (fault ≡ F.Field place row.name))
    → fault ≢ F.Memory → Refuses place row json fault
no_list place row json kind fault k w e n = wrong place row json fault (subst (λ (x : RowKind). IsWrong x json) (sym k) (w (e n).0)) (e n).1
