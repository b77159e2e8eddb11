-- What a JSON value is refused for, by the kind of the row, by what is asked and by the list.
use Rattle.std.proofs.Common.{◌≡◌, ◌≤◌, ◌<◌, ◌⊎◌, inl, inr, ◌+◌, ℕ, true, List, [], ◌∷◌, Some, None, map, sym, subst}
use Rattle.std.specs.List.{list_any}
use Rattle.json_value.specs.declared.Json.{Json}
use Rattle.json_value.specs.declared.Json.TheVariants as J
use Rattle.schema_rows.specs.declared.faults.SchemaFault.{SchemaFault}
use Rattle.schema_rows.specs.declared.faults.SchemaFault.TheVariants as F
use Rattle.schema_rows.specs.Rows as R
use Rattle.schema_rows.specs.Rows.{Row, RowKind}
use Rattle.schema_rows.specs.declared.schemas.Schema.{Schema}
use Rattle.schema_rows.specs.declared.schemas.TheConstants as C
use Rattle.schema_rows.specs.declared.values.Fields.{Fields}
use Rattle.schema_rows.specs.declared.values.Value.{Value}
use Rattle.schema_rows.specs.Schemas.{rows_of, version_of, named, IsObjectOf, IsForeign}
use Rattle.schema_rows.specs.Numerals.{IsLong}
use Rattle.schema_rows.specs.Readings.{Reading}
use Rattle.schema_rows.specs.Defaults.{absent_value}
use Rattle.schema_rows.specs.Families.{Want, child, member, medium, place_in, IsAbsent, IsGiven, breaks}
use Rattle.schema_rows.specs.Stands.{Gives_row, Gives_rows, Gives_fields, Gives_reading}
use Rattle.schema_rows.specs.Faults as W
use Rattle.schema_rows.specs.Faults.{IsWrong, IsNoSpeed, IsNoRate, HasNegative, HasBeyond, Refuses, Refuses_row, Refuses_rows, Refuses_fields, Refuses_reading, Refuses_any}
use Rattle.object_law.proofs.GivenCases.{Given}
use Rattle.object_law.proofs.Objects.{object_once, schema_once, Named, named_given, not_foreign}

-- but for values of another kind
abbrev pub Own : RowKind → List ℕ → List ℕ → Json → SchemaFault → Type 0
Own (R.text default) place name json fault = ⊥
Own R.flag place name json fault = ⊥
Own R.meta place name json fault = ⊥
Own R.span place name json fault = Refuses_fields place C.RANGES json fault ⊎ ((fields : Fields) × Gives_fields C.RANGES json fields × HasNegative fields.values × (fault ≡ F.Range place))
Own R.time place name json fault = Refuses_fields place C.TIMES json fault ⊎ ((fields : Fields) × Gives_fields C.TIMES json fields × HasBeyond fields.values × (fault ≡ F.Range place))
Own (R.number default) place name json fault = (numeral : List ℕ) × (json ≡ J.Num numeral) × IsNoSpeed numeral × (fault ≡ F.Field place name)
Own R.items place name json fault = (list : List Json) × (json ≡ J.List list) × Refuses_any (child C.ITEMS) place 0 list fault
Own R.effects place name json fault = (list : List Json) × (json ≡ J.List list) × Refuses_any (member C.EFFECTS) place 0 list fault
Own R.markers place name json fault = (list : List Json) × (json ≡ J.List list) × Refuses_any (member C.MARKERS) place 0 list fault
Own R.media place name json fault = (members : List (List ℕ × Json)) × (json ≡ J.Map members) × Refuses_any medium place 0 (map (λ member. member.1) members) fault
Own R.medium place name json fault = Refuses_reading medium place json fault
Own R.stack place name json fault = Refuses_reading (child C.STACKS) place json fault
Own R.objects place name json fault = (list : List Json) × (json ≡ J.List list) × Refuses_any (child C.ROOTS) place 0 list fault
Own R.rate place name json fault = (numeral : List ℕ) × (json ≡ J.Num numeral) × ((IsLong numeral × (fault ≡ F.Range place)) ⊎ (IsNoRate numeral × (fault ≡ F.Rate place)))
Own R.numeral place name json fault = (numeral : List ℕ) × (json ≡ J.Num numeral) × IsLong numeral × (fault ≡ F.Range place)

abbrev pub Refused : RowKind → List ℕ → List ℕ → Json → SchemaFault → Type 0
Refused kind place name json fault = (IsWrong kind json × (fault ≡ F.Field place name)) ⊎ Own kind place name json fault

as_own : (k l : RowKind) (place name : List ℕ) (json : Json) (fault : SchemaFault) → k ≡ l → Own l place name json fault → Refused k place name json fault
as_own k l place name json fault e h = inr (subst (λ (x : RowKind). Own x place name json fault) (sym e) h)

as_long : (k : RowKind) (place name : List ℕ) (json : Json) (fault : SchemaFault) (numeral : List ℕ) → (k ≡ R.rate) ⊎ (k ≡ R.numeral) → json ≡ J.Num numeral → IsLong numeral → fault ≡ F.Range place
    → Refused k place name json fault
as_long k place name json fault numeral (inl ek) ej long is = as_own k R.rate place name json fault ek (numeral, ej, inl (long, is))
as_long k place name json fault numeral (inr ek) ej long is = as_own k R.numeral place name json fault ek (numeral, ej, long, is)

pub refused : {place : List ℕ} {row : Row} {json : Json} {fault : SchemaFault} → Refuses place row json fault → Refused row.kind place row.name json fault
refused (W.wrong place row json fault wrong is) = inl (wrong, is)
refused (W.no_speed place row json fault default numeral ek ej none is) = as_own row.kind (R.number default) place row.name json fault ek (numeral, ej, none, is)
refused (W.long place row json fault numeral ek ej long is) = as_long row.kind place row.name json fault numeral ek ej long is
refused (W.no_rate place row json fault numeral ek ej none is) = as_own row.kind R.rate place row.name json fault ek (numeral, ej, inr (none, is))
refused (W.in_span place row json fault ek h) = as_own row.kind R.span place row.name json fault ek (inl h)
refused (W.negative place row json fault fields ek g negative is) = as_own row.kind R.span place row.name json fault ek (inr (fields, g, negative, is))
refused (W.in_time place row json fault ek h) = as_own row.kind R.time place row.name json fault ek (inl h)
refused (W.beyond place row json fault fields ek g beyond is) = as_own row.kind R.time place row.name json fault ek (inr (fields, g, beyond, is))
refused (W.in_items place row json fault list ek ej h) = as_own row.kind R.items place row.name json fault ek (list, ej, h)
refused (W.in_objects place row json fault list ek ej h) = as_own row.kind R.objects place row.name json fault ek (list, ej, h)
refused (W.in_effects place row json fault list ek ej h) = as_own row.kind R.effects place row.name json fault ek (list, ej, h)
refused (W.in_markers place row json fault list ek ej h) = as_own row.kind R.markers place row.name json fault ek (list, ej, h)
refused (W.in_media place row json fault members ek ej h) = as_own row.kind R.media place row.name json fault ek (members, ej, h)
refused (W.in_reference place row json fault ek h) = as_own row.kind R.medium place row.name json fault ek h
refused (W.in_stack place row json fault ek h) = as_own row.kind R.stack place row.name json fault ek h

pub refused_as : (k : RowKind) (place : List ℕ) (row : Row) (json : Json) (fault : SchemaFault) → row.kind ≡ k → Refuses place row json fault → Refused k place row.name json fault
refused_as k place row json fault e h = subst (λ (x : RowKind). Refused x place row.name json fault) e (refused h)

-- a row
abbrev pub RowRefused : List ℕ → Row → List (List ℕ × Json) → SchemaFault → Type 0
RowRefused place row members fault = (IsAbsent row.name members × (absent_value row ≡ None) × (fault ≡ F.Field place row.name)) ⊎ ((json : Json) × IsGiven row.name members json × Refuses place row json fault)

pub row_refused : {place : List ℕ} {row : Row} {members : List (List ℕ × Json)} {fault : SchemaFault} → Refuses_row place row members fault → RowRefused place row members fault
row_refused (W.missing place row members fault none default is) = inl (none, default, is)
row_refused (W.refused place row members fault json is h) = inr (json, is, h)

-- rows
abbrev pub RowsRefused : List ℕ → List Row → List (List ℕ × Json) → SchemaFault → Type 0
RowsRefused place [] members fault = ⊥
RowsRefused place (row ∷ below) members fault = Refuses_row place row members fault ⊎ ((value : Value) × Gives_row row members value × Refuses_rows place below members fault)

pub rows_refused : {place : List ℕ} {rows : List Row} {members : List (List ℕ × Json)} {fault : SchemaFault} → Refuses_rows place rows members fault → RowsRefused place rows members fault
rows_refused (W.first_row place rows members fault row below er h) = subst (λ (x : List Row). RowsRefused place x members fault) (sym er) (inl h)
rows_refused (W.later_row place rows members fault row below value er g h) = subst (λ (x : List Row). RowsRefused place x members fault) (sym er) (inr (value, g, h))

pub rows_refused_as : (place : List ℕ) (rows xs : List Row) (members : List (List ℕ × Json)) (fault : SchemaFault) → rows ≡ xs → Refuses_rows place rows members fault → RowsRefused place xs members fault
rows_refused_as place rows xs members fault e h = subst (λ (x : List Row). RowsRefused place x members fault) e (rows_refused h)

-- an object of known members and a known schema
pub data Cause (place : List ℕ) (members : List (List ℕ × Json)) (version : ℕ) (schema : Schema) (fault : SchemaFault) : Type 0 where
  newer : version_of schema < version → fault ≡ F.Newer place → Cause place members version schema fault
  by_rows : version ≤ version_of schema → Refuses_rows place (rows_of schema) members fault → Cause place members version schema fault
  by_rule : version ≤ version_of schema → (values : List Value) → Gives_rows (rows_of schema) members values → list_any (breaks schema) values ≡ true → fault ≡ F.Transitions place
      → Cause place members version schema fault

move : (place : List ℕ) (m n : List (List ℕ × Json)) (v w : ℕ) (s t : Schema) (fault : SchemaFault) → m ≡ n → v ≡ w → s ≡ t → Cause place m v s fault → Cause place n w t fault
move place m n v w s t fault em ev es h =
    subst (λ (x : Schema). Cause place n w x fault) es (subst (λ (x : ℕ). Cause place n x s fault) ev (subst (λ (x : List (List ℕ × Json)). Cause place x v s fault) em h))

to_known : (place : List ℕ) (family : List Schema) (json : Json) (fault : SchemaFault) (m n : List (List ℕ × Json)) (a b : List ℕ) (v w : ℕ) (s t : Schema)
    → IsObjectOf json m a v → named a family ≡ Some s → IsObjectOf json n b w → named b family ≡ Some t → Cause place m v s fault → Cause place n w t fault
to_known place family json fault m n a b v w s t o is p also h =
    let same = object_once json m n a b v w o p in move place m n v w s t fault same.0 same.2 (schema_once family a b s t same.1 is also) h

pub cause : {place : List ℕ} {family : List Schema} {json : Json} {fault : SchemaFault} → Refuses_fields place family json fault
    → (members : List (List ℕ × Json)) (name : List ℕ) (version : ℕ) (schema : Schema) → IsObjectOf json members name version → named name family ≡ Some schema → Cause place members version schema fault
cause (W.newer place family json fault m a v s o is above eq) members name version schema p also = to_known place family json fault m members a name v version s schema o is p also (newer above eq)
cause (W.in_rows place family json fault m a v s o is known h) members name version schema p also = to_known place family json fault m members a name v version s schema o is p also (by_rows known h)
cause (W.transitions place family json fault m a v s values o is known rows broken eq) members name version schema p also =
    to_known place family json fault m members a name v version s schema o is p also (by_rule known values rows broken eq)

pub named_refused : {place : List ℕ} {family : List Schema} {json : Json} {fault : SchemaFault} → Refuses_fields place family json fault → Named family json
named_refused (W.newer place family json fault m a v s o is above eq) = record { members = m; name = a; version = v; schema = s; object = o; is = is }
named_refused (W.in_rows place family json fault m a v s o is known h) = record { members = m; name = a; version = v; schema = s; object = o; is = is }
named_refused (W.transitions place family json fault m a v s values o is known rows broken eq) = record { members = m; name = a; version = v; schema = s; object = o; is = is }

pub foreign_refused : (place : List ℕ) (family : List Schema) (json : Json) (fault : SchemaFault) → IsForeign family json → Refuses_fields place family json fault → ⊥
foreign_refused place family json fault foreign h =
    let n = named_refused h in not_foreign family json n.members n.name n.version n.schema n.object n.is foreign

pub foreign_given : (family : List Schema) (json : Json) (fields : Fields) → IsForeign family json → Gives_fields family json fields → ⊥
foreign_given family json fields foreign h =
    let n = named_given family json fields h in not_foreign family json n.members n.name n.version n.schema n.object n.is foreign

-- by what is asked
pub data ChildRefused (family : List Schema) (place : List ℕ) (json : Json) (fault : SchemaFault) : Type 0 where
  nothing : ((members : List (List ℕ × Json)) (name : List ℕ) (version : ℕ) → IsObjectOf json members name version → ⊥) → fault ≡ F.NotObject place → ChildRefused family place json fault
  another : (members : List (List ℕ × Json)) (name : List ℕ) (version : ℕ) → IsObjectOf json members name version → named name family ≡ None → fault ≡ F.UnknownChild place → ChildRefused family place json fault
  within : Refuses_fields place family json fault → ChildRefused family place json fault

abbrev pub ReadingRefused : Want → List ℕ → Json → SchemaFault → Type 0
ReadingRefused (child family) place json fault = ChildRefused family place json fault
ReadingRefused (member family) place json fault = Refuses_fields place family json fault
ReadingRefused medium place json fault = Refuses_fields place C.MEDIA json fault

as_want : (w u : Want) (place : List ℕ) (json : Json) (fault : SchemaFault) → w ≡ u → ReadingRefused u place json fault → ReadingRefused w place json fault
as_want w u place json fault e = subst (λ (x : Want). ReadingRefused x place json fault) (sym e)

pub reading_refused : {want : Want} {place : List ℕ} {json : Json} {fault : SchemaFault} → Refuses_reading want place json fault → ReadingRefused want place json fault
reading_refused (W.no_object want place json fault family ew none is) = as_want want (child family) place json fault ew (nothing none is)
reading_refused (W.unknown want place json fault family m a v ew o none is) = as_want want (child family) place json fault ew (another m a v o none is)
reading_refused (W.in_child want place json fault family ew h) = as_want want (child family) place json fault ew (within h)
reading_refused (W.in_member want place json fault family ew h) = as_want want (member family) place json fault ew h
reading_refused (W.in_medium want place json fault ew h) = as_want want medium place json fault ew h

pub reading_refused_as : (w u : Want) (place : List ℕ) (json : Json) (fault : SchemaFault) → w ≡ u → Refuses_reading w place json fault → ReadingRefused u place json fault
reading_refused_as w u place json fault e h = subst (λ (x : Want). ReadingRefused x place json fault) e (reading_refused h)

-- lists
abbrev pub AnyRefused : Want → List ℕ → ℕ → List Json → SchemaFault → Type 0
AnyRefused want place index [] fault = ⊥
AnyRefused want place index (json ∷ others) fault =
    Refuses_reading want (place_in want place index) json fault ⊎ ((reading : Reading) × Gives_reading want json reading × Refuses_any want place (index + 1) others fault)

pub any_refused : {want : Want} {place : List ℕ} {index : ℕ} {list : List Json} {fault : SchemaFault} → Refuses_any want place index list fault → AnyRefused want place index list fault
any_refused (W.first_one want place index list fault json others el h) = subst (λ (x : List Json). AnyRefused want place index x fault) (sym el) (inl h)
any_refused (W.later_one want place index list fault json others reading el g h) = subst (λ (x : List Json). AnyRefused want place index x fault) (sym el) (inr (reading, g, h))

pub any_refused_as : (want : Want) (place : List ℕ) (index : ℕ) (list xs : List Json) (fault : SchemaFault) → list ≡ xs → Refuses_any want place index list fault → AnyRefused want place index xs fault
any_refused_as want place index list xs fault e h = subst (λ (x : List Json). AnyRefused want place index x fault) e (any_refused h)

-- a value of another kind has no other fault, and gives no value
pub wrong_own : (k : RowKind) (place name : List ℕ) (json : Json) (fault : SchemaFault) → IsWrong k json → Own k place name json fault → ⊥
wrong_own (R.text default) place name json fault wrong own = own
wrong_own R.flag place name json fault wrong own = own
wrong_own R.meta place name json fault wrong own = own
wrong_own R.span place name json fault wrong (inl h) = foreign_refused place C.RANGES json fault wrong h
wrong_own R.span place name json fault wrong (inr (fields, g, _, _)) = foreign_given C.RANGES json fields wrong g
wrong_own R.time place name json fault wrong (inl h) = foreign_refused place C.TIMES json fault wrong h
wrong_own R.time place name json fault wrong (inr (fields, g, _, _)) = foreign_given C.TIMES json fields wrong g
wrong_own (R.number default) place name json fault wrong (numeral, e, _, _) = wrong numeral e
wrong_own R.items place name json fault wrong (list, e, _) = wrong list e
wrong_own R.effects place name json fault wrong (list, e, _) = wrong list e
wrong_own R.markers place name json fault wrong (list, e, _) = wrong list e
wrong_own R.media place name json fault wrong (members, e, _) = wrong members e
wrong_own R.medium place name json fault wrong own = wrong
wrong_own R.stack place name json fault wrong own = wrong
wrong_own R.objects place name json fault wrong (list, e, _) = wrong list e
wrong_own R.rate place name json fault wrong (numeral, e, _) = wrong numeral e
wrong_own R.numeral place name json fault wrong (numeral, e, _, _) = wrong numeral e

pub wrong_given : (k : RowKind) (json : Json) (v : Value) → IsWrong k json → Given k json v → ⊥
wrong_given (R.text default) json v wrong g = wrong g.0 g.1
wrong_given R.flag json v wrong g = wrong g.0 g.1
wrong_given R.meta json v wrong g = wrong g.0 g.1
wrong_given R.span json v wrong g = foreign_given C.RANGES json g.0 wrong g.2
wrong_given R.time json v wrong g = foreign_given C.TIMES json g.0 wrong g.4
wrong_given (R.number default) json v wrong g = wrong g.0 g.3
wrong_given R.items json v wrong g = wrong g.0 g.2
wrong_given R.effects json v wrong g = wrong g.0 g.2
wrong_given R.markers json v wrong g = wrong g.0 g.2
wrong_given R.media json v wrong g = wrong g.0 g.2
wrong_given R.medium json v wrong g = wrong
wrong_given R.stack json v wrong g = wrong
wrong_given R.objects json v wrong g = wrong g.0 g.2
wrong_given R.rate json v wrong g = wrong g.0 g.3
wrong_given R.numeral json v wrong g = wrong g.0 g.2
