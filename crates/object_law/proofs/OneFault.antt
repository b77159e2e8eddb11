-- A fault is the only one, one level at a time; that those inside are is known.
use Rattle.std.proofs.Common.{◌≡◌, ◌≤◌, ◌<◌, ◌⊎◌, inl, inr, ◌+◌, ℕ, ℤ, List, ◌∷◌, Some, None, sym, subst, ◌∙◌, arith}
use Rattle.json_value.specs.declared.Json.{Json}
use Rattle.json_value.specs.declared.Json.TheVariants as J
use Rattle.schema_rows.specs.declared.faults.SchemaFault.{SchemaFault}
use Rattle.schema_rows.specs.declared.faults.SchemaFault.TheVariants as F
use Rattle.schema_rows.specs.Rows as R
use Rattle.schema_rows.specs.Rows.{Row, RowKind}
use Rattle.schema_rows.specs.declared.schemas.Schema.{Schema}
use Rattle.schema_rows.specs.declared.schemas.TheConstants as C
use Rattle.schema_rows.specs.declared.values.Fields.{Fields}
use Rattle.schema_rows.specs.declared.values.Value.{Value}
use Rattle.schema_rows.specs.Schemas.{rows_of, version_of, named, IsObjectOf}
use Rattle.schema_rows.specs.Numerals.{IsLong}
use Rattle.schema_rows.specs.Readings.{Reading}
use Rattle.schema_rows.specs.Families.{Want, child, member, medium, place_in, IsAbsent, IsGiven}
use Rattle.schema_rows.specs.Stands.{Gives_row, Gives_rows, Gives_fields, Gives_reading}
use Rattle.schema_rows.specs.Faults.{IsWrong, IsNoRate, Refuses, Refuses_row, Refuses_rows, Refuses_fields, Refuses_reading, Refuses_any}
use Rattle.object_law.proofs.Decimals.{not_long}
use Rattle.schema_rows.proofs.JsonParts.{num_once, list_once, map_once}
use Rattle.object_law.proofs.Objects.{member_once, not_absent, not_unknown}
use Rattle.object_law.proofs.OneGiven.{values_of}
use Rattle.object_law.proofs.GivenOrRefused.{row_not, rows_not, fields_not, reading_not}
use Rattle.object_law.proofs.RefusedCases.{Own, Refused, refused, refused_as, wrong_own, RowRefused, row_refused, RowsRefused, rows_refused_as, Cause, newer, by_rows, by_rule, cause, named_refused, foreign_refused, foreign_given, ChildRefused, nothing, another, within, reading_refused_as, AnyRefused, any_refused_as}

-- a value of another kind
wrong_in : (k : RowKind) (place name : List ℕ) (json : Json) (f g : SchemaFault) → IsWrong k json → f ≡ F.Field place name → Refused k place name json g → f ≡ g
wrong_in k place name json f g wrong is (inl (_, also)) = is ∙ sym also
wrong_in k place name json f g wrong is (inr own) = absurd (wrong_own k place name json g wrong own)

pub wrong_first : (place : List ℕ) (row : Row) (json : Json) (f g : SchemaFault) → IsWrong row.kind json → f ≡ F.Field place row.name → Refuses place row json g → f ≡ g
wrong_first place row json f g wrong is h = wrong_in row.kind place row.name json f g wrong is (refused h)

-- the other fault is one of the same kind's own
own_of : (k : RowKind) (place : List ℕ) (row : Row) (json : Json) (g : SchemaFault) → row.kind ≡ k → (IsWrong k json → ⊥) → Refuses place row json g → Own k place row.name json g
own_of k place row json g ek right h = by (refused_as k place row json g ek h) where
  by : Refused k place row.name json g → Own k place row.name json g
  by (inl (wrong, _)) = absurd (right wrong)
  by (inr own) = own

pub no_speed_first : (place : List ℕ) (row : Row) (json : Json) (f g : SchemaFault) (d : ℤ) (n : List ℕ) → row.kind ≡ R.number d → json ≡ J.Num n → f ≡ F.Field place row.name → Refuses place row json g → f ≡ g
no_speed_first place row json f g d n ek ej is h =
    let (m, e, none, also) = own_of (R.number d) place row json g ek (λ wrong. wrong n ej) h in is ∙ sym also

long_in : (place : List ℕ) (f g : SchemaFault) (n m : List ℕ) → n ≡ m → IsLong n → f ≡ F.Range place → (IsLong m × (g ≡ F.Range place)) ⊎ (IsNoRate m × (g ≡ F.Rate place)) → f ≡ g
long_in place f g n m e long is (inl (_, also)) = is ∙ sym also
long_in place f g n m e long is (inr ((x, spells, _), also)) = absurd (not_long m x spells (subst IsLong e long))

pub long_first : (place : List ℕ) (row : Row) (json : Json) (f g : SchemaFault) (n : List ℕ) → (row.kind ≡ R.rate) ⊎ (row.kind ≡ R.numeral) → json ≡ J.Num n → IsLong n → f ≡ F.Range place
    → Refuses place row json g → f ≡ g
long_first place row json f g n (inl ek) ej long is h =
    let (m, e, why) = own_of R.rate place row json g ek (λ wrong. wrong n ej) h in long_in place f g n m (num_once json n m ej e) long is why
long_first place row json f g n (inr ek) ej long is h =
    let (m, e, _, also) = own_of R.numeral place row json g ek (λ wrong. wrong n ej) h in is ∙ sym also

no_rate_in : (place : List ℕ) (f g : SchemaFault) (n m : List ℕ) → n ≡ m → IsNoRate n → f ≡ F.Rate place → (IsLong m × (g ≡ F.Range place)) ⊎ (IsNoRate m × (g ≡ F.Rate place)) → f ≡ g
no_rate_in place f g n m e none is (inl (long, _)) = absurd (not_long n none.0 none.1 (subst IsLong (sym e) long))
no_rate_in place f g n m e none is (inr (_, also)) = is ∙ sym also

pub no_rate_first : (place : List ℕ) (row : Row) (json : Json) (f g : SchemaFault) (n : List ℕ) → row.kind ≡ R.rate → json ≡ J.Num n → IsNoRate n → f ≡ F.Rate place → Refuses place row json g → f ≡ g
no_rate_first place row json f g n ek ej none is h =
    let (m, e, why) = own_of R.rate place row json g ek (λ wrong. wrong n ej) h in no_rate_in place f g n m (num_once json n m ej e) none is why

-- ranges and times
abbrev FieldsFirst : List ℕ → List Schema → Json → SchemaFault → Type 0
FieldsFirst place family json f = (g : SchemaFault) → Refuses_fields place family json g → f ≡ g

pub in_span_first : (place : List ℕ) (row : Row) (json : Json) (f g : SchemaFault) → row.kind ≡ R.span → Refuses_fields place C.RANGES json f → FieldsFirst place C.RANGES json f → Refuses place row json g → f ≡ g
in_span_first place row json f g ek own first h = by (own_of R.span place row json g ek (λ wrong. foreign_refused place C.RANGES json f wrong own) h) where
  by : Own R.span place row.name json g → f ≡ g
  by (inl other) = first g other
  by (inr (fields, gives, _, _)) = absurd (fields_not own fields gives)

pub negative_first : (place : List ℕ) (row : Row) (json : Json) (f g : SchemaFault) (fields : Fields) → row.kind ≡ R.span → Gives_fields C.RANGES json fields → f ≡ F.Range place → Refuses place row json g → f ≡ g
negative_first place row json f g fields ek own is h = by (own_of R.span place row json g ek (λ wrong. foreign_given C.RANGES json fields wrong own) h) where
  by : Own R.span place row.name json g → f ≡ g
  by (inl other) = absurd (fields_not other fields own)
  by (inr (_, _, _, also)) = is ∙ sym also

pub in_time_first : (place : List ℕ) (row : Row) (json : Json) (f g : SchemaFault) → row.kind ≡ R.time → Refuses_fields place C.TIMES json f → FieldsFirst place C.TIMES json f → Refuses place row json g → f ≡ g
in_time_first place row json f g ek own first h = by (own_of R.time place row json g ek (λ wrong. foreign_refused place C.TIMES json f wrong own) h) where
  by : Own R.time place row.name json g → f ≡ g
  by (inl other) = first g other
  by (inr (fields, gives, _, _)) = absurd (fields_not own fields gives)

pub beyond_first : (place : List ℕ) (row : Row) (json : Json) (f g : SchemaFault) (fields : Fields) → row.kind ≡ R.time → Gives_fields C.TIMES json fields → f ≡ F.Range place → Refuses place row json g → f ≡ g
beyond_first place row json f g fields ek own is h = by (own_of R.time place row json g ek (λ wrong. foreign_given C.TIMES json fields wrong own) h) where
  by : Own R.time place row.name json g → f ≡ g
  by (inl other) = absurd (fields_not other fields own)
  by (inr (_, _, _, also)) = is ∙ sym also

-- values in lists
abbrev AnyFirst : Want → List ℕ → ℕ → List Json → SchemaFault → Type 0
AnyFirst want place index list f = (g : SchemaFault) → Refuses_any want place index list g → f ≡ g

same_list : (want : Want) (place : List ℕ) (json : Json) (a b : List Json) (f g : SchemaFault) → json ≡ J.List a → json ≡ J.List b → AnyFirst want place 0 a f → Refuses_any want place 0 b g → f ≡ g
same_list want place json a b f g p q first h = first g (subst (λ (x : List Json). Refuses_any want place 0 x g) (list_once json b a q p) h)

pub in_items_first : (place : List ℕ) (row : Row) (json : Json) (f g : SchemaFault) (list : List Json) → row.kind ≡ R.items → json ≡ J.List list → AnyFirst (child C.ITEMS) place 0 list f → Refuses place row json g → f ≡ g
in_items_first place row json f g list ek ej first h =
    let (other, e, r) = own_of R.items place row json g ek (λ wrong. wrong list ej) h in same_list (child C.ITEMS) place json list other f g ej e first r

pub in_objects_first : (place : List ℕ) (row : Row) (json : Json) (f g : SchemaFault) (list : List Json) → row.kind ≡ R.objects → json ≡ J.List list → AnyFirst (child C.ROOTS) place 0 list f → Refuses place row json g → f ≡ g
in_objects_first place row json f g list ek ej first h =
    let (other, e, r) = own_of R.objects place row json g ek (λ wrong. wrong list ej) h in same_list (child C.ROOTS) place json list other f g ej e first r

pub in_effects_first : (place : List ℕ) (row : Row) (json : Json) (f g : SchemaFault) (list : List Json) → row.kind ≡ R.effects → json ≡ J.List list → AnyFirst (member C.EFFECTS) place 0 list f → Refuses place row json g → f ≡ g
in_effects_first place row json f g list ek ej first h =
    let (other, e, r) = own_of R.effects place row json g ek (λ wrong. wrong list ej) h in same_list (member C.EFFECTS) place json list other f g ej e first r

pub in_markers_first : (place : List ℕ) (row : Row) (json : Json) (f g : SchemaFault) (list : List Json) → row.kind ≡ R.markers → json ≡ J.List list → AnyFirst (member C.MARKERS) place 0 list f → Refuses place row json g → f ≡ g
in_markers_first place row json f g list ek ej first h =
    let (other, e, r) = own_of R.markers place row json g ek (λ wrong. wrong list ej) h in same_list (member C.MARKERS) place json list other f g ej e first r

pub in_media_first : (place : List ℕ) (row : Row) (json : Json) (f g : SchemaFault) (members : List (List ℕ × Json)) → row.kind ≡ R.media → json ≡ J.Map members → AnyFirst medium place 0 (values_of members) f
    → Refuses place row json g → f ≡ g
in_media_first place row json f g members ek ej first h =
    let (other, e, r) = own_of R.media place row json g ek (λ wrong. wrong members ej) h in
    first g (subst (λ (m : List (List ℕ × Json)). Refuses_any medium place 0 (values_of m) g) (map_once json other members e ej) r)

pub in_reference_first : (place : List ℕ) (row : Row) (json : Json) (f g : SchemaFault) → row.kind ≡ R.medium → ((x : SchemaFault) → Refuses_reading medium place json x → f ≡ x) → Refuses place row json g → f ≡ g
in_reference_first place row json f g ek first h = first g (own_of R.medium place row json g ek (λ wrong. wrong) h)

pub in_stack_first : (place : List ℕ) (row : Row) (json : Json) (f g : SchemaFault) → row.kind ≡ R.stack → ((x : SchemaFault) → Refuses_reading (child C.STACKS) place json x → f ≡ x) → Refuses place row json g → f ≡ g
in_stack_first place row json f g ek first h = first g (own_of R.stack place row json g ek (λ wrong. wrong) h)

-- rows
pub missing_first : (place : List ℕ) (row : Row) (members : List (List ℕ × Json)) (f g : SchemaFault) → IsAbsent row.name members → f ≡ F.Field place row.name → Refuses_row place row members g → f ≡ g
missing_first place row members f g absent is h = by (row_refused h) where
  by : RowRefused place row members g → f ≡ g
  by (inl (_, _, also)) = is ∙ sym also
  by (inr (json, there, _)) = absurd (not_absent row.name members json there absent)

pub present_first : (place : List ℕ) (row : Row) (members : List (List ℕ × Json)) (f g : SchemaFault) (json : Json) → IsGiven row.name members json
    → ((x : SchemaFault) → Refuses place row json x → f ≡ x) → Refuses_row place row members g → f ≡ g
present_first place row members f g json is first h = by (row_refused h) where
  by : RowRefused place row members g → f ≡ g
  by (inl (absent, _, _)) = absurd (not_absent row.name members json is absent)
  by (inr (other, also, r)) = first g (subst (λ (j : Json). Refuses place row j g) (member_once row.name members other json also is) r)

pub first_row_first : (place : List ℕ) (rows : List Row) (members : List (List ℕ × Json)) (f g : SchemaFault) (row : Row) (below : List Row) → rows ≡ row ∷ below → Refuses_row place row members f
    → ((x : SchemaFault) → Refuses_row place row members x → f ≡ x) → Refuses_rows place rows members g → f ≡ g
first_row_first place rows members f g row below er own first h = by (rows_refused_as place rows (row ∷ below) members g er h) where
  by : RowsRefused place (row ∷ below) members g → f ≡ g
  by (inl other) = first g other
  by (inr (value, gives, _)) = absurd (row_not own value gives)

pub later_row_first : (place : List ℕ) (rows : List Row) (members : List (List ℕ × Json)) (f g : SchemaFault) (row : Row) (below : List Row) (value : Value) → rows ≡ row ∷ below → Gives_row row members value
    → ((x : SchemaFault) → Refuses_rows place below members x → f ≡ x) → Refuses_rows place rows members g → f ≡ g
later_row_first place rows members f g row below value er own later h = by (rows_refused_as place rows (row ∷ below) members g er h) where
  by : RowsRefused place (row ∷ below) members g → f ≡ g
  by (inl other) = absurd (row_not other value own)
  by (inr (_, _, r)) = later g r

-- objects
newer_in : (place : List ℕ) (members : List (List ℕ × Json)) (version : ℕ) (schema : Schema) (f g : SchemaFault) → version_of schema < version → f ≡ F.Newer place → Cause place members version schema g → f ≡ g
newer_in place members version schema f g above is (newer _ also) = is ∙ sym also
newer_in place members version schema f g above is (by_rows known _) = absurd (omega (arith, above, known))
newer_in place members version schema f g above is (by_rule known _ _ _ _) = absurd (omega (arith, above, known))

pub newer_first : (place : List ℕ) (family : List Schema) (json : Json) (f g : SchemaFault) (members : List (List ℕ × Json)) (name : List ℕ) (version : ℕ) (schema : Schema) → IsObjectOf json members name version
    → named name family ≡ Some schema → version_of schema < version → f ≡ F.Newer place → Refuses_fields place family json g → f ≡ g
newer_first place family json f g members name version schema o named_is above is h = newer_in place members version schema f g above is (cause h members name version schema o named_is)

rows_in : (place : List ℕ) (members : List (List ℕ × Json)) (version : ℕ) (schema : Schema) (f g : SchemaFault) → version ≤ version_of schema → Refuses_rows place (rows_of schema) members f
    → ((x : SchemaFault) → Refuses_rows place (rows_of schema) members x → f ≡ x) → Cause place members version schema g → f ≡ g
rows_in place members version schema f g known own first (newer above _) = absurd (omega (arith, above, known))
rows_in place members version schema f g known own first (by_rows _ r) = first g r
rows_in place members version schema f g known own first (by_rule _ values gives _ _) = absurd (rows_not own values gives)

pub in_rows_first : (place : List ℕ) (family : List Schema) (json : Json) (f g : SchemaFault) (members : List (List ℕ × Json)) (name : List ℕ) (version : ℕ) (schema : Schema) → IsObjectOf json members name version
    → named name family ≡ Some schema → version ≤ version_of schema → Refuses_rows place (rows_of schema) members f → ((x : SchemaFault) → Refuses_rows place (rows_of schema) members x → f ≡ x)
    → Refuses_fields place family json g → f ≡ g
in_rows_first place family json f g members name version schema o named_is known own first h =
    rows_in place members version schema f g known own first (cause h members name version schema o named_is)

rule_in : (place : List ℕ) (members : List (List ℕ × Json)) (version : ℕ) (schema : Schema) (f g : SchemaFault) (values : List Value) → version ≤ version_of schema → Gives_rows (rows_of schema) members values
    → f ≡ F.Transitions place → Cause place members version schema g → f ≡ g
rule_in place members version schema f g values known own is (newer above _) = absurd (omega (arith, above, known))
rule_in place members version schema f g values known own is (by_rows _ r) = absurd (rows_not r values own)
rule_in place members version schema f g values known own is (by_rule _ _ _ _ also) = is ∙ sym also

pub transitions_first : (place : List ℕ) (family : List Schema) (json : Json) (f g : SchemaFault) (members : List (List ℕ × Json)) (name : List ℕ) (version : ℕ) (schema : Schema) (values : List Value)
    → IsObjectOf json members name version → named name family ≡ Some schema → version ≤ version_of schema → Gives_rows (rows_of schema) members values → f ≡ F.Transitions place
    → Refuses_fields place family json g → f ≡ g
transitions_first place family json f g members name version schema values o named_is known own is h =
    rule_in place members version schema f g values known own is (cause h members name version schema o named_is)

-- what is asked
pub no_object_first : (want : Want) (place : List ℕ) (json : Json) (f g : SchemaFault) (family : List Schema) → want ≡ child family
    → ((members : List (List ℕ × Json)) (name : List ℕ) (version : ℕ) → IsObjectOf json members name version → ⊥) → f ≡ F.NotObject place → Refuses_reading want place json g → f ≡ g
no_object_first want place json f g family ew none is h = by (reading_refused_as want (child family) place json g ew h) where
  by : ChildRefused family place json g → f ≡ g
  by (nothing _ also) = is ∙ sym also
  by (another members name version o _ _) = absurd (none members name version o)
  by (within r) = let n = named_refused r in absurd (none n.members n.name n.version n.object)

pub unknown_first : (want : Want) (place : List ℕ) (json : Json) (f g : SchemaFault) (family : List Schema) (members : List (List ℕ × Json)) (name : List ℕ) (version : ℕ) → want ≡ child family
    → IsObjectOf json members name version → named name family ≡ None → f ≡ F.UnknownChild place → Refuses_reading want place json g → f ≡ g
unknown_first want place json f g family members name version ew o unnamed is h = by (reading_refused_as want (child family) place json g ew h) where
  by : ChildRefused family place json g → f ≡ g
  by (nothing none _) = absurd (none members name version o)
  by (another _ _ _ _ _ also) = is ∙ sym also
  by (within r) =
      let n = named_refused r in absurd (not_unknown family json n.members members n.name name n.version version n.schema n.object n.is o unnamed)

pub in_child_first : (want : Want) (place : List ℕ) (json : Json) (f g : SchemaFault) (family : List Schema) → want ≡ child family → Refuses_fields place family json f → FieldsFirst place family json f
    → Refuses_reading want place json g → f ≡ g
in_child_first want place json f g family ew own first h = by (reading_refused_as want (child family) place json g ew h) where
  by : ChildRefused family place json g → f ≡ g
  by (nothing none _) = let n = named_refused own in absurd (none n.members n.name n.version n.object)
  by (another members name version o unnamed _) =
      let n = named_refused own in absurd (not_unknown family json n.members members n.name name n.version version n.schema n.object n.is o unnamed)
  by (within r) = first g r

pub in_member_first : (want : Want) (place : List ℕ) (json : Json) (f g : SchemaFault) (family : List Schema) → want ≡ member family → FieldsFirst place family json f → Refuses_reading want place json g → f ≡ g
in_member_first want place json f g family ew first h = first g (reading_refused_as want (member family) place json g ew h)

pub in_medium_first : (want : Want) (place : List ℕ) (json : Json) (f g : SchemaFault) → want ≡ medium → FieldsFirst place C.MEDIA json f → Refuses_reading want place json g → f ≡ g
in_medium_first want place json f g ew first h = first g (reading_refused_as want medium place json g ew h)

-- lists
pub first_one_first : (want : Want) (place : List ℕ) (index : ℕ) (list : List Json) (f g : SchemaFault) (json : Json) (others : List Json) → list ≡ json ∷ others
    → Refuses_reading want (place_in want place index) json f → ((x : SchemaFault) → Refuses_reading want (place_in want place index) json x → f ≡ x) → Refuses_any want place index list g → f ≡ g
first_one_first want place index list f g json others el own first h = by (any_refused_as want place index list (json ∷ others) g el h) where
  by : AnyRefused want place index (json ∷ others) g → f ≡ g
  by (inl r) = first g r
  by (inr (reading, gives, _)) = absurd (reading_not own reading gives)

pub later_one_first : (want : Want) (place : List ℕ) (index : ℕ) (list : List Json) (f g : SchemaFault) (json : Json) (others : List Json) (reading : Reading) → list ≡ json ∷ others
    → Gives_reading want json reading → AnyFirst want place (index + 1) others f → Refuses_any want place index list g → f ≡ g
later_one_first want place index list f g json others reading el own later h = by (any_refused_as want place index list (json ∷ others) g el h) where
  by : AnyRefused want place index (json ∷ others) g → f ≡ g
  by (inl r) = absurd (reading_not r reading own)
  by (inr (_, _, r)) = later g r
