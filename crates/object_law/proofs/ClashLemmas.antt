-- A value and a fault exclude each other, one level at a time; that those inside do is known.
use Rattle.std.proofs.Common.{◌≡◌, ◌<◌, ◌⊎◌, inl, inr, ℕ, ℤ, pos, ◌≤ℤ◌, Bool, true, false, List, ◌∷◌, Option, Some, None, map, refl, sym, subst, arith}
use Rattle.std.proofs.lemmas.Int.{ints}
use Rattle.std.specs.List.{list_any}
use Rattle.json_value.specs.declared.Json.{Json}
use Rattle.json_value.specs.declared.Json.TheVariants as J
use Rattle.tick_time.specs.declared.decimals.Decimal.{Decimal}
use Rattle.tick_time.specs.declared.rates.Rate.{Rate}
use Rattle.tick_time.specs.declared.times.Time.{Time}
use Rattle.tick_time.specs.Decimals.{millionths, IsHalfEven, IsTooFast}
use Rattle.tick_time.specs.Rates.{GivesRate}
use Rattle.tick_time.specs.Sums.{IsBeyond}
use Rattle.tick_time.specs.Times.{IsSpeed}
use Rattle.schema_rows.specs.declared.faults.SchemaFault.{SchemaFault}
use Rattle.schema_rows.specs.Rows as R
use Rattle.schema_rows.specs.Rows.{Row, RowKind}
use Rattle.schema_rows.specs.declared.schemas.Schema.{Schema}
use Rattle.schema_rows.specs.declared.schemas.TheConstants as C
use Rattle.schema_rows.specs.declared.values.Fields.{Fields}
use Rattle.schema_rows.specs.declared.values.Value.{Value}
use Rattle.schema_rows.specs.Schemas.{rows_of, version_of, named, IsObjectOf}
use Rattle.schema_rows.specs.Numerals.{IsSpelled, IsLong, value_of_decimal}
use Rattle.schema_rows.specs.Readings.{Reading, known, stack_fields, medium_reading}
use Rattle.schema_rows.specs.Defaults.{absent_value}
use Rattle.schema_rows.specs.Counts.{count_object, count_collection}
use Rattle.schema_rows.specs.Families.{Want, child, member, medium, IsAbsent, IsGiven, breaks}
use Rattle.schema_rows.specs.Stands.{Gives, Gives_row, Gives_rows, Gives_fields, Gives_reading, Gives_all, as_child}
use Rattle.schema_rows.specs.Faults.{IsWrong, IsNoSpeed, IsNoRate, HasNegative, HasBeyond, Refuses_fields}
use Rattle.object_law.proofs.Values.{not_too_fast, not_beyond}
use Rattle.object_law.proofs.Decimals.{not_long, decimal_once}
use Rattle.object_law.proofs.SeenValues.{Folded}
use Rattle.object_law.proofs.GivenCases.{Read, given, given_as, read_as, read_all_as, rows_given_as}
use Rattle.schema_rows.proofs.JsonParts.{num_once, list_once, map_once}
use Rattle.object_law.proofs.Objects.{fielded, RowGiven, row_given, member_once, not_absent, not_unknown, named_given}
use Rattle.object_law.proofs.Lists.{breaks_once}
use Rattle.object_law.proofs.OneGiven.{times_once, rates_once, decimal_in, values_of}
use Rattle.object_law.proofs.OneValue.{fields_one, rows_one}
use Rattle.object_law.proofs.RefusedCases.{wrong_given, named_refused, foreign_refused}

-- the number of items, which sets spare memory aside
abbrev pub counted : Folded
counted = record { A = ℕ; B = ℕ; object = count_object; collection = count_collection; spare = λ t. refl }

pub wrong_not : (k : RowKind) (json : Json) (v : Value) → IsWrong k json → Gives k json v → ⊥
wrong_not k json v wrong h = wrong_given k json v wrong (given h)

no_speed_in : (n : List ℕ) (x : Decimal) (speed : ℤ) → IsNoSpeed n → IsSpelled n x → IsHalfEven (millionths (value_of_decimal x)) speed → IsSpeed speed → ⊥
no_speed_in n x speed (inl long) spells near fits = not_long n x spells long
no_speed_in n x speed (inr (y, also, fast)) spells near fits =
    not_too_fast x speed near fits (subst (λ (z : Decimal). IsTooFast (value_of_decimal z)) (decimal_once n y x also spells) fast)

pub no_speed_not : (k : RowKind) (json : Json) (v : Value) (d : ℤ) (n : List ℕ) → k ≡ R.number d → json ≡ J.Num n → IsNoSpeed n → Gives k json v → ⊥
no_speed_not k json v d n ek ej none h =
    let (m, x, speed, e, spells, near, fits, is) = given_as k (R.number d) json v ek h in
    no_speed_in n x speed none (subst (λ (t : List ℕ). IsSpelled t x) (num_once json m n e ej) spells) near fits

pub long_not : (k : RowKind) (json : Json) (v : Value) (n : List ℕ) → (k ≡ R.rate) ⊎ (k ≡ R.numeral) → json ≡ J.Num n → IsLong n → Gives k json v → ⊥
long_not k json v n (inl ek) ej long h =
    let (m, x, r, e, spells, gives, is) = given_as k R.rate json v ek h in not_long m x spells (subst IsLong (num_once json n m ej e) long)
long_not k json v n (inr ek) ej long h =
    let (m, x, e, spells, is) = given_as k R.numeral json v ek h in not_long m x spells (subst IsLong (num_once json n m ej e) long)

pub no_rate_not : (k : RowKind) (json : Json) (v : Value) (n : List ℕ) → k ≡ R.rate → json ≡ J.Num n → IsNoRate n → Gives k json v → ⊥
no_rate_not k json v n ek ej (y, also, none) h =
    let (m, x, r, e, spells, gives, is) = given_as k R.rate json v ek h in
    none r.num r.den (subst (λ (z : Decimal). GivesRate (value_of_decimal z) r.num r.den) (decimal_in json m n x y e ej spells also) gives)

pub span_not : (k : RowKind) (json : Json) (v : Value) → k ≡ R.span → ((f : Fields) → Gives_fields C.RANGES json f → ⊥) → Gives k json v → ⊥
span_not k json v ek none h =
    let (f, s, g, ef, is) = given_as k R.span json v ek h in none f g

pub negative_not : (k : RowKind) (json : Json) (v : Value) (f : Fields) → k ≡ R.span → Gives_fields C.RANGES json f → HasNegative f.values → Gives k json v → ⊥
negative_not k json v f ek own (start, len, ef, below) h =
    let (g, s, gives, eg, is) = given_as k R.span json v ek h in
    let same = times_once counted f g len start s.len s.start (fields_one counted own g gives) ef eg in
    let forward : pos 0 ≤ℤ len.ticks = subst (λ (t : Time). pos 0 ≤ℤ t.ticks) (sym same.0) s.forward in omega (arith, ints, forward, below)

pub time_not : (k : RowKind) (json : Json) (v : Value) → k ≡ R.time → ((f : Fields) → Gives_fields C.TIMES json f → ⊥) → Gives k json v → ⊥
time_not k json v ek none h =
    let (f, r, d, t, g, ef, time, is) = given_as k R.time json v ek h in none f g

pub beyond_not : (k : RowKind) (json : Json) (v : Value) (f : Fields) → k ≡ R.time → Gives_fields C.TIMES json f → HasBeyond f.values → Gives k json v → ⊥
beyond_not k json v f ek own (r, d, ef, beyond) h =
    let (g, s, e, t, gives, eg, time, is) = given_as k R.time json v ek h in
    let same = rates_once counted f g r s d e (fields_one counted own g gives) ef eg in
    not_beyond e s t time (subst (λ (x : Decimal). IsBeyond (value_of_decimal x) s) same.1 (subst (λ (x : Rate). IsBeyond (value_of_decimal d) x) same.0 beyond))

abbrev NoneGiven : Want → List Json → Type 0
NoneGiven want list = (rs : List Reading) → Gives_all want list rs → ⊥

same_list : (want : Want) (json : Json) (a b : List Json) (rs : List Reading) → json ≡ J.List a → json ≡ J.List b → NoneGiven want a → Gives_all want b rs → ⊥
same_list want json a b rs p q none g = none rs (subst (λ (x : List Json). Gives_all want x rs) (list_once json b a q p) g)

pub items_not : (k : RowKind) (json : Json) (v : Value) (list : List Json) → k ≡ R.items → json ≡ J.List list → NoneGiven (child C.ITEMS) list → Gives k json v → ⊥
items_not k json v list ek ej none h =
    let (other, ys, e, g, is) = given_as k R.items json v ek h in same_list (child C.ITEMS) json list other _ ej e none g

pub objects_not : (k : RowKind) (json : Json) (v : Value) (list : List Json) → k ≡ R.objects → json ≡ J.List list → NoneGiven (child C.ROOTS) list → Gives k json v → ⊥
objects_not k json v list ek ej none h =
    let (other, ys, e, g, is) = given_as k R.objects json v ek h in same_list (child C.ROOTS) json list other _ ej e none g

pub effects_not : (k : RowKind) (json : Json) (v : Value) (list : List Json) → k ≡ R.effects → json ≡ J.List list → NoneGiven (member C.EFFECTS) list → Gives k json v → ⊥
effects_not k json v list ek ej none h =
    let (other, ys, e, g, is) = given_as k R.effects json v ek h in same_list (member C.EFFECTS) json list other _ ej e none g

pub markers_not : (k : RowKind) (json : Json) (v : Value) (list : List Json) → k ≡ R.markers → json ≡ J.List list → NoneGiven (member C.MARKERS) list → Gives k json v → ⊥
markers_not k json v list ek ej none h =
    let (other, ys, e, g, is) = given_as k R.markers json v ek h in same_list (member C.MARKERS) json list other _ ej e none g

pub media_not : (k : RowKind) (json : Json) (v : Value) (members : List (List ℕ × Json)) → k ≡ R.media → json ≡ J.Map members → NoneGiven medium (values_of members) → Gives k json v → ⊥
media_not k json v members ek ej none h =
    let (other, ys, e, names, g, is) = given_as k R.media json v ek h in
    none _ (subst (λ (m : List (List ℕ × Json)). Gives_all medium (values_of m) (map (λ m. medium_reading m.1) ys)) (map_once json other members e ej) g)

pub reference_not : (k : RowKind) (json : Json) (v : Value) → k ≡ R.medium → ((r : Reading) → Gives_reading medium json r → ⊥) → Gives k json v → ⊥
reference_not k json v ek none h =
    let (m, g, is) = given_as k R.medium json v ek h in none (medium_reading m) g

pub stack_not : (k : RowKind) (json : Json) (v : Value) → k ≡ R.stack → ((r : Reading) → Gives_reading (child C.STACKS) json r → ⊥) → Gives k json v → ⊥
stack_not k json v ek none h =
    let (s, g, is) = given_as k R.stack json v ek h in none (known (stack_fields s)) (as_child (child C.STACKS) json (known (stack_fields s)) C.STACKS (stack_fields s) refl refl g)

-- rows
none_and_some : (o : Option Value) (v : Value) → o ≡ None → o ≡ Some v → ⊥
none_and_some o v p q = cc

pub missing_not : (row : Row) (members : List (List ℕ × Json)) (v : Value) → IsAbsent row.name members → absent_value row ≡ None → Gives_row row members v → ⊥
missing_not row members v absent default h = by (row_given h) where
  by : RowGiven row members v → ⊥
  by (inl (json, is, _)) = not_absent row.name members json is absent
  by (inr (_, some)) = none_and_some (absent_value row) v default some

pub present_not : (row : Row) (members : List (List ℕ × Json)) (v : Value) (json : Json) → IsGiven row.name members json → ((x : Value) → Gives row.kind json x → ⊥) → Gives_row row members v → ⊥
present_not row members v json is none h = by (row_given h) where
  by : RowGiven row members v → ⊥
  by (inl (other, also, g)) = none v (subst (λ (j : Json). Gives row.kind j v) (member_once row.name members other json also is) g)
  by (inr (absent, _)) = not_absent row.name members json is absent

pub first_row_not : (rows : List Row) (members : List (List ℕ × Json)) (vs : List Value) (row : Row) (below : List Row) → rows ≡ row ∷ below
    → ((x : Value) → Gives_row row members x → ⊥) → Gives_rows rows members vs → ⊥
first_row_not rows members vs row below er none h =
    let (v, behind, ev, g, more) = rows_given_as rows (row ∷ below) members vs er h in none v g

pub later_row_not : (rows : List Row) (members : List (List ℕ × Json)) (vs : List Value) (row : Row) (below : List Row) → rows ≡ row ∷ below
    → ((xs : List Value) → Gives_rows below members xs → ⊥) → Gives_rows rows members vs → ⊥
later_row_not rows members vs row below er none h =
    let (v, behind, ev, g, more) = rows_given_as rows (row ∷ below) members vs er h in none behind more

-- objects
pub newer_not : (family : List Schema) (json : Json) (f : Fields) (members : List (List ℕ × Json)) (name : List ℕ) (version : ℕ) (schema : Schema) → IsObjectOf json members name version
    → named name family ≡ Some schema → version_of schema < version → Gives_fields family json f → ⊥
newer_not family json f members name version schema o is above h =
    let x = fielded family json f h members name version schema o is in omega (arith, above, x.known)

pub in_rows_not : (family : List Schema) (json : Json) (f : Fields) (members : List (List ℕ × Json)) (name : List ℕ) (version : ℕ) (schema : Schema) → IsObjectOf json members name version
    → named name family ≡ Some schema → ((xs : List Value) → Gives_rows (rows_of schema) members xs → ⊥) → Gives_fields family json f → ⊥
in_rows_not family json f members name version schema o is none h =
    let x = fielded family json f h members name version schema o is in none x.values x.rows

true_and_false : (b c : Bool) → b ≡ true → c ≡ false → b ≡ c → ⊥
true_and_false b c p q e = cc

pub transitions_not : (family : List Schema) (json : Json) (f : Fields) (members : List (List ℕ × Json)) (name : List ℕ) (version : ℕ) (schema : Schema) (values : List Value)
    → IsObjectOf json members name version → named name family ≡ Some schema → Gives_rows (rows_of schema) members values → list_any (breaks schema) values ≡ true → Gives_fields family json f → ⊥
transitions_not family json f members name version schema values o is rows broken h =
    let x = fielded family json f h members name version schema o is in
    true_and_false (list_any (breaks schema) values) (list_any (breaks schema) x.values) broken x.quiet (breaks_once counted schema values x.values (rows_one counted rows x.values x.rows))

-- what is asked
pub no_object_not : (want : Want) (json : Json) (r : Reading) (family : List Schema) → want ≡ child family
    → ((members : List (List ℕ × Json)) (name : List ℕ) (version : ℕ) → IsObjectOf json members name version → ⊥) → Gives_reading want json r → ⊥
no_object_not want json r family ew none h =
    let (f, is, g) = read_as want (child family) json r ew h in
    let n = named_given family json f g in none n.members n.name n.version n.object

pub unknown_not : (want : Want) (json : Json) (r : Reading) (family : List Schema) (members : List (List ℕ × Json)) (name : List ℕ) (version : ℕ) → want ≡ child family
    → IsObjectOf json members name version → named name family ≡ None → Gives_reading want json r → ⊥
unknown_not want json r family members name version ew o none h =
    let (f, is, g) = read_as want (child family) json r ew h in
    let n = named_given family json f g in not_unknown family json n.members members n.name name n.version version n.schema n.object n.is o none

pub child_not : (want : Want) (json : Json) (r : Reading) (family : List Schema) → want ≡ child family → ((x : Fields) → Gives_fields family json x → ⊥) → Gives_reading want json r → ⊥
child_not want json r family ew none h =
    let (f, is, g) = read_as want (child family) json r ew h in none f g

member_in : (family : List Schema) (place : List ℕ) (json : Json) (fault : SchemaFault) (r : Reading) → Refuses_fields place family json fault → ((x : Fields) → Gives_fields family json x → ⊥) → Read (member family) json r → ⊥
member_in family place json fault r own none (inl (f, is, g)) = none f g
member_in family place json fault r own none (inr (is, foreign)) = foreign_refused place family json fault foreign own

pub member_not : (want : Want) (place : List ℕ) (json : Json) (fault : SchemaFault) (r : Reading) (family : List Schema) → want ≡ member family → Refuses_fields place family json fault
    → ((x : Fields) → Gives_fields family json x → ⊥) → Gives_reading want json r → ⊥
member_not want place json fault r family ew own none h = member_in family place json fault r own none (read_as want (member family) json r ew h)

null_not : (json : Json) (members : List (List ℕ × Json)) → json ≡ J.Null → json ≡ J.Map members → ⊥
null_not json members p q = cc

pub medium_not : (want : Want) (place : List ℕ) (json : Json) (fault : SchemaFault) (r : Reading) → want ≡ medium → Refuses_fields place C.MEDIA json fault
    → ((x : Fields) → Gives_fields C.MEDIA json x → ⊥) → Gives_reading want json r → ⊥
medium_not want place json fault r ew own none h = by (read_as want medium json r ew h) where
  by : Read medium json r → ⊥
  by (inl (null, _)) = let n = named_refused own in null_not json n.members null n.object.object
  by (inr (_, g)) = member_in C.MEDIA place json fault r own none (read_as (member C.MEDIA) (member C.MEDIA) json r refl g)

-- lists
pub first_one_not : (want : Want) (list : List Json) (rs : List Reading) (json : Json) (others : List Json) → list ≡ json ∷ others → ((x : Reading) → Gives_reading want json x → ⊥) → Gives_all want list rs → ⊥
first_one_not want list rs json others el none h =
    let (r, behind, er, g, more) = read_all_as want list (json ∷ others) rs el h in none r g

pub later_one_not : (want : Want) (list : List Json) (rs : List Reading) (json : Json) (others : List Json) → list ≡ json ∷ others → NoneGiven want others → Gives_all want list rs → ⊥
later_one_not want list rs json others el none h =
    let (r, behind, er, g, more) = read_all_as want list (json ∷ others) rs el h in none behind more
