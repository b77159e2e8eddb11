-- The first fault of a JSON value that represents no object: an object's schema, then its rows in
-- the order of its table with all that stands inside them, then its transitions; the number of
-- items last.
use Rattle.std.specs.Prelude.{◌≡◌, ◌⊎◌, ◌<◌, ◌≤◌, ◌+◌, ℕ, Bool, true, ℤ, pos, ◌<ℤ◌, List, [], ◌∷◌, Some, None, map}
use Rattle.std.specs.List.{list_any}
use Rattle.json_value.specs.declared.Json.{Json}
use Rattle.json_value.specs.declared.Json.TheVariants as J
use Rattle.tick_time.specs.declared.decimals.Decimal.{Decimal}
use Rattle.tick_time.specs.declared.rates.Rate.{Rate}
use Rattle.tick_time.specs.declared.times.Time.{Time}
use Rattle.tick_time.specs.Decimals.{IsTooFast}
use Rattle.tick_time.specs.Rates.{GivesRate}
use Rattle.tick_time.specs.Sums.{IsBeyond}
use Rattle.limits.specs.Limits.{most_items}
use Rattle.otio_model.specs.declared.objects.Object.{Object}
use Rattle.schema_rows.specs.declared.faults.SchemaFault.{SchemaFault}
use Rattle.schema_rows.specs.declared.faults.SchemaFault.TheVariants as F
use Rattle.schema_rows.specs.Rows as R
use Rattle.schema_rows.specs.Rows.{Row, RowKind}
use Rattle.schema_rows.specs.declared.schemas.Schema.{Schema}
use Rattle.schema_rows.specs.declared.schemas.TheConstants as C
use Rattle.schema_rows.specs.declared.values.Fields.{Fields}
use Rattle.schema_rows.specs.declared.values.Value.{Value}
use Rattle.schema_rows.specs.declared.values.Value.TheVariants as V
use Rattle.schema_rows.specs.Schemas.{rows_of, version_of, named, IsObjectOf, IsForeign}
use Rattle.schema_rows.specs.Numerals.{IsSpelled, IsLong, value_of_decimal}
use Rattle.schema_rows.specs.Readings.{Reading}
use Rattle.schema_rows.specs.Defaults.{absent_value}
use Rattle.schema_rows.specs.Counts.{count_of}
use Rattle.schema_rows.specs.Families.{Want, child, member, medium, place_in, IsAbsent, IsGiven, breaks}
use Rattle.schema_rows.specs.Stands.{Gives_row, Gives_rows, Gives_fields, Gives_reading, Stands}

-- the JSON value is none that a row of the kind can have
abbrev pub IsWrong : RowKind → Json → Type 0
IsWrong (R.text default) json = (characters : List ℕ) → json ≡ J.Str characters → ⊥
IsWrong R.flag json = (truth : Bool) → json ≡ J.Bool truth → ⊥
IsWrong R.meta json = (members : List (List ℕ × Json)) → json ≡ J.Map members → ⊥
IsWrong R.media json = (members : List (List ℕ × Json)) → json ≡ J.Map members → ⊥
IsWrong R.items json = (list : List Json) → json ≡ J.List list → ⊥
IsWrong R.effects json = (list : List Json) → json ≡ J.List list → ⊥
IsWrong R.markers json = (list : List Json) → json ≡ J.List list → ⊥
IsWrong R.objects json = (list : List Json) → json ≡ J.List list → ⊥
IsWrong (R.number default) json = (numeral : List ℕ) → json ≡ J.Num numeral → ⊥
IsWrong R.rate json = (numeral : List ℕ) → json ≡ J.Num numeral → ⊥
IsWrong R.numeral json = (numeral : List ℕ) → json ≡ J.Num numeral → ⊥
IsWrong R.span json = IsForeign C.RANGES json
IsWrong R.time json = IsForeign C.TIMES json
IsWrong R.medium json = ⊥
IsWrong R.stack json = ⊥

-- the text spells no speed: it is too long, or beyond 1000 times either way
abbrev pub IsNoSpeed : List ℕ → Type 0
IsNoSpeed numeral = IsLong numeral
    ⊎ ((decimal : Decimal) × IsSpelled numeral decimal × IsTooFast (value_of_decimal decimal))

-- the text spells a decimal that is no rate
abbrev pub IsNoRate : List ℕ → Type 0
IsNoRate numeral = (decimal : Decimal) × IsSpelled numeral decimal
    × ((num den : ℤ) → GivesRate (value_of_decimal decimal) num den → ⊥)

-- the object's duration is negative
abbrev pub HasNegative : List Value → Type 0
HasNegative values = (start len : Time) × (values ≡ V.Time (Some len) ∷ V.Time (Some start) ∷ [])
    × (len.ticks <ℤ pos 0)

-- the object's value is out of range at its rate
abbrev pub HasBeyond : List Value → Type 0
HasBeyond values = (rate : Rate) × (decimal : Decimal)
    × (values ≡ V.Rate rate ∷ V.Numeral decimal ∷ []) × IsBeyond (value_of_decimal decimal) rate

mutual
  -- the first fault of the JSON value in a row of an object at the place
  pub data Refuses : List ℕ → Row → Json → SchemaFault → Type 0 where
    wrong : (place : List ℕ) (row : Row) (json : Json) (fault : SchemaFault) → IsWrong row.kind json
        → fault ≡ F.Field place row.name → Refuses place row json fault
    no_speed : (place : List ℕ) (row : Row) (json : Json) (fault : SchemaFault) (default : ℤ)
        (numeral : List ℕ)
        → row.kind ≡ R.number default → json ≡ J.Num numeral → IsNoSpeed numeral
        → fault ≡ F.Field place row.name → Refuses place row json fault
    long : (place : List ℕ) (row : Row) (json : Json) (fault : SchemaFault) (numeral : List ℕ)
        → (row.kind ≡ R.rate) ⊎ (row.kind ≡ R.numeral)
        → json ≡ J.Num numeral → IsLong numeral → fault ≡ F.Range place
        → Refuses place row json fault
    no_rate : (place : List ℕ) (row : Row) (json : Json) (fault : SchemaFault) (numeral : List ℕ)
        → row.kind ≡ R.rate
        → json ≡ J.Num numeral → IsNoRate numeral → fault ≡ F.Rate place
        → Refuses place row json fault
    in_span : (place : List ℕ) (row : Row) (json : Json) (fault : SchemaFault) → row.kind ≡ R.span
        → Refuses_fields place C.RANGES json fault → Refuses place row json fault
    negative : (place : List ℕ) (row : Row) (json : Json) (fault : SchemaFault) (fields : Fields)
        → row.kind ≡ R.span → Gives_fields C.RANGES json fields
        → HasNegative fields.values → fault ≡ F.Range place → Refuses place row json fault
    in_time : (place : List ℕ) (row : Row) (json : Json) (fault : SchemaFault) → row.kind ≡ R.time
        → Refuses_fields place C.TIMES json fault → Refuses place row json fault
    beyond : (place : List ℕ) (row : Row) (json : Json) (fault : SchemaFault) (fields : Fields)
        → row.kind ≡ R.time → Gives_fields C.TIMES json fields
        → HasBeyond fields.values → fault ≡ F.Range place → Refuses place row json fault
    in_items : (place : List ℕ) (row : Row) (json : Json) (fault : SchemaFault) (list : List Json)
        → row.kind ≡ R.items → json ≡ J.List list
        → Refuses_any (child C.ITEMS) place 0 list fault → Refuses place row json fault
    in_objects : (place : List ℕ) (row : Row) (json : Json) (fault : SchemaFault) (list : List Json)
        → row.kind ≡ R.objects → json ≡ J.List list
        → Refuses_any (child C.ROOTS) place 0 list fault → Refuses place row json fault
    in_effects : (place : List ℕ) (row : Row) (json : Json) (fault : SchemaFault) (list : List Json)
        → row.kind ≡ R.effects → json ≡ J.List list
        → Refuses_any (member C.EFFECTS) place 0 list fault → Refuses place row json fault
    in_markers : (place : List ℕ) (row : Row) (json : Json) (fault : SchemaFault) (list : List Json)
        → row.kind ≡ R.markers → json ≡ J.List list
        → Refuses_any (member C.MARKERS) place 0 list fault → Refuses place row json fault
    in_media : (place : List ℕ) (row : Row) (json : Json) (fault : SchemaFault)
        (members : List (List ℕ × Json)) → row.kind ≡ R.media → json ≡ J.Map members
        → Refuses_any medium place 0 (map (λ member. member.1) members) fault
        → Refuses place row json fault
    in_reference : (place : List ℕ) (row : Row) (json : Json) (fault : SchemaFault)
        → row.kind ≡ R.medium → Refuses_reading medium place json fault
        → Refuses place row json fault
    in_stack : (place : List ℕ) (row : Row) (json : Json) (fault : SchemaFault) → row.kind ≡ R.stack
        → Refuses_reading (child C.STACKS) place json fault → Refuses place row json fault

  -- the first fault of a row: its member is absent and has no default, or is refused
  pub data Refuses_row : List ℕ → Row → List (List ℕ × Json) → SchemaFault → Type 0 where
    missing : (place : List ℕ) (row : Row) (members : List (List ℕ × Json)) (fault : SchemaFault)
        → IsAbsent row.name members → absent_value row ≡ None
        → fault ≡ F.Field place row.name → Refuses_row place row members fault
    refused : (place : List ℕ) (row : Row) (members : List (List ℕ × Json)) (fault : SchemaFault)
        (json : Json) → IsGiven row.name members json
        → Refuses place row json fault → Refuses_row place row members fault

  -- the first fault of the rows in order: that of a row, where each before it has a value
  pub data Refuses_rows : List ℕ → List Row → List (List ℕ × Json) → SchemaFault → Type 0 where
    first_row : (place : List ℕ) (rows : List Row) (members : List (List ℕ × Json))
        (fault : SchemaFault) (row : Row) (below : List Row)
        → rows ≡ row ∷ below → Refuses_row place row members fault
        → Refuses_rows place rows members fault
    later_row : (place : List ℕ) (rows : List Row) (members : List (List ℕ × Json))
        (fault : SchemaFault) (row : Row) (below : List Row) (value : Value)
        → rows ≡ row ∷ below → Gives_row row members value → Refuses_rows place below members fault
        → Refuses_rows place rows members fault

  -- the first fault of an object of a schema of the family: a newer version, then its rows, then
  -- its transitions
  pub data Refuses_fields : List ℕ → List Schema → Json → SchemaFault → Type 0 where
    newer : (place : List ℕ) (family : List Schema) (json : Json) (fault : SchemaFault)
        (members : List (List ℕ × Json)) (name : List ℕ) (version : ℕ) (schema : Schema)
        → IsObjectOf json members name version → named name family ≡ Some schema
        → version_of schema < version → fault ≡ F.Newer place
        → Refuses_fields place family json fault
    in_rows : (place : List ℕ) (family : List Schema) (json : Json) (fault : SchemaFault)
        (members : List (List ℕ × Json)) (name : List ℕ) (version : ℕ) (schema : Schema)
        → IsObjectOf json members name version → named name family ≡ Some schema
        → version ≤ version_of schema → Refuses_rows place (rows_of schema) members fault
        → Refuses_fields place family json fault
    transitions : (place : List ℕ) (family : List Schema) (json : Json) (fault : SchemaFault)
        (members : List (List ℕ × Json)) (name : List ℕ) (version : ℕ) (schema : Schema)
        (values : List Value)
        → IsObjectOf json members name version → named name family ≡ Some schema
        → version ≤ version_of schema → Gives_rows (rows_of schema) members values
        → list_any (breaks schema) values ≡ true → fault ≡ F.Transitions place
        → Refuses_fields place family json fault

  -- the first fault of a value of which this is asked: of a child, that it is no object or of an
  -- unknown schema comes first
  pub data Refuses_reading : Want → List ℕ → Json → SchemaFault → Type 0 where
    no_object : (want : Want) (place : List ℕ) (json : Json) (fault : SchemaFault)
        (family : List Schema) → want ≡ child family
        → ((members : List (List ℕ × Json)) (name : List ℕ) (version : ℕ)
        → IsObjectOf json members name version → ⊥) → fault ≡ F.NotObject place
        → Refuses_reading want place json fault
    unknown : (want : Want) (place : List ℕ) (json : Json) (fault : SchemaFault)
        (family : List Schema) (members : List (List ℕ × Json)) (name : List ℕ) (version : ℕ)
        → want ≡ child family
        → IsObjectOf json members name version → named name family ≡ None
        → fault ≡ F.UnknownChild place → Refuses_reading want place json fault
    in_child : (want : Want) (place : List ℕ) (json : Json) (fault : SchemaFault)
        (family : List Schema) → want ≡ child family → Refuses_fields place family json fault
        → Refuses_reading want place json fault
    in_member : (want : Want) (place : List ℕ) (json : Json) (fault : SchemaFault)
        (family : List Schema) → want ≡ member family → Refuses_fields place family json fault
        → Refuses_reading want place json fault
    in_medium : (want : Want) (place : List ℕ) (json : Json) (fault : SchemaFault) → want ≡ medium
        → Refuses_fields place C.MEDIA json fault → Refuses_reading want place json fault

  -- the first fault of a list from an index on: that of a value, where each before it is read
  pub data Refuses_any : Want → List ℕ → ℕ → List Json → SchemaFault → Type 0 where
    first_one : (want : Want) (place : List ℕ) (index : ℕ) (list : List Json) (fault : SchemaFault)
        (json : Json) (others : List Json)
        → list ≡ json ∷ others → Refuses_reading want (place_in want place index) json fault
        → Refuses_any want place index list fault
    later_one : (want : Want) (place : List ℕ) (index : ℕ) (list : List Json) (fault : SchemaFault)
        (json : Json) (others : List Json) (reading : Reading)
        → list ≡ json ∷ others → Gives_reading want json reading
        → Refuses_any want place (index + 1) others fault → Refuses_any want place index list fault

-- the first fault of a JSON value: that of its rows and all that stands inside, else more than 100
-- 000 items
pub data IsFirstFault (json : Json) (fault : SchemaFault) : Type 0 where
  refused : Refuses_reading (child C.ROOTS) [] json fault → IsFirstFault json fault
  many : (object : Object) → Stands json object → most_items < count_of object → fault ≡ F.Items
      → IsFirstFault json fault
