-- The written form of objects by the tables of their schemas: a value for each row, then the other
-- members.
use Rattle.std.specs.Prelude.{ℕ, ◌*◌, ◌/◌, ◌^◌, List, map}
use Rattle.json_value.specs.declared.Json.{Json, Bool as JsonOfBool, Num, Str, List as JsonOfList, Map}
use Rattle.tick_time.specs.declared.decimals.Decimal.{Decimal}
use Rattle.tick_time.specs.Decimals.{raised, lowered}
use Rattle.tick_time.specs.Numerals.{signed}
use Rattle.schema_rows.specs.declared.values.Fields.{Fields}
use Rattle.schema_rows.specs.declared.values.Value.{Value}
use Rattle.schema_rows.specs.declared.values.Value.TheVariants as V
use Rattle.schema_rows.specs.Readings.{Reading, known, kept}
use Rattle.schema_rows.specs.Families.{stilled}
use Rattle.schema_write.specs.Texts.{decimal_text, rate_text}
use Rattle.schema_write.specs.Written.{written}
use Rattle.schema_write.specs.Objects.{offset_json, span_json, effects_json, markers_json, media_json, medium_json, newer, stack_by, children_json, item_json, json_of}

-- the whole millionths of a decimal
abbrev pub millionths_text : Decimal → List ℕ
millionths_text d =
    decimal_text (signed d.neg (d.digits * 10 ^ raised d.exp * 1000000 / 10 ^ lowered d.exp))

-- the value of a row in JSON
abbrev pub value_json : Value → Json
value_json (V.Text characters) = Str characters
value_json (V.Flag truth) = JsonOfBool truth
value_json (V.Meta members) = Map members
value_json (V.Span span) = span_json span
value_json (V.Time offset) = offset_json offset
value_json (V.Number speed) = Num (decimal_text speed)
value_json (V.Items items) = JsonOfList (map item_json items)
value_json (V.Effects effects) = effects_json effects
value_json (V.Markers markers) = markers_json markers
value_json (V.Media media) = media_json media
value_json (V.Medium medium) = medium_json medium
value_json (V.Stack stack) = stack_by newer children_json stack
value_json (V.Objects objects) = JsonOfList (map json_of objects)
value_json (V.Rate rate) = Num (rate_text rate)
value_json (V.Numeral decimal) = Num (millionths_text decimal)

-- an object of a schema by its fields; a freeze frame's speed is 0 whatever its field holds
abbrev pub fields_json : Fields → Json
fields_json fields =
    written fields.schema (map (λ value.
    value_json (stilled fields.schema value)) fields.values) fields.rest

-- what was read, or the value that was kept
abbrev pub reading_json : Reading → Json
reading_json (known fields) = fields_json fields
reading_json (kept json) = json
