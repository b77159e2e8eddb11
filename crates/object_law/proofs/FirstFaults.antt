-- A JSON value has one first fault.
use Rattle.std.proofs.Common.{◌≡◌, ℕ, List}
use Rattle.json_value.specs.declared.Json.{Json}
use Rattle.schema_rows.specs.declared.faults.SchemaFault.{SchemaFault}
use Rattle.schema_rows.specs.Rows.{Row}
use Rattle.schema_rows.specs.declared.schemas.Schema.{Schema}
use Rattle.schema_rows.specs.Families.{Want}
use Rattle.schema_rows.specs.Faults as W
use Rattle.schema_rows.specs.Faults.{Refuses, Refuses_row, Refuses_rows, Refuses_fields, Refuses_reading, Refuses_any}
use Rattle.object_law.proofs.OneFault as at

mutual
  pub value_first : {place : List ℕ} {row : Row} {json : Json} {f : SchemaFault} → Refuses place row json f → (g : SchemaFault) → Refuses place row json g → f ≡ g
  value_first (W.wrong place row json f wrong is) g h = at.wrong_first place row json f g wrong is h
  value_first (W.no_speed place row json f d n ek ej none is) g h = at.no_speed_first place row json f g d n ek ej is h
  value_first (W.long place row json f n ek ej long is) g h = at.long_first place row json f g n ek ej long is h
  value_first (W.no_rate place row json f n ek ej none is) g h = at.no_rate_first place row json f g n ek ej none is h
  value_first (W.in_span place row json f ek r) g h = at.in_span_first place row json f g ek r (fields_first r) h
  value_first (W.negative place row json f fields ek gives negative is) g h = at.negative_first place row json f g fields ek gives is h
  value_first (W.in_time place row json f ek r) g h = at.in_time_first place row json f g ek r (fields_first r) h
  value_first (W.beyond place row json f fields ek gives beyond is) g h = at.beyond_first place row json f g fields ek gives is h
  value_first (W.in_items place row json f list ek ej r) g h = at.in_items_first place row json f g list ek ej (any_first r) h
  value_first (W.in_objects place row json f list ek ej r) g h = at.in_objects_first place row json f g list ek ej (any_first r) h
  value_first (W.in_effects place row json f list ek ej r) g h = at.in_effects_first place row json f g list ek ej (any_first r) h
  value_first (W.in_markers place row json f list ek ej r) g h = at.in_markers_first place row json f g list ek ej (any_first r) h
  value_first (W.in_media place row json f members ek ej r) g h = at.in_media_first place row json f g members ek ej (any_first r) h
  value_first (W.in_reference place row json f ek r) g h = at.in_reference_first place row json f g ek (reading_first r) h
  value_first (W.in_stack place row json f ek r) g h = at.in_stack_first place row json f g ek (reading_first r) h

  pub row_first : {place : List ℕ} {row : Row} {members : List (List ℕ × Json)} {f : SchemaFault} → Refuses_row place row members f → (g : SchemaFault) → Refuses_row place row members g → f ≡ g
  row_first (W.missing place row members f absent default is) g h = at.missing_first place row members f g absent is h
  row_first (W.refused place row members f json is r) g h = at.present_first place row members f g json is (value_first r) h

  pub rows_first : {place : List ℕ} {rows : List Row} {members : List (List ℕ × Json)} {f : SchemaFault} → Refuses_rows place rows members f → (g : SchemaFault) → Refuses_rows place rows members g → f ≡ g
  rows_first (W.first_row place rows members f row below er r) g h = at.first_row_first place rows members f g row below er r (row_first r) h
  rows_first (W.later_row place rows members f row below value er gives r) g h = at.later_row_first place rows members f g row below value er gives (rows_first r) h

  pub fields_first : {place : List ℕ} {family : List Schema} {json : Json} {f : SchemaFault} → Refuses_fields place family json f → (g : SchemaFault) → Refuses_fields place family json g → f ≡ g
  fields_first (W.newer place family json f members name version schema o is above eq) g h = at.newer_first place family json f g members name version schema o is above eq h
  fields_first (W.in_rows place family json f members name version schema o is known r) g h = at.in_rows_first place family json f g members name version schema o is known r (rows_first r) h
  fields_first (W.transitions place family json f members name version schema values o is known gives broken eq) g h =
      at.transitions_first place family json f g members name version schema values o is known gives eq h

  pub reading_first : {want : Want} {place : List ℕ} {json : Json} {f : SchemaFault} → Refuses_reading want place json f → (g : SchemaFault) → Refuses_reading want place json g → f ≡ g
  reading_first (W.no_object want place json f family ew none is) g h = at.no_object_first want place json f g family ew none is h
  reading_first (W.unknown want place json f family members name version ew o none is) g h = at.unknown_first want place json f g family members name version ew o none is h
  reading_first (W.in_child want place json f family ew r) g h = at.in_child_first want place json f g family ew r (fields_first r) h
  reading_first (W.in_member want place json f family ew r) g h = at.in_member_first want place json f g family ew (fields_first r) h
  reading_first (W.in_medium want place json f ew r) g h = at.in_medium_first want place json f g ew (fields_first r) h

  pub any_first : {want : Want} {place : List ℕ} {index : ℕ} {list : List Json} {f : SchemaFault} → Refuses_any want place index list f → (g : SchemaFault) → Refuses_any want place index list g → f ≡ g
  any_first (W.first_one want place index list f json others el r) g h = at.first_one_first want place index list f g json others el r (reading_first r) h
  any_first (W.later_one want place index list f json others reading el gives r) g h = at.later_one_first want place index list f g json others reading el gives (any_first r) h
