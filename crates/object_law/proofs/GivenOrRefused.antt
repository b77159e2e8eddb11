-- A JSON value that gives something has no fault.
use Rattle.std.proofs.Common.{ℕ, List}
use Rattle.json_value.specs.declared.Json.{Json}
use Rattle.schema_rows.specs.declared.faults.SchemaFault.{SchemaFault}
use Rattle.schema_rows.specs.Rows.{Row}
use Rattle.schema_rows.specs.declared.schemas.Schema.{Schema}
use Rattle.schema_rows.specs.declared.values.Fields.{Fields}
use Rattle.schema_rows.specs.declared.values.Value.{Value}
use Rattle.schema_rows.specs.Readings.{Reading}
use Rattle.schema_rows.specs.Families.{Want}
use Rattle.schema_rows.specs.Stands.{Gives, Gives_row, Gives_rows, Gives_fields, Gives_reading, Gives_all}
use Rattle.schema_rows.specs.Faults as W
use Rattle.schema_rows.specs.Faults.{Refuses, Refuses_row, Refuses_rows, Refuses_fields, Refuses_reading, Refuses_any}
use Rattle.object_law.proofs.ClashLemmas as at

mutual
  pub value_not : {place : List ℕ} {row : Row} {json : Json} {fault : SchemaFault} → Refuses place row json fault → (v : Value) → Gives row.kind json v → ⊥
  value_not (W.wrong place row json fault wrong is) v h = at.wrong_not row.kind json v wrong h
  value_not (W.no_speed place row json fault d n ek ej none is) v h = at.no_speed_not row.kind json v d n ek ej none h
  value_not (W.long place row json fault n ek ej long is) v h = at.long_not row.kind json v n ek ej long h
  value_not (W.no_rate place row json fault n ek ej none is) v h = at.no_rate_not row.kind json v n ek ej none h
  value_not (W.in_span place row json fault ek r) v h = at.span_not row.kind json v ek (fields_not r) h
  value_not (W.negative place row json fault f ek g negative is) v h = at.negative_not row.kind json v f ek g negative h
  value_not (W.in_time place row json fault ek r) v h = at.time_not row.kind json v ek (fields_not r) h
  value_not (W.beyond place row json fault f ek g beyond is) v h = at.beyond_not row.kind json v f ek g beyond h
  value_not (W.in_items place row json fault list ek ej r) v h = at.items_not row.kind json v list ek ej (all_not r) h
  value_not (W.in_objects place row json fault list ek ej r) v h = at.objects_not row.kind json v list ek ej (all_not r) h
  value_not (W.in_effects place row json fault list ek ej r) v h = at.effects_not row.kind json v list ek ej (all_not r) h
  value_not (W.in_markers place row json fault list ek ej r) v h = at.markers_not row.kind json v list ek ej (all_not r) h
  value_not (W.in_media place row json fault members ek ej r) v h = at.media_not row.kind json v members ek ej (all_not r) h
  value_not (W.in_reference place row json fault ek r) v h = at.reference_not row.kind json v ek (reading_not r) h
  value_not (W.in_stack place row json fault ek r) v h = at.stack_not row.kind json v ek (reading_not r) h

  pub row_not : {place : List ℕ} {row : Row} {members : List (List ℕ × Json)} {fault : SchemaFault} → Refuses_row place row members fault → (v : Value) → Gives_row row members v → ⊥
  row_not (W.missing place row members fault absent default is) v h = at.missing_not row members v absent default h
  row_not (W.refused place row members fault json is r) v h = at.present_not row members v json is (value_not r) h

  pub rows_not : {place : List ℕ} {rows : List Row} {members : List (List ℕ × Json)} {fault : SchemaFault} → Refuses_rows place rows members fault → (vs : List Value) → Gives_rows rows members vs → ⊥
  rows_not (W.first_row place rows members fault row below er r) vs h = at.first_row_not rows members vs row below er (row_not r) h
  rows_not (W.later_row place rows members fault row below value er g r) vs h = at.later_row_not rows members vs row below er (rows_not r) h

  pub fields_not : {place : List ℕ} {family : List Schema} {json : Json} {fault : SchemaFault} → Refuses_fields place family json fault → (f : Fields) → Gives_fields family json f → ⊥
  fields_not (W.newer place family json fault members name version schema o is above eq) f h = at.newer_not family json f members name version schema o is above h
  fields_not (W.in_rows place family json fault members name version schema o is known r) f h = at.in_rows_not family json f members name version schema o is (rows_not r) h
  fields_not (W.transitions place family json fault members name version schema values o is known rows broken eq) f h =
      at.transitions_not family json f members name version schema values o is rows broken h

  pub reading_not : {want : Want} {place : List ℕ} {json : Json} {fault : SchemaFault} → Refuses_reading want place json fault → (r : Reading) → Gives_reading want json r → ⊥
  reading_not (W.no_object want place json fault family ew none is) r h = at.no_object_not want json r family ew none h
  reading_not (W.unknown want place json fault family members name version ew o none is) r h = at.unknown_not want json r family members name version ew o none h
  reading_not (W.in_child want place json fault family ew x) r h = at.child_not want json r family ew (fields_not x) h
  reading_not (W.in_member want place json fault family ew x) r h = at.member_not want place json fault r family ew x (fields_not x) h
  reading_not (W.in_medium want place json fault ew x) r h = at.medium_not want place json fault r ew x (fields_not x) h

  pub all_not : {want : Want} {place : List ℕ} {index : ℕ} {list : List Json} {fault : SchemaFault} → Refuses_any want place index list fault → (rs : List Reading) → Gives_all want list rs → ⊥
  all_not (W.first_one want place index list fault json others el x) rs h = at.first_one_not want list rs json others el (reading_not x) h
  all_not (W.later_one want place index list fault json others reading el g x) rs h = at.later_one_not want list rs json others el (all_not x) h
