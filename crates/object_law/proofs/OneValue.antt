-- What a JSON value gives is one.
use Rattle.std.proofs.Common.{◌≡◌, ℕ, List, map}
use Rattle.json_value.specs.declared.Json.{Json}
use Rattle.schema_rows.specs.Rows.{Row, RowKind}
use Rattle.schema_rows.specs.declared.schemas.Schema.{Schema}
use Rattle.schema_rows.specs.declared.values.Fields.{Fields}
use Rattle.schema_rows.specs.declared.values.Value.{Value}
use Rattle.schema_rows.specs.Readings.{Reading}
use Rattle.schema_rows.specs.Families.{Want}
use Rattle.schema_rows.specs.Stands as G
use Rattle.schema_rows.specs.Stands.{Gives, Gives_row, Gives_rows, Gives_fields, Gives_reading, Gives_all}
use Rattle.object_law.proofs.SeenValues.{Folded, seen, seen_fields, seen_reading}
use Rattle.object_law.proofs.OneGiven as of
use Rattle.object_law.proofs.Levels as at

mutual
  pub gives_one : (φ : Folded) {k : RowKind} {json : Json} {v : Value} → Gives k json v → (w : Value) → Gives k json w → seen φ v ≡ seen φ w
  gives_one φ (G.text k json v d a ek ej ev) w h = of.text_once φ k json v w d a ek ej ev h
  gives_one φ (G.flag k json v a ek ej ev) w h = of.flag_once φ k json v w a ek ej ev h
  gives_one φ (G.meta k json v a ek ej ev) w h = of.meta_once φ k json v w a ek ej ev h
  gives_one φ (G.span k json v f s ek g ef ev) w h = of.span_once φ k json v w f s ek ef ev (fields_one φ g) h
  gives_one φ (G.time k json v f r d t ek g ef is ev) w h = of.time_once_in φ k json v w f r d t ek ef is ev (fields_one φ g) h
  gives_one φ (G.number k json v d n x speed ek ej spells nearest fits ev) w h = of.number_once φ k json v w d n x speed ek ej spells nearest ev h
  gives_one φ (G.rate k json v n x r ek ej spells gives ev) w h = of.rate_once_in φ k json v w n x r ek ej spells gives ev h
  gives_one φ (G.numeral k json v n x ek ej spells ev) w h = of.numeral_once φ k json v w n x ek ej spells ev h
  gives_one φ (G.items k json v list xs ek ej g ev) w h = of.items_once φ k json v w list xs ek ej ev (all_one φ g) h
  gives_one φ (G.objects k json v list xs ek ej g ev) w h = of.objects_once φ k json v w list xs ek ej ev (all_one φ g) h
  gives_one φ (G.effects k json v list xs ek ej g ev) w h = of.effects_once φ k json v w list xs ek ej ev (all_one φ g) h
  gives_one φ (G.markers k json v list xs ek ej g ev) w h = of.markers_once φ k json v w list xs ek ej ev (all_one φ g) h
  gives_one φ (G.media k json v members xs ek ej en g ev) w h = of.media_once φ k json v w members xs ek ej en ev (all_one φ g) h
  gives_one φ (G.one_medium k json v m ek g ev) w h = of.reference_once φ k json v w m ek ev (reading_one φ g) h
  gives_one φ (G.stack k json v s ek g ev) w h = of.stack_once φ k json v w s ek ev (fields_one φ g) h

  pub row_one : (φ : Folded) {row : Row} {members : List (List ℕ × Json)} {v : Value} → Gives_row row members v → (w : Value) → Gives_row row members w → seen φ v ≡ seen φ w
  row_one φ (G.present row members v json is g) w h = at.present_once φ row members v w json is (gives_one φ g) h
  row_one φ (G.absent row members v none default) w h = at.absent_once φ row members v w none default h

  pub rows_one : (φ : Folded) {rows : List Row} {members : List (List ℕ × Json)} {vs : List Value} → Gives_rows rows members vs → (ws : List Value) → Gives_rows rows members ws
      → map (seen φ) vs ≡ map (seen φ) ws
  rows_one φ (G.no_rows rows members vs er ev) ws h = at.no_rows_once φ rows members vs ws er ev h
  rows_one φ (G.more_rows rows members vs row below v behind er ev g gs) ws h = at.more_rows_once φ rows members vs ws row below v behind er ev (row_one φ g) (rows_one φ gs) h

  pub fields_one : (φ : Folded) {family : List Schema} {json : Json} {f : Fields} → Gives_fields family json f → (x : Fields) → Gives_fields family json x → seen_fields φ f ≡ seen_fields φ x
  fields_one φ (G.fields family json f members name version values o is known rows quiet va ra) x h =
      at.fields_once φ family json f x members name version values o is va ra (rows_one φ rows) h

  pub reading_one : (φ : Folded) {want : Want} {json : Json} {r : Reading} → Gives_reading want json r → (t : Reading) → Gives_reading want json t → seen_reading φ r ≡ seen_reading φ t
  reading_one φ (G.as_child want json r family f ew er g) t h = at.child_once φ want json r t family f ew er (fields_one φ g) h
  reading_one φ (G.as_member want json r family f ew er g) t h = at.member_once_in φ want json r t family f ew er g (fields_one φ g) h
  reading_one φ (G.as_kept want json r family ew er foreign) t h = at.kept_once φ want json r t family ew er foreign h
  reading_one φ (G.as_missing want json r ew ej er) t h = at.missing_once φ want json r t ew ej er h
  reading_one φ (G.as_medium want json r ew some g) t h = at.medium_once φ want json r t ew some (reading_one φ g) h

  pub all_one : (φ : Folded) {want : Want} {list : List Json} {rs : List Reading} → Gives_all want list rs → (ts : List Reading) → Gives_all want list ts
      → map (seen_reading φ) rs ≡ map (seen_reading φ) ts
  all_one φ (G.no_more want list rs el er) ts h = at.no_more_once φ want list rs ts el er h
  all_one φ (G.one_more want list rs json others r behind el er g gs) ts h = at.one_more_once φ want list rs ts json others r behind el er (reading_one φ g) (all_one φ gs) h
