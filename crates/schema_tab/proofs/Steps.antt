-- Loops over rows and over lists: what is read so far, and what is left.
use Rattle.std.proofs.Common.{◌≡◌, ◌<◌, ◌≤◌, ◌+◌, ℕ, suc, List, [], ◌∷◌, ◌++◌, length, get_or, map, drop, drop-cons, add-one, refl, append_assoc, append-nil, arith}
use Rattle.json_value.specs.declared.Json.{Json}
use Rattle.schema_rows.specs.declared.faults.SchemaFault.{SchemaFault}
use Rattle.schema_rows.specs.declared.rows.Field.{Field}
use Rattle.schema_rows.specs.declared.values.Value.{Value}
use Rattle.schema_rows.specs.Rows.{Row, row_of}
use Rattle.schema_rows.specs.Readings.{Reading}
use Rattle.schema_rows.specs.Families.{Want, place_in}
use Rattle.schema_rows.specs.Stands.{Gives_row, Gives_rows, no_rows, more_rows, Gives_reading, Gives_all, no_more, one_more}
use Rattle.schema_rows.specs.Faults.{Refuses_row, Refuses_rows, first_row, later_row, Refuses_reading, Refuses_any, first_one, later_one}

-- the rows before those left have these values
pub record ReadsRows (place : List ℕ) (members : List (List ℕ × Json)) (all left : List Row) (values : List Value) : Type 0 where
  pub given : (more : List Value) → Gives_rows left members more → Gives_rows all members (values ++ more)
  pub fault : (fault : SchemaFault) → Refuses_rows place left members fault → Refuses_rows place all members fault

pub rows_begin : (place : List ℕ) (members : List (List ℕ × Json)) (all : List Row) → ReadsRows place members all all []
rows_begin place members all = record { given = λ more g. g; fault = λ f r. r }

pub rows_step : {place : List ℕ} {members : List (List ℕ × Json)} {all left : List Row} {values : List Value} {row : Row} {value : Value}
    → ReadsRows place members all (row ∷ left) values → Gives_row row members value → ReadsRows place members all left (values ++ value ∷ [])
rows_step {place} {members} {all} {left} {values} {row} {value} h g = record {
  given = λ more k. rw append_assoc (h.given (value ∷ more) (more_rows _ _ _ row left value more refl refl g k));
  fault = λ f r. h.fault f (later_row _ _ _ _ row left value refl g r);
}

pub rows_fault : {place : List ℕ} {members : List (List ℕ × Json)} {all left : List Row} {values : List Value} {row : Row} {fault : SchemaFault}
    → ReadsRows place members all (row ∷ left) values → Refuses_row place row members fault → Refuses_rows place all members fault
rows_fault {place} {members} {all} {left} {values} {row} {fault} h r = h.fault fault (first_row _ _ _ _ row left refl r)

pub rows_end : {place : List ℕ} {members : List (List ℕ × Json)} {all : List Row} {values : List Value} → ReadsRows place members all [] values → Gives_rows all members values
rows_end {place} {members} {all} {values} h = rw append-nil at (h.given [] (no_rows _ _ _ refl refl))

-- the values before those left, which begin at the index, are read so
pub record ReadsList (want : Want) (place : List ℕ) (all left : List Json) (index : ℕ) (readings : List Reading) : Type 0 where
  pub given : (more : List Reading) → Gives_all want left more → Gives_all want all (readings ++ more)
  pub fault : (fault : SchemaFault) → Refuses_any want place index left fault → Refuses_any want place 0 all fault

pub list_begin : (want : Want) (place : List ℕ) (all : List Json) → ReadsList want place all all 0 []
list_begin want place all = record { given = λ more g. g; fault = λ f r. r }

pub list_step : {want : Want} {place : List ℕ} {all left : List Json} {index : ℕ} {readings : List Reading} {json : Json} {reading : Reading}
    → ReadsList want place all (json ∷ left) index readings → Gives_reading want json reading → ReadsList want place all left (index + 1) (readings ++ reading ∷ [])
list_step {want} {place} {all} {left} {index} {readings} {json} {reading} h g = record {
  given = λ more k. rw append_assoc (h.given (reading ∷ more) (one_more _ _ _ json left reading more refl refl g k));
  fault = λ f r. h.fault f (later_one _ _ _ _ _ json left reading refl g r);
}

pub list_fault : {want : Want} {place : List ℕ} {all left : List Json} {index : ℕ} {readings : List Reading} {json : Json} {fault : SchemaFault}
    → ReadsList want place all (json ∷ left) index readings → Refuses_reading want (place_in want place index) json fault → Refuses_any want place 0 all fault
list_fault {want} {place} {all} {left} {index} {readings} {json} {fault} h r = h.fault fault (first_one _ _ _ _ _ json left refl r)

pub list_end : {want : Want} {place : List ℕ} {all : List Json} {index : ℕ} {readings : List Reading} → ReadsList want place all [] index readings → Gives_all want all readings
list_end {want} {place} {all} {index} {readings} h = rw append-nil at (h.given [] (no_more _ _ _ refl refl))

-- the rows from an index on
pub rows_from : (rows : List Field) (i : ℕ) (d : Field) → i < length rows → map row_of (drop i rows) ≡ row_of (get_or rows i d) ∷ map row_of (drop (i + 1) rows)
rows_from rows i d h = rw (add-one, drop-cons rows i d) refl

pub drop_all : {A : Type 0} (xs : List A) (i : ℕ) → length xs ≤ i → drop i xs ≡ []
drop_all [] ℕ.zero h = refl
drop_all [] (suc i) h = refl
drop_all (x ∷ xs) ℕ.zero h = absurd (omega arith)
drop_all (x ∷ xs) (suc i) h = drop_all xs i (omega arith)

pub list_from : (list : List Json) (i : ℕ) (d : Json) → i < length list → drop i list ≡ get_or list i d ∷ drop (i + 1) list
list_from list i d h = rw (add-one, drop-cons list i d) refl
