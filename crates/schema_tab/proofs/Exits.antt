-- The exits of the loops: one value more is read, a fault inside is that of the whole, and all is read.
use Rattle.std.proofs.Common.{◌≡◌, ◌<◌, ◌≤◌, ◌+◌, ℕ, zero, suc, List, [], ◌∷◌, ◌++◌, length, get_or, map, take, drop, add-one, refl, sym, ap, subst, ◌∙◌, arith}
use Rattle.json_value.specs.declared.Json.{Json}
use Rattle.json_value.specs.declared.Json.TheVariants as J
use Rattle.sequences.specs.Pairs.{names_of}
use Rattle.otio_model.specs.declared.compositions.Listed.{Listed}
use Rattle.otio_model.specs.declared.compositions.ItemOf.{ItemOf}
use Rattle.otio_model.specs.declared.objects.Object.{Object}
use Rattle.otio_model.specs.declared.effect_types.Effect.{Effect}
use Rattle.otio_model.specs.declared.markers.Marker.{Marker}
use Rattle.otio_model.specs.declared.media.Media.{Media}
use Rattle.schema_rows.specs.declared.faults.SchemaFault.{SchemaFault}
use Rattle.schema_rows.specs.declared.rows.Field.{Field}
use Rattle.schema_rows.specs.declared.schemas.TheConstants as C
use Rattle.schema_rows.specs.declared.values.Value.{Value}
use Rattle.schema_rows.specs.declared.values.Value.TheVariants as V
use Rattle.schema_rows.specs.Rows as R
use Rattle.schema_rows.specs.Rows.{Row, row_of}
use Rattle.schema_rows.specs.Numerals.{HasNumerals}
use Rattle.schema_rows.specs.Readings.{Reading, known, item_fields, object_fields, effect_reading, marker_reading, medium_reading}
use Rattle.schema_rows.specs.Families.{Want, child, member, medium, place_in}
use Rattle.schema_rows.specs.Stands.{Gives, items, objects, effects, markers, media, Gives_row, Gives_rows, Gives_reading, Gives_all}
use Rattle.schema_rows.specs.Faults.{Refuses_row, Refuses_rows, Refuses_reading, Refuses_any}
use Rattle.schema_tab.specs.Depths.{depth, list_depth, members_depth}
use Rattle.std.proofs.lemmas.List.{take_all}
use Rattle.schema_tab.proofs.Measures.{item_falls, item_numerals, pair_falls, pair_numerals}
use Rattle.schema_tab.proofs.Steps.{ReadsRows, rows_step, rows_fault, rows_end, rows_from, ReadsList, list_step, list_fault, list_end, list_from, drop_all}

-- a value of a list
pub item_inside : (list values : List Json) (i : ℕ) (x : Json) → values ≡ list → i < length values → x ≡ get_or values i x → HasNumerals (J.List list)
    → (depth x < list_depth list) × HasNumerals x
item_inside list values i x same lt at h =
    let inside : HasNumerals (get_or values i x) = item_numerals values i x lt (subst (λ (l : List Json). HasNumerals (J.List l)) (sym same) h) in
    (omega (arith, item_falls values i x lt, ap depth at, ap list_depth same), subst HasNumerals (sym at) inside)

-- a value of an object
pub pair_inside : (members pairs : List (List ℕ × Json)) (i : ℕ) (p : List ℕ × Json) → pairs ≡ members → i < length pairs → p ≡ get_or pairs i p → HasNumerals (J.Map members)
    → (depth p.1 < members_depth members) × HasNumerals p.1
pair_inside members pairs i p same lt at h =
    let inside : HasNumerals (get_or pairs i p).1 = pair_numerals pairs i p lt (subst (λ (l : List (List ℕ × Json)). HasNumerals (J.Map l)) (sym same) h) in
    (omega (arith, pair_falls pairs i p lt, ap (λ (q : List ℕ × Json). depth q.1) at, ap members_depth same), subst (λ (q : List ℕ × Json). HasNumerals q.1) (sym at) inside)

map_more : {A B : Type 0} (f : A → B) (xs : List A) (x : A) → map f (xs ++ x ∷ []) ≡ map f xs ++ f x ∷ []
map_more f [] x = refl
map_more f (y ∷ xs) x = ap (λ zs. f y ∷ zs) (map_more f xs x)

left_is : (values : List Json) (i : ℕ) (json : Json) → i < length values → json ≡ get_or values i json → drop i values ≡ json ∷ drop (i + 1) values
left_is values i json lt at = list_from values i json lt ∙ ap (λ (j : Json). j ∷ drop (i + 1) values) (sym at)

pub list_more : {A : Type 0} (f : A → Reading) (want : Want) (place : List ℕ) (values : List Json) (i : ℕ) (xs new : List A) (json : Json) (x : A)
    → ReadsList want place values (drop i values) i (map f xs) → i < length values → json ≡ get_or values i json → new ≡ xs ++ x ∷ [] → Gives_reading want json (f x)
    → ReadsList want place values (drop (i + 1) values) (i + 1) (map f new)
list_more f want place values i xs new json x h lt at grown g =
    let now : ReadsList want place values (json ∷ drop (i + 1) values) i (map f xs) = subst (λ (l : List Json). ReadsList want place values l i (map f xs)) (left_is values i json lt at) h in
    let next : ReadsList want place values (drop (i + 1) values) (i + 1) (map f xs ++ f x ∷ []) = list_step now g in
    subst (λ (rs : List Reading). ReadsList want place values (drop (i + 1) values) (i + 1) rs) (sym (ap (map f) grown ∙ map_more f xs x)) next

pub list_fails : (want : Want) (place : List ℕ) (list values : List Json) (i : ℕ) (readings : List Reading) (json : Json) (fault : SchemaFault)
    → values ≡ list → ReadsList want place values (drop i values) i readings → i < length values → json ≡ get_or values i json
    → Refuses_reading want (place_in want place i) json fault → Refuses_any want place 0 list fault
list_fails want place list values i readings json fault same h lt at r =
    let now : ReadsList want place values (json ∷ drop (i + 1) values) i readings = subst (λ (l : List Json). ReadsList want place values l i readings) (left_is values i json lt at) h in
    subst (λ (l : List Json). Refuses_any want place 0 l fault) same (list_fault now r)

list_all : (want : Want) (place : List ℕ) (list values : List Json) (i : ℕ) (readings : List Reading) → values ≡ list → length values ≤ i
    → ReadsList want place values (drop i values) i readings → Gives_all want list readings
list_all want place list values i readings same past h =
    let now : ReadsList want place values [] i readings = subst (λ (l : List Json). ReadsList want place values l i readings) (drop_all values i past) h in
    subst (λ (l : List Json). Gives_all want l readings) same (list_end now)

pub items_end : (place : List ℕ) (list values : List Json) (i : ℕ) (xs read : List (ItemOf Listed)) → values ≡ list → length values ≤ i → read ≡ xs
    → ReadsList (child C.ITEMS) place values (drop i values) i (map (λ x. known (item_fields x)) xs) → Gives R.items (J.List list) (V.Items read)
items_end place list values i xs read same past is h =
    subst (λ (rs : List (ItemOf Listed)). Gives R.items (J.List list) (V.Items rs)) (sym is) (items _ _ _ list xs refl refl (list_all (child C.ITEMS) place list values i _ same past h) refl)

pub objects_end : (place : List ℕ) (list values : List Json) (i : ℕ) (xs read : List Object) → values ≡ list → length values ≤ i → read ≡ xs
    → ReadsList (child C.ROOTS) place values (drop i values) i (map (λ x. known (object_fields x)) xs) → Gives R.objects (J.List list) (V.Objects read)
objects_end place list values i xs read same past is h =
    subst (λ (rs : List Object). Gives R.objects (J.List list) (V.Objects rs)) (sym is) (objects _ _ _ list xs refl refl (list_all (child C.ROOTS) place list values i _ same past h) refl)

pub effects_end : (place : List ℕ) (list values : List Json) (i : ℕ) (xs read : List Effect) → values ≡ list → length values ≤ i → read ≡ xs
    → ReadsList (member C.EFFECTS) place values (drop i values) i (map effect_reading xs) → Gives R.effects (J.List list) (V.Effects read)
effects_end place list values i xs read same past is h =
    subst (λ (rs : List Effect). Gives R.effects (J.List list) (V.Effects rs)) (sym is) (effects _ _ _ list xs refl refl (list_all (member C.EFFECTS) place list values i _ same past h) refl)

pub markers_end : (place : List ℕ) (list values : List Json) (i : ℕ) (xs read : List Marker) → values ≡ list → length values ≤ i → read ≡ xs
    → ReadsList (member C.MARKERS) place values (drop i values) i (map marker_reading xs) → Gives R.markers (J.List list) (V.Markers read)
markers_end place list values i xs read same past is h =
    subst (λ (rs : List Marker). Gives R.markers (J.List list) (V.Markers rs)) (sym is) (markers _ _ _ list xs refl refl (list_all (member C.MARKERS) place list values i _ same past h) refl)

-- the values of pairs
pub second_at : (pairs : List (List ℕ × Json)) (i : ℕ) (p : List ℕ × Json) → i < length pairs → p ≡ get_or pairs i p
    → (i < length (map (λ (m : List ℕ × Json). m.1) pairs)) × (p.1 ≡ get_or (map (λ (m : List ℕ × Json). m.1) pairs) i p.1)
second_at pairs i p lt at = let f = found pairs i lt in (f.0, ap (λ (q : List ℕ × Json). q.1) at ∙ f.1) where
  found : (pairs : List (List ℕ × Json)) (i : ℕ) → i < length pairs
      → (i < length (map (λ (m : List ℕ × Json). m.1) pairs)) × ((get_or pairs i p).1 ≡ get_or (map (λ (m : List ℕ × Json). m.1) pairs) i p.1)
  found [] i lt = absurd (omega arith)
  found (m ∷ pairs) zero lt = (omega arith, refl)
  found (m ∷ pairs) (suc i) lt = let below = found pairs i (omega arith) in (omega (arith, below.0), below.1)

pub length-second : (pairs : List (List ℕ × Json)) → length (map (λ (m : List ℕ × Json). m.1) pairs) ≡ length pairs
length-second [] = refl
length-second (m ∷ pairs) = ap suc (length-second pairs)

names_add : (xs : List (List ℕ × Media)) (x : List ℕ × Media) → names_of (xs ++ x ∷ []) ≡ names_of xs ++ x.0 ∷ []
names_add [] x = refl
names_add (y ∷ xs) x = ap (λ (ns : List (List ℕ)). y.0 ∷ ns) (names_add xs x)

names_take : (pairs : List (List ℕ × Json)) (i : ℕ) (p : List ℕ × Json) → i < length pairs → names_of (take (i + 1) pairs) ≡ names_of (take i pairs) ++ (get_or pairs i p).0 ∷ []
names_take [] i p lt = absurd (omega arith)
names_take (m ∷ pairs) zero p lt = refl
names_take (m ∷ pairs) (suc i) p lt =
    rw (add-one (suc i)) (ap (λ (ns : List (List ℕ)). m.0 ∷ ns) (rw (add-one i) at (names_take pairs i p (omega arith))))

pub names_more : (pairs : List (List ℕ × Json)) (i : ℕ) (p : List ℕ × Json) (xs new : List (List ℕ × Media)) (key : List ℕ) (x : Media) → names_of xs ≡ names_of (take i pairs)
    → i < length pairs → p ≡ get_or pairs i p → key ≡ p.0 → new ≡ xs ++ (key, x) ∷ [] → names_of new ≡ names_of (take (i + 1) pairs)
names_more pairs i p xs new key x before lt at is grown =
    let name : key ≡ (get_or pairs i p).0 = is ∙ ap (λ (q : List ℕ × Json). q.0) at in
    ap names_of grown ∙ names_add xs (key, x) ∙ ap (λ (ns : List (List ℕ)). ns ++ key ∷ []) before ∙ ap (λ (n : List ℕ). names_of (take i pairs) ++ n ∷ []) name ∙ sym (names_take pairs i p lt)

pub media_end : (place : List ℕ) (members pairs : List (List ℕ × Json)) (i : ℕ) (xs read : List (List ℕ × Media)) → pairs ≡ members → length pairs ≤ i → read ≡ xs
    → names_of xs ≡ names_of (take i pairs)
    → ReadsList medium place (map (λ (m : List ℕ × Json). m.1) pairs) (drop i (map (λ (m : List ℕ × Json). m.1) pairs)) i (map (λ (m : List ℕ × Media). medium_reading m.1) xs)
    → Gives R.media (J.Map members) (V.Media read)
media_end place members pairs i xs read same past is names h =
    let all : Gives_all medium (map (λ (m : List ℕ × Json). m.1) members) (map (λ (m : List ℕ × Media). medium_reading m.1) xs) =
    list_all medium place _ (map (λ (m : List ℕ × Json). m.1) pairs) i _ (ap (map (λ (m : List ℕ × Json). m.1)) same) (omega (arith, past, length-second pairs)) h in
    let named : names_of members ≡ names_of xs = sym (names ∙ ap names_of (take_all i pairs past ∙ same)) in
    subst (λ (rs : List (List ℕ × Media)). Gives R.media (J.Map members) (V.Media rs)) (sym is) (media _ _ _ members xs refl refl named all refl)

-- rows
pub row_more : (place : List ℕ) (members : List (List ℕ × Json)) (rows : List Field) (i : ℕ) (d : Field) (values new : List Value) (value : Value)
    → ReadsRows place members (map row_of rows) (map row_of (drop i rows)) values → i < length rows → new ≡ values ++ value ∷ [] → Gives_row (row_of (get_or rows i d)) members value
    → ReadsRows place members (map row_of rows) (map row_of (drop (i + 1) rows)) new
row_more place members rows i d values new value h lt grown g =
    let now : ReadsRows place members (map row_of rows) (row_of (get_or rows i d) ∷ map row_of (drop (i + 1) rows)) values =
    subst (λ (l : List Row). ReadsRows place members (map row_of rows) l values) (rows_from rows i d lt) h in
    subst (λ (vs : List Value). ReadsRows place members (map row_of rows) (map row_of (drop (i + 1) rows)) vs) (sym grown) (rows_step now g)

pub row_fails : (place : List ℕ) (members : List (List ℕ × Json)) (rows : List Field) (i : ℕ) (d : Field) (values : List Value) (fault : SchemaFault)
    → ReadsRows place members (map row_of rows) (map row_of (drop i rows)) values → i < length rows → Refuses_row place (row_of (get_or rows i d)) members fault
    → Refuses_rows place (map row_of rows) members fault
row_fails place members rows i d values fault h lt r =
    let now : ReadsRows place members (map row_of rows) (row_of (get_or rows i d) ∷ map row_of (drop (i + 1) rows)) values =
    subst (λ (l : List Row). ReadsRows place members (map row_of rows) l values) (rows_from rows i d lt) h in
    rows_fault now r

pub row_end : (place : List ℕ) (members : List (List ℕ × Json)) (rows : List Field) (i : ℕ) (values : List Value)
    → ReadsRows place members (map row_of rows) (map row_of (drop i rows)) values → length rows ≤ i → Gives_rows (map row_of rows) members values
row_end place members rows i values h past =
    let now : ReadsRows place members (map row_of rows) [] values =
    subst (λ (l : List Row). ReadsRows place members (map row_of rows) l values) (ap (map row_of) (drop_all rows i past)) h in
    rows_end now
