-- What was read by a table has the kinds of its rows.
use Rattle.std.proofs.Common.{◌≡◌, ℕ, ℤ, pos, Bool, true, false, cond, List, [], ◌∷◌, ◌++◌, map, Some, None, refl, sym, ap, ap₂, subst, ◌∙◌, inl, inr, if◌then◌else◌}
use Rattle.std.specs.Str.{bytes_eq}
use Rattle.json_value.specs.declared.Json.{Json}
use Rattle.tick_time.specs.Times.{is_speed}
use Rattle.tick_time.specs.declared.times.Time.{Time}
use Rattle.otio_model.specs.declared.media.Media.TheVariants as M
use Rattle.schema_rows.specs.declared.schemas.Schema.{Schema}
use Rattle.schema_rows.specs.declared.schemas.Schema.TheVariants as S
use Rattle.schema_rows.specs.declared.schemas.TheConstants as C
use Rattle.schema_rows.specs.declared.values.Fields.{Fields}
use Rattle.schema_rows.specs.declared.values.Value.{Value}
use Rattle.schema_rows.specs.declared.values.Value.TheVariants as V
use Rattle.schema_rows.specs.Rows as R
use Rattle.schema_rows.specs.Rows.{Row, RowKind, stack_rows, time_range_rows, rational_time_rows}
use Rattle.schema_rows.specs.Schemas.{named, name_of, rows_of}
use Rattle.schema_rows.specs.Defaults.{default_of, empty_tracks, empty_missing}
use Rattle.schema_rows.specs.Families.{stilled, is_freeze}
use Rattle.schema_rows.specs.Stands.{Gives, text, flag, meta, span, time, number, rate, numeral, items, objects, effects, markers, media, one_medium, stack, Gives_row, present, absent, Gives_rows, no_rows, more_rows, Gives_fields, fields}
use Rattle.schema_tab.specs.Shapes.{IsOf, HaveKinds, IsAmong, AreOfRange, AreOfTime}

gives_kind : {kind : RowKind} {json : Json} {value : Value} → Gives kind json value → IsOf kind value
gives_kind (text _ _ v d t k j e) = subst (λ (x : RowKind). IsOf x v) (sym k) (t, e)
gives_kind (flag _ _ v b k j e) = subst (λ (x : RowKind). IsOf x v) (sym k) (b, e)
gives_kind (meta _ _ v ms k j e) = subst (λ (x : RowKind). IsOf x v) (sym k) (ms, e)
gives_kind (span _ _ v f s k g i e) = subst (λ (x : RowKind). IsOf x v) (sym k) (Some s, e)
gives_kind (time _ _ v f r d t k g i w e) = subst (λ (x : RowKind). IsOf x v) (sym k) (Some t, e)
gives_kind (number _ _ v d n m s k j p q i e) = subst (λ (x : RowKind). IsOf x v) (sym k) (s, e)
gives_kind (rate _ _ v n d r k j p q e) = subst (λ (x : RowKind). IsOf x v) (sym k) (r, e)
gives_kind (numeral _ _ v n d k j p e) = subst (λ (x : RowKind). IsOf x v) (sym k) (d, e)
gives_kind (items _ _ v l xs k j g e) = subst (λ (x : RowKind). IsOf x v) (sym k) (xs, e)
gives_kind (objects _ _ v l xs k j g e) = subst (λ (x : RowKind). IsOf x v) (sym k) (xs, e)
gives_kind (effects _ _ v l xs k j g e) = subst (λ (x : RowKind). IsOf x v) (sym k) (xs, e)
gives_kind (markers _ _ v l xs k j g e) = subst (λ (x : RowKind). IsOf x v) (sym k) (xs, e)
gives_kind (media _ _ v ms xs k j n g e) = subst (λ (x : RowKind). IsOf x v) (sym k) (xs, e)
gives_kind (one_medium _ _ v m k g e) = subst (λ (x : RowKind). IsOf x v) (sym k) (m, e)
gives_kind (stack _ _ v s k g e) = subst (λ (x : RowKind). IsOf x v) (sym k) (s, e)

default_kind : (kind : RowKind) (value : Value) → default_of kind ≡ Some value → IsOf kind value
default_kind (R.text d) value e = (d, cc)
default_kind R.flag value e = (true, cc)
default_kind R.meta value e = ([], cc)
default_kind R.span value e = (None, cc)
default_kind R.time value e = (None, cc)
default_kind (R.number n) value e = by (is_speed n) e where
  by : (t : Bool) → cond t (Some (V.Number n)) None ≡ Some value → (held : ℤ) × (value ≡ V.Number held)
  by true h = (n, cc)
  by false h = absurd (cc)
default_kind R.items value e = ([], cc)
default_kind R.effects value e = ([], cc)
default_kind R.markers value e = ([], cc)
default_kind R.media value e = ([], cc)
default_kind R.medium value e = (M.Missing empty_missing, cc)
default_kind R.stack value e = (empty_tracks, cc)
default_kind R.objects value e = ([], cc)
default_kind R.rate value e = absurd (cc)
default_kind R.numeral value e = absurd (cc)

row_kind : {row : Row} {members : List (List ℕ × Json)} {value : Value} → Gives_row row members value → IsOf row.kind value
row_kind (present _ _ _ json g h) = gives_kind h
row_kind (absent row _ value g h) = by row.need h where
  by : (t : Bool) → cond t None (default_of row.kind) ≡ Some value → IsOf row.kind value
  by true e = absurd (cc)
  by false e = default_kind row.kind value e

-- the values of rows have their kinds
rows_kinds : {rows : List Row} {members : List (List ℕ × Json)} {values : List Value} → Gives_rows rows members values → HaveKinds rows values
rows_kinds (no_rows _ _ values r v) = subst (λ (x : List Row). HaveKinds x values) (sym r) v
rows_kinds (more_rows _ _ values row below value behind r v g h) = subst (λ (x : List Row). HaveKinds x values) (sym r) (value, behind, v, row_kind g, rows_kinds h)

still_kind : (schema : Schema) (kind : RowKind) (value : Value) → IsOf kind value → IsOf kind (stilled schema value)
still_kind s (R.text d) v h = (h.0, ap (stilled s) h.1)
still_kind s R.flag v h = (h.0, ap (stilled s) h.1)
still_kind s R.meta v h = (h.0, ap (stilled s) h.1)
still_kind s R.span v h = (h.0, ap (stilled s) h.1)
still_kind s R.time v h = (h.0, ap (stilled s) h.1)
still_kind s (R.number n) v h = (cond (is_freeze s) (pos 0) h.0, ap (stilled s) h.1)
still_kind s R.items v h = (h.0, ap (stilled s) h.1)
still_kind s R.effects v h = (h.0, ap (stilled s) h.1)
still_kind s R.markers v h = (h.0, ap (stilled s) h.1)
still_kind s R.media v h = (h.0, ap (stilled s) h.1)
still_kind s R.medium v h = (h.0, ap (stilled s) h.1)
still_kind s R.stack v h = (h.0, ap (stilled s) h.1)
still_kind s R.objects v h = (h.0, ap (stilled s) h.1)
still_kind s R.rate v h = (h.0, ap (stilled s) h.1)
still_kind s R.numeral v h = (h.0, ap (stilled s) h.1)

stilled_kinds : (schema : Schema) (rows : List Row) (values : List Value) → HaveKinds rows values → HaveKinds rows (map (stilled schema) values)
stilled_kinds s [] values h = ap (map (stilled s)) h
stilled_kinds s (row ∷ rows) values h =
    (stilled s h.0, map (stilled s) h.1, ap (map (stilled s)) h.2, still_kind s row.kind h.0 h.3, stilled_kinds s rows h.1 h.4)

named_among : (name : List ℕ) (family : List Schema) (schema : Schema) → named name family ≡ Some schema → IsAmong family schema
named_among name [] schema e = absurd (cc)
named_among name (first ∷ family) schema e = by (bytes_eq name (name_of first)) e (λ h. named_among name family schema h) where
  by : (t : Bool) → (if t then Some first else named name family) ≡ Some schema → (named name family ≡ Some schema → IsAmong family schema) → IsAmong (first ∷ family) schema
  by true h below = inl (cc)
  by false h below = inr (below h)

-- the schema of what was read as an object of a family is one of the family
pub fields_among : {family : List Schema} {json : Json} {read : Fields} → Gives_fields family json read → IsAmong family read.schema
fields_among (fields family _ read members name version values o n le g b v r) = named_among name family read.schema n

-- its values have the kinds of the schema's rows
pub fields_kinds : {family : List Schema} {json : Json} {read : Fields} → Gives_fields family json read → HaveKinds (rows_of read.schema) read.values
fields_kinds (fields family _ read members name version values o n le g b v r) =
    subst (λ (x : List Value). HaveKinds (rows_of read.schema) x) (sym v) (stilled_kinds read.schema (rows_of read.schema) values (rows_kinds g))

-- the schema is none of the family
abbrev pub IsNone : List Schema → Schema → Type 0
IsNone [] schema = Unit {0}
IsNone (first ∷ family) schema = (schema ≡ first → ⊥) × IsNone family schema

-- a schema of a family that is none of the others is the last
pub last_is : (others : List Schema) (last schema : Schema) → IsAmong (others ++ last ∷ []) schema → IsNone others schema → schema ≡ last
last_is [] last schema (inl e) h = e
last_is [] last schema (inr none) h = absurd none
last_is (first ∷ others) last schema (inl e) h = absurd (h.0 e)
last_is (first ∷ others) last schema (inr below) h = last_is others last schema below h.1

-- of a stack the schema is known
pub stack_schema : {json : Json} {read : Fields} → Gives_fields C.STACKS json read → read.schema ≡ S.Stack
stack_schema {json} {read} g = last_is [] S.Stack read.schema (fields_among g) tt

pub stack_kinds : {json : Json} {read : Fields} → Gives_fields C.STACKS json read → HaveKinds stack_rows read.values
stack_kinds {json} {read} g = subst (λ (s : Schema). HaveKinds (rows_of s) read.values) (stack_schema g) (fields_kinds g)

-- the value of a row of times whose member is needed
gives_time : {kind : RowKind} {json : Json} {value : Value} → Gives kind json value → kind ≡ R.time → (t : Time) × (value ≡ V.Time (Some t))
gives_time (text _ _ v d t k j e) is = absurd (cc)
gives_time (flag _ _ v b k j e) is = absurd (cc)
gives_time (meta _ _ v ms k j e) is = absurd (cc)
gives_time (span _ _ v f s k g i e) is = absurd (cc)
gives_time (time _ _ v f r d t k g i w e) is = (t, e)
gives_time (number _ _ v d n m s k j p q i e) is = absurd (cc)
gives_time (rate _ _ v n d r k j p q e) is = absurd (cc)
gives_time (numeral _ _ v n d k j p e) is = absurd (cc)
gives_time (items _ _ v l xs k j g e) is = absurd (cc)
gives_time (objects _ _ v l xs k j g e) is = absurd (cc)
gives_time (effects _ _ v l xs k j g e) is = absurd (cc)
gives_time (markers _ _ v l xs k j g e) is = absurd (cc)
gives_time (media _ _ v ms xs k j n g e) is = absurd (cc)
gives_time (one_medium _ _ v m k g e) is = absurd (cc)
gives_time (stack _ _ v s k g e) is = absurd (cc)

row_time : {row : Row} {members : List (List ℕ × Json)} {value : Value} → Gives_row row members value → row.need ≡ true → row.kind ≡ R.time → (t : Time) × (value ≡ V.Time (Some t))
row_time (present _ _ _ json g h) need is = gives_time h is
row_time (absent row _ value g h) need is = absurd (cc (rw need at h))

-- the first row and its value
first_given : {rows : List Row} {members : List (List ℕ × Json)} {values : List Value} → Gives_rows rows members values → (row : Row) (more : List Row) → rows ≡ row ∷ more
    → (value : Value) × (behind : List Value) × (values ≡ value ∷ behind) × Gives_row row members value × Gives_rows more members behind
first_given (no_rows _ _ values r v) row more e = absurd (cc)
first_given (more_rows _ members values first below value behind r v g h) row more e =
    let here : first ≡ row = cc in
    let rest : below ≡ more = cc in
    (value, behind, v, subst (λ (x : Row). Gives_row x members value) here g, subst (λ (l : List Row). Gives_rows l members behind) rest h)

none_given : {rows : List Row} {members : List (List ℕ × Json)} {values : List Value} → Gives_rows rows members values → rows ≡ [] → values ≡ []
none_given (no_rows _ _ values r v) e = v
none_given (more_rows _ members values first below value behind r v g h) e = absurd (cc)

two_times : {members : List (List ℕ × Json)} {values : List Value} → Gives_rows time_range_rows members values → AreOfRange values
two_times {members} {values} g =
    let first = first_given g _ _ refl in
    let next = first_given first.4 _ _ refl in
    let len = row_time first.3 refl refl in
    let start = row_time next.3 refl refl in
    (len.0, start.0, first.2 ∙ ap₂ (λ (a : Value) (b : List Value). a ∷ b) len.1 (next.2 ∙ ap₂ (λ (a : Value) (b : List Value). a ∷ b) start.1 (none_given next.4 refl)))

-- a range of time has a length and a start
pub range_values : {json : Json} {read : Fields} → Gives_fields C.RANGES json read → AreOfRange read.values
range_values {json} {read} g = by (last_is [] S.TimeRange read.schema (fields_among g) tt) g where
  by : read.schema ≡ S.TimeRange → Gives_fields C.RANGES json read → AreOfRange read.values
  by is (fields family _ read members name version values o n le g b v r) =
      let times = two_times (subst (λ (s : Schema). Gives_rows (rows_of s) members values) is g) in
      (times.0, times.1, v ∙ ap (map (stilled read.schema)) times.2)

-- a time has a rate and a number
pub time_values : {json : Json} {read : Fields} → Gives_fields C.TIMES json read → AreOfTime read.values
time_values {json} {read} g =
    let is = last_is [] S.RationalTime read.schema (fields_among g) tt in
    let kinds : HaveKinds rational_time_rows read.values = subst (λ (s : Schema). HaveKinds (rows_of s) read.values) is (fields_kinds g) in
    let next = kinds.4 in
    (kinds.3.0, next.3.0, kinds.2 ∙ ap₂ (λ (a : Value) (b : List Value). a ∷ b) kinds.3.1 (next.2 ∙ ap₂ (λ (a : Value) (b : List Value). a ∷ b) next.3.1 next.4))

-- the schemas that are left at the end of a match
pub last_item : (schema : Schema) → IsAmong C.ITEMS schema → (schema ≡ S.Clip → ⊥) → (schema ≡ S.Gap → ⊥) → (schema ≡ S.Transition → ⊥) → (schema ≡ S.Stack → ⊥) → schema ≡ S.Track
last_item s h a b c d = last_is (S.Clip ∷ S.Gap ∷ S.Transition ∷ S.Stack ∷ []) S.Track s h (a, (b, (c, (d, tt))))

pub last_effect : (schema : Schema) → IsAmong C.EFFECTS schema → (schema ≡ S.Warp → ⊥) → (schema ≡ S.Freeze → ⊥) → (schema ≡ S.TimeEffect → ⊥) → schema ≡ S.Effect
last_effect s h a b c = last_is (S.Warp ∷ S.Freeze ∷ S.TimeEffect ∷ []) S.Effect s h (a, (b, (c, tt)))

pub last_medium : (schema : Schema) → IsAmong C.MEDIA schema → (schema ≡ S.External → ⊥) → (schema ≡ S.Missing → ⊥) → (schema ≡ S.Generator → ⊥) → schema ≡ S.Images
last_medium s h a b c = last_is (S.External ∷ S.Missing ∷ S.Generator ∷ []) S.Images s h (a, (b, (c, tt)))

pub only_marker : (schema : Schema) → IsAmong C.MARKERS schema → schema ≡ S.Marker
only_marker s h = last_is [] S.Marker s h tt

-- values have the kinds of the rows of the one schema that it can be
pub kinds_of : (schema known : Schema) (values : List Value) → schema ≡ known → HaveKinds (rows_of schema) values → HaveKinds (rows_of known) values
kinds_of schema known values is h = subst (λ (s : Schema). HaveKinds (rows_of s) values) is h
