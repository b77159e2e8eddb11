-- The layout of an object of a schema, row by row.
use Rattle.std.proofs.Common.{◌≡◌, ◌<◌, ℕ, suc, ◌+◌, ◌||◌, Bool, true, false, not, List, [], ◌∷◌, ◌++◌, length, get_or, map, drop, drop-cons, add-one, codes, if◌then◌else◌, refl, sym, ap, subst, ◌∙◌, append_assoc}
use Rattle.std.specs.Str.{bytes_eq}
use Rattle.otio_model.specs.declared.effect_types.Plain.{Plain}
use Rattle.schema_rows.specs.Rows.{Row}
use Rattle.schema_rows.specs.Readings.{plain_schema}
use Rattle.schema_write.specs.Objects.{plain_json}
use Rattle.dev_io.specs.Buffer.{Standing, Puts}
use Rattle.dev_io.proofs.BufferLemmas.{puts_as}
use Rattle.json_value.specs.declared.Json.{Json, Str, Map}
use Rattle.json_text.specs.StringTexts.{quoted}
use Rattle.json_text.specs.Layout.{indent, newline, lines_of, member_text, text_at}
use Rattle.json_text.proofs.Lines.{text_at-Map, text_at-Str}
use Rattle.schema_rows.specs.declared.schemas.Schema.{Schema}
use Rattle.schema_rows.specs.Schemas.{schema_key, text_of, rows_of}
use Rattle.schema_rows.specs.Families.{is_row, others}
use Rattle.schema_write.specs.Written.{written, named_values}
use Rattle.schema_write.specs.Lines.{head_text, row_text, other_text, old_other_text, member_rows, end_text}

-- members behind another one, and then a text
abbrev pub rows_then : List (List ℕ × Json) → ℕ → List ℕ → List ℕ
rows_then [] n tail = tail
rows_then (member ∷ members) n tail = row_text member.0 member.1 n ++ rows_then members n tail

-- the parts of a row's line, joined otherwise
line_parts : (i q t r : List ℕ) → i ++ ((q ++ (58 ∷ 32 ∷ t)) ++ r)
    ≡ ((i ++ (q ++ (58 ∷ 32 ∷ []))) ++ t) ++ r
line_parts i q t r =
    ap (λ l. i ++ l) (append_assoc q (58 ∷ 32 ∷ t) r ∙ sym (append_assoc q (58 ∷ 32 ∷ []) (t ++ r)))
    ∙ sym (append_assoc i (q ++ (58 ∷ 32 ∷ [])) (t ++ r))
    ∙ sym (append_assoc (i ++ (q ++ (58 ∷ 32 ∷ []))) t r)

-- the line of a row, and a text behind it
row_line : (name : List ℕ) (value : Json) (n : ℕ) (r : List ℕ)
    → 44 ∷ (newline n ++ (member_text name (text_at value n) ++ r)) ≡ row_text name value n ++ r
row_line name value n r = ap (λ l. 44 ∷ 10 ∷ l)
    (line_parts (indent n) (quoted name) (text_at value n) r)

-- the lines of more members are their rows
rows_are : (members more : List (List ℕ × Json)) (n : ℕ)
    → lines_of 44 n (map (λ (member : List ℕ × Json). member_text member.0 (text_at member.1 n))
    (members ++ more)) ≡ rows_then members n (member_rows more n)
rows_are [] [] n = refl
rows_are [] (member ∷ more) n =
    ap (λ r. 44 ∷ (newline n ++ (member_text member.0 (text_at member.1 n) ++ r)))
    (rows_are [] more n)
    ∙ row_line member.0 member.1 n (member_rows more n)
rows_are (member ∷ members) more n =
    ap (λ r. 44 ∷ (newline n ++ (member_text member.0 (text_at member.1 n) ++ r)))
    (rows_are members more n)
    ∙ row_line member.0 member.1 n (rows_then members n (member_rows more n))

-- a text behind members
then_end : (members : List (List ℕ × Json)) (n : ℕ) (a b : List ℕ) → rows_then members n a ++ b
    ≡ rows_then members n (a ++ b)
then_end [] n a b = refl
then_end (member ∷ members) n a b =
    append_assoc (row_text member.0 member.1 n) (rows_then members n a) b
    ∙ ap (λ r. row_text member.0 member.1 n ++ r) (then_end members n a b)

-- the head of an object, and a text behind it
head_then : (n : ℕ) (p r e : List ℕ) → (123 ∷ (newline n ++ (p ++ r))) ++ e
    ≡ (123 ∷ (newline n ++ p)) ++ (r ++ e)
head_then n p r e =
    ap (λ l. 123 ∷ 10 ∷ l) (append_assoc (indent n) (p ++ r) e
    ∙ ap (λ l. indent n ++ l) (append_assoc p r e) ∙ sym (append_assoc (indent n) p (r ++ e)))

-- an object of a schema by its head, its rows, its other members and its end
object_parts : (n m : ℕ) (schema : Schema) (values : List Json) (rest : List (List ℕ × Json))
    → m ≡ n + 1
    → head_text schema m ++ rows_then (named_values (rows_of schema) values) m
    (member_rows (others (rows_of schema) rest) m ++ end_text n)
    ≡ text_at (written schema values rest) n
object_parts n m schema values rest e =
    let of = text_of schema in
    let named = named_values (rows_of schema) values in
    let more = others (rows_of schema) rest in
    let key = member_text schema_key (quoted of) in
    let lines = rows_are named more (n + 1) in
    let text = text_at-Map ((schema_key, Str of) ∷ (named ++ more)) n in
    let str = text_at-Str of (n + 1) in
    rw e (sym (text
    ∙ ap (λ t. (123 ∷ (newline (n + 1)
    ++ (member_text schema_key t
    ++ lines_of 44 (n + 1) (map
    (λ (member : List ℕ × Json). member_text member.0 (text_at member.1 (n + 1)))
    (named ++ more))))) ++ end_text n) str
    ∙ ap (λ r. (123 ∷ (newline (n + 1) ++ (key ++ r))) ++ end_text n) lines
    ∙ head_then (n + 1) key (rows_then named (n + 1) (member_rows more (n + 1))) (end_text n)
    ∙ ap (λ r. head_text schema (n + 1) ++ r)
    (then_end named (n + 1) (member_rows more (n + 1)) (end_text n))))

-- the same, handed over
pub object_put : {a b : Standing} (n m : ℕ) (schema : Schema) (values : List Json)
    (rest : List (List ℕ × Json)) → m ≡ n + 1
    → Puts a b (head_text schema m ++ rows_then (named_values (rows_of schema) values) m
    (member_rows (others (rows_of schema) rest) m ++ end_text n))
    → Puts a b (text_at (written schema values rest) n)
object_put n m schema values rest e p = puts_as _ p (object_parts n m schema values rest e)

-- an object without other members
pub bare_put : {a b : Standing} (n m : ℕ) (schema : Schema) (values : List Json) → m ≡ n + 1
    → Puts a b (head_text schema m ++ rows_then (named_values (rows_of schema) values) m
    (end_text n))
    → Puts a b (text_at (written schema values []) n)
bare_put n m schema values e p = puts_as _ p (object_parts n m schema values [] e)

-- the next of the members, where a table may have a row for it
by_test : (t : Bool) (member : List ℕ × Json) (more : List (List ℕ × Json)) (n : ℕ)
    → member_rows (if not t then member ∷ more else more) n
    ≡ (if t then [] else row_text member.0 member.1 n) ++ member_rows more n
by_test true member more n = refl
by_test false member more n = refl

pub others-next : (rows : List Row) (members : List (List ℕ × Json)) (i n : ℕ) (d : List ℕ × Json)
    → i < length members
    → member_rows (others rows (drop i members)) n
    ≡ other_text rows (get_or members i d) n
    ++ member_rows (others rows (drop (i + 1) members)) n
others-next rows members i n d h =
    let m = get_or members i d in
    rw (add-one, drop-cons members i d)
    (by_test (bytes_eq m.0 schema_key || is_row rows m.0) m (others rows (drop (suc i) members))
    n)

-- the same of an older schema, where the newer one's table may have a row for it
by_tests : (rows : List Row) (t : Bool) (member : List ℕ × Json) (more : List (List ℕ × Json))
    (n : ℕ) → member_rows (others rows (if not t then member ∷ more else more)) n
    ≡ (if t then [] else other_text rows member n) ++ member_rows (others rows more) n
by_tests rows true member more n = refl
by_tests rows false member more n =
    by_test (bytes_eq member.0 schema_key || is_row rows member.0) member (others rows more) n

pub old_others-next : (newer rows : List Row) (members : List (List ℕ × Json)) (i n : ℕ)
    (d : List ℕ × Json) → i < length members
    → member_rows (others rows (others newer (drop i members))) n
    ≡ old_other_text newer rows (get_or members i d) n
    ++ member_rows (others rows (others newer (drop (i + 1) members))) n
old_others-next newer rows members i n d h =
    let m = get_or members i d in
    rw (add-one, drop-cons members i d)
    (by_tests rows (bytes_eq m.0 schema_key || is_row newer m.0) m
    (others newer (drop (suc i) members)) n)

-- the rows of an effect without a meaning in frames
by_timed : (timed : Bool) (m : ℕ) (x y z : Json) (tail : List ℕ)
    → row_text (codes "metadata") x m
    ++ (row_text (codes "name") y m ++ (row_text (codes "effect_name") z m ++ tail))
    ≡ rows_then (named_values (rows_of (plain_schema timed)) (x ∷ y ∷ z ∷ [])) m tail
by_timed true m x y z tail = refl
by_timed false m x y z tail = refl

pub plain_put : {a b : Standing} (n m : ℕ) (schema : Schema) (p : Plain) → m ≡ n + 1 → schema
    ≡ plain_schema p.timed
    → Puts a b (head_text schema m ++ (row_text (codes "metadata") (Map p.metadata) m
    ++ (row_text (codes "name") (Str p.name) m
    ++ (row_text (codes "effect_name") (Str p.effect_name) m
    ++ (member_rows (others (rows_of schema) p.rest) m ++ end_text n)))))
    → Puts a b (text_at (plain_json p) n)
plain_put {a} {b} n m schema p e is q =
    let rows = λ (s : Schema). row_text (codes "metadata") (Map p.metadata) m
    ++ (row_text (codes "name") (Str p.name) m
    ++ (row_text (codes "effect_name") (Str p.effect_name) m
    ++ (member_rows (others (rows_of s) p.rest) m ++ end_text n))) in
    let q' = subst (λ (s : Schema). Puts a b (head_text s m ++ rows s)) is q in
    object_put n m (plain_schema p.timed) (Map p.metadata ∷ Str p.name ∷ Str p.effect_name ∷ [])
    p.rest e
    (puts_as _ q' (ap (λ r. head_text (plain_schema p.timed) m ++ r)
    (by_timed p.timed m (Map p.metadata) (Str p.name) (Str p.effect_name) _)))
