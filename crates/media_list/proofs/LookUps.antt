-- A look-up by a row's place is one among the rows.
use Rattle.std.proofs.Common.{◌≡◌, ◌≢◌, ◌+◌, ◌<◌, ◌||◌, All, IfSome, Bor, ℕ, zero, suc, Bool, true, false, cond, List, [], ◌∷◌, ◌++◌, map, length, take, drop, get_or, Option, Some, None, position, slice_get, String, string_bytes, refl, sym, ap, subst, ◌∙◌, length-append, arith}
use Rattle.std.proofs.lemmas.Grind.{common_steps}
use Rattle.std.specs.List.{list_any, position_from}
use Rattle.std.specs.Str.{bytes_eq}
use Rattle.std.specs.Cmp.Lexicographic.{bytes_decides}
use Rattle.std.specs.declared.alloc.Global.{Global}
use Rattle.std.proofs.lemmas.List.{drop_more, map-append, take-append-drop, take_more}
use Rattle.std.proofs.lemmas.List.Quantifiers.{all_pairs_push}
use Rattle.std.proofs.lemmas.Iterator.Adapters.{position_from-zero}
use Rattle.std.specs.Option.{option_copied}
use Rattle.std.proofs.lemmas.List.Elements.{All-head, All-tail}
use Rattle.media_rows.specs.Rows.{by_reel, by_url, AreOther, AreRows, IsRowInRange}
use Rattle.media_rows.specs.declared.row.MediaRow.{MediaRow}
use Rattle.media_list.specs.Lines.{IsNew}
use Rattle.media_list.specs.Tables.{PutsName}

-- the first row of a name
abbrev named : (MediaRow → List ℕ) → List ℕ → List MediaRow → Option MediaRow
named name key [] = None
named name key (row ∷ rows) = cond (bytes_eq key (name row)) (Some row) (named name key rows)

abbrev pub reel_of : MediaRow → List ℕ
reel_of row = row.reel

abbrev pub url_of : MediaRow → List ℕ
url_of row = row.url

reel_named : (key : List ℕ) (rows : List MediaRow) → by_reel key rows ≡ named reel_of key rows
reel_named key [] = refl
reel_named key (row ∷ rows) = ap (cond (bytes_eq key row.reel) (Some row)) (reel_named key rows)

url_named : (key : List ℕ) (rows : List MediaRow) → by_url key rows ≡ named url_of key rows
url_named key [] = refl
url_named key (row ∷ rows) = ap (cond (bytes_eq key row.url) (Some row)) (url_named key rows)

-- the place of a name among the names
abbrev pub is_name : List ℕ → String Global → Bool
is_name key k = bytes_eq key (string_bytes k)

-- what a place that was looked for from n on gives
abbrev Looked : (MediaRow → List ℕ) → List ℕ → List MediaRow → ℕ → Option ℕ → Type 0
Looked name key rows n None = named name key rows ≡ None
Looked name key rows n (Some i) = (j : ℕ) × (i ≡ n + j) × (slice_get rows j ≡ named name key rows)

looked_more : (name : MediaRow → List ℕ) (key : List ℕ) (row : MediaRow) (rows : List MediaRow)
    (n : ℕ) (o : Option ℕ)
    → bytes_eq key (name row) ≡ false → Looked name key rows (n + 1) o
    → Looked name key (row ∷ rows) n o
looked_more name key row rows n None e h = ap (λ t. cond t (Some row) (named name key rows)) e ∙ h
looked_more name key row rows n (Some i) e h =
    (suc h.0, omega (arith, h.1), h.2 ∙ sym (ap (λ t. cond t (Some row) (named name key rows)) e))

-- the names of the rows stand in order
abbrev pub AreNames : (MediaRow → List ℕ) → List (String Global) → List MediaRow → Type 0
AreNames name keys rows = map string_bytes keys ≡ map name rows

looked_by : (name : MediaRow → List ℕ) (key : List ℕ) (k : String Global)
    (keys : List (String Global)) (row : MediaRow) (rows : List MediaRow) (n : ℕ) (t : Bool)
    → is_name key k ≡ t → string_bytes k ≡ name row
    → Looked name key rows (n + 1) (position_from (is_name key) (n + 1) keys)
    → Looked name key (row ∷ rows) n (position_from (is_name key) n (k ∷ keys))
looked_by name key k keys row rows n true e same h =
    let at : bytes_eq key (name row) ≡ true = sym (ap (bytes_eq key) same) ∙ e in
    rw e (0, omega arith, sym (ap (λ t. cond t (Some row) (named name key rows)) at))
looked_by name key k keys row rows n false e same h =
    rw e (looked_more name key row rows n (position_from (is_name key) (n + 1) keys)
    (sym (ap (bytes_eq key) same) ∙ e) h)

looked : (name : MediaRow → List ℕ) (key : List ℕ) (keys : List (String Global))
    (rows : List MediaRow) (n : ℕ)
    → AreNames name keys rows → Looked name key rows n (position_from (is_name key) n keys)
looked name key [] [] n e = refl
looked name key [] (row ∷ rows) n e = absurd (omega (arith, ap length e))
looked name key (k ∷ keys) [] n e = absurd (omega (arith, ap length e))
looked name key (k ∷ keys) (row ∷ rows) n e =
    looked_by name key k keys row rows n (is_name key k) refl (ap (λ l. get_or l 0 []) e)
    (looked name key keys rows (n + 1) (ap (drop 1) e))

-- a look-up of a place gives the row
pub looks_up : (name : MediaRow → List ℕ) (key : List ℕ) (keys : List (String Global))
    (rows : List MediaRow) (i : ℕ)
    → AreNames name keys rows → Some i ≡ position (is_name key) keys
    → slice_get rows i ≡ named name key rows
looks_up name key keys rows i e found =
    let h : Looked name key rows 0 (Some i) = subst (Looked name key rows 0)
    (sym (found ∙ position_from-zero (is_name key) keys)) (looked name key keys rows 0 e) in
    let at : i ≡ h.0 = omega (arith, h.1) in
    ap (slice_get rows) at ∙ h.2

pub looks_for : (name : MediaRow → List ℕ) (key : List ℕ) (keys : List (String Global))
    (rows : List MediaRow)
    → AreNames name keys rows → None ≡ position (is_name key) keys → named name key rows ≡ None
looks_for name key keys rows e none =
    subst (Looked name key rows 0) (sym (none ∙ position_from-zero (is_name key) keys))
    (looked name key keys rows 0 e)

pub reel_found : (key : List ℕ) (keys : List (String Global)) (rows : List MediaRow) (i : ℕ)
    → AreNames reel_of keys rows → Some i ≡ position (is_name key) keys
    → slice_get rows i ≡ by_reel key rows
reel_found key keys rows i e found = looks_up reel_of key keys rows i e found
    ∙ sym (reel_named key rows)

pub reel_missing : (key : List ℕ) (keys : List (String Global)) (rows : List MediaRow)
    → AreNames reel_of keys rows → None ≡ position (is_name key) keys → by_reel key rows ≡ None
reel_missing key keys rows e none = reel_named key rows ∙ looks_for reel_of key keys rows e none

pub url_found : (key : List ℕ) (keys : List (String Global)) (rows : List MediaRow) (i : ℕ)
    → AreNames url_of keys rows → Some i ≡ position (is_name key) keys
    → slice_get rows i ≡ by_url key rows
url_found key keys rows i e found = looks_up url_of key keys rows i e found
    ∙ sym (url_named key rows)

pub url_missing : (key : List ℕ) (keys : List (String Global)) (rows : List MediaRow)
    → AreNames url_of keys rows → None ≡ position (is_name key) keys → by_url key rows ≡ None
url_missing key keys rows e none = url_named key rows ∙ looks_for url_of key keys rows e none

-- a name that no row has isn't among the names
absent_by : (name : MediaRow → List ℕ) (key : List ℕ) (k : String Global)
    (keys : List (String Global)) (row : MediaRow) (rows : List MediaRow) (t : Bool)
    → bytes_eq key (name row) ≡ t → string_bytes k ≡ name row
    → (named name key rows ≡ None → list_any (is_name key) keys ≡ false)
    → named name key (row ∷ rows) ≡ None → list_any (is_name key) (k ∷ keys) ≡ false
absent_by name key k keys row rows true e same rest none =
    let there : Some row ≡ None = sym (ap (λ t. cond t (Some row) (named name key rows)) e)
    ∙ none in cc
absent_by name key k keys row rows false e same rest none =
    let at : is_name key k ≡ false = ap (bytes_eq key) same ∙ e in
    let none_behind : named name key rows ≡ None = sym
    (ap (λ t. cond t (Some row) (named name key rows)) e) ∙ none in
    ap (λ t. t || list_any (is_name key) keys) at ∙ rest none_behind

absent : (name : MediaRow → List ℕ) (key : List ℕ) (keys : List (String Global))
    (rows : List MediaRow)
    → AreNames name keys rows → named name key rows ≡ None → list_any (is_name key) keys ≡ false
absent name key [] rows e none = refl
absent name key (k ∷ keys) [] e none = absurd (omega (arith, ap length e))
absent name key (k ∷ keys) (row ∷ rows) e none =
    absent_by name key k keys row rows (bytes_eq key (name row)) refl (ap (λ l. get_or l 0 []) e)
    (absent name key keys rows (ap (drop 1) e)) none

-- a new name goes last
pub names_more : (name : MediaRow → List ℕ) (k : String Global) (keys new : List (String Global))
    (rows : List MediaRow) (row : MediaRow)
    → AreNames name keys rows → named name (name row) rows ≡ None → string_bytes k ≡ name row
    → new ≡ cond (list_any (is_name (string_bytes k)) keys) keys (keys ++ k ∷ [])
    → AreNames name new (rows ++ row ∷ [])
names_more name k keys new rows row e none same is =
    let gone : list_any (is_name (string_bytes k)) keys ≡ false = ap
    (λ b. list_any (is_name b) keys) same ∙ absent name (name row) keys rows e none in
    ap (map string_bytes) (is ∙ ap (λ t. cond t keys (keys ++ k ∷ [])) gone)
    ∙ map-append string_bytes keys (k ∷ [])
    ∙ ap (λ l. l ++ string_bytes k ∷ []) e
    ∙ ap (λ b. map name rows ++ b ∷ []) same
    ∙ sym (map-append name rows (row ∷ []))

pub reels_more : (k : String Global) (keys new : List (String Global)) (rows : List MediaRow)
    (row : MediaRow)
    → AreNames reel_of keys rows → by_reel row.reel rows ≡ None → string_bytes k ≡ row.reel
    → new ≡ cond (list_any (is_name (string_bytes k)) keys) keys (keys ++ k ∷ [])
    → AreNames reel_of new (rows ++ row ∷ [])
reels_more k keys new rows row e none same is =
    names_more reel_of k keys new rows row e (sym (reel_named row.reel rows) ∙ none) same is

pub urls_more : (k : String Global) (keys new : List (String Global)) (rows : List MediaRow)
    (row : MediaRow)
    → AreNames url_of keys rows → by_url row.url rows ≡ None → string_bytes k ≡ row.url
    → new ≡ cond (list_any (is_name (string_bytes k)) keys) keys (keys ++ k ∷ [])
    → AreNames url_of new (rows ++ row ∷ [])
urls_more k keys new rows row e none same is =
    names_more url_of k keys new rows row e (sym (url_named row.url rows) ∙ none) same is

-- a row at a place is one of all
pub at_all : (rows : List MediaRow) (i : ℕ) (row : MediaRow) → All IsRowInRange rows
    → Some row ≡ slice_get rows i → IsRowInRange row
at_all [] i row all e = absurd (let h : Some row ≡ None = e in cc)
at_all (r ∷ rows) zero row all e =
    let h : Some row ≡ Some r = e in
    let same : row ≡ r = cc in
    subst IsRowInRange (sym same) (All-head IsRowInRange r rows all)
at_all (r ∷ rows) (suc i) row all e = at_all rows i row (All-tail IsRowInRange r rows all) e

pub found_in_range : (found : Option (Bor MediaRow)) (rows : List MediaRow) (i : ℕ)
    → option_copied found ≡ slice_get rows i → All IsRowInRange rows
    → IfSome found (λ row. IsRowInRange row.now)
found_in_range None rows i e all = tt
found_in_range (Some row) rows i e all = at_all rows i row.now all e

-- a row of another name than the key
other_at : (name : MediaRow → List ℕ) (key : List ℕ) (rows : List MediaRow)
    → named name key rows ≡ None
    → (k : ℕ) (d : MediaRow) → k < length rows → name (get_or rows k d) ≢ key
other_at name key [] none k d within same = absurd (omega arith)
other_at name key (row ∷ rows) none zero d within same =
    let here : bytes_eq key (name row) ≡ true = (bytes_decides key (name row)).1 (sym same) in
    let there : Some row ≡ None = sym (ap (λ t. cond t (Some row) (named name key rows)) here)
    ∙ none in cc
other_at name key (row ∷ rows) none (suc k) d within same =
    other_at name key rows (none_behind (bytes_eq key (name row)) none) k d (omega arith) same
  where
    none_behind : (t : Bool) → cond t (Some row) (named name key rows) ≡ None
        → named name key rows ≡ None
    none_behind true h = cc
    none_behind false h = h

-- a new row leaves reels and URLs distinct
pub apart_more : (rows : List MediaRow) (row : MediaRow) → AreRows rows → IsNew rows row
    → AreRows (rows ++ row ∷ [])
apart_more rows row apart new =
    all_pairs_push AreOther rows row apart (λ k d within. (
      other_at reel_of row.reel rows (sym (reel_named row.reel rows) ∙ new.0) k d within,
      other_at url_of row.url rows (sym (url_named row.url rows) ∙ new.1) k d within,
    ))

named_none_by : (name : MediaRow → List ℕ) (key : List ℕ) (row : MediaRow) (rows : List MediaRow)
    (t : Bool) → bytes_eq key (name row) ≡ t
    → name row ≢ key → named name key rows ≡ None → named name key (row ∷ rows) ≡ None
named_none_by name key row rows true e other h = absurd
    (other (sym ((bytes_decides key (name row)).0 e)))
named_none_by name key row rows false e other h = ap
    (λ t. cond t (Some row) (named name key rows)) e ∙ h

named_none : (name : MediaRow → List ℕ) (key : List ℕ) (rows : List MediaRow)
    → ((k : ℕ) (d : MediaRow) → k < length rows → name (get_or rows k d) ≢ key)
    → named name key rows ≡ None
named_none name key [] other = refl
named_none name key (row ∷ rows) other =
    named_none_by name key row rows (bytes_eq key (name row)) refl (other 0 row (omega arith))
    (named_none name key rows (λ k d within. other (suc k) d (omega arith)))

earlier_other : (rows : List MediaRow) (row : MediaRow) (others : List MediaRow)
    → AreRows (rows ++ row ∷ others)
    → (k : ℕ) (d : MediaRow) → k < length rows → AreOther (get_or rows k d) row
earlier_other rows row others apart k d within =
    let low : get_or (rows ++ row ∷ others) k d ≡ get_or rows k d = grind (arith, common_steps) in
    let high : get_or (rows ++ row ∷ others) (length rows) d ≡ row = grind (arith, common_steps) in
    let inside : length rows < length (rows ++ row ∷ others) = omega
    (arith, length-append rows (row ∷ others)) in
    subst (λ r. AreOther r row) low (subst (AreOther (get_or (rows ++ row ∷ others) k d)) high
    (apart k (length rows) d within inside))

-- and a row among distinct ones has neither reel nor URL of an earlier one
pub earlier_new : (rows : List MediaRow) (row : MediaRow) (others : List MediaRow)
    → AreRows (rows ++ row ∷ others) → IsNew rows row
earlier_new rows row others apart = (
  reel_named row.reel rows ∙ named_none reel_of row.reel rows
      (λ k d within. (earlier_other rows row others apart k d within).0),
  url_named row.url rows ∙ named_none url_of row.url rows
      (λ k d within. (earlier_other rows row others apart k d within).1),
)

-- rows up to one, that one, and those behind it
parts_at : (rows : List MediaRow) (i : ℕ) (d : MediaRow) → i < length rows
    → take i rows ++ get_or rows i d ∷ drop (i + 1) rows ≡ rows
parts_at rows i d within =
    ap (λ l. take i rows ++ l) (sym (drop_more rows i d within)) ∙ take-append-drop i rows

new_at : (rows : List MediaRow) (i : ℕ) (d : MediaRow) → i < length rows → AreRows rows
    → IsNew (take i rows) (get_or rows i d)
new_at rows i d within apart =
    earlier_new (take i rows) (get_or rows i d) (drop (i + 1) rows)
    (subst AreRows (sym (parts_at rows i d within)) apart)

-- the reels of distinct rows, with that of the next row put behind them
pub reels_put : (rows : List MediaRow) (i : ℕ) (row : MediaRow) (keys new : List (String Global))
    → i < length rows → get_or rows i row ≡ row → AreRows rows
    → PutsName row.reel keys new → AreNames reel_of keys (take i rows)
    → AreNames reel_of new (take (i + 1) rows)
reels_put rows i row keys new within at apart put names =
    subst (AreNames reel_of new) (sym (take_more rows i row within
    ∙ ap (λ r. take i rows ++ r ∷ []) at))
    (reels_more put.key keys new (take i rows) row names
    (subst (IsNew (take i rows)) at (new_at rows i row within apart)).0 put.is put.put)

-- the same of URLs
pub urls_put : (rows : List MediaRow) (i : ℕ) (row : MediaRow) (keys new : List (String Global))
    → i < length rows → get_or rows i row ≡ row → AreRows rows
    → PutsName row.url keys new → AreNames url_of keys (take i rows)
    → AreNames url_of new (take (i + 1) rows)
urls_put rows i row keys new within at apart put names =
    subst (AreNames url_of new) (sym (take_more rows i row within
    ∙ ap (λ r. take i rows ++ r ∷ []) at))
    (urls_more put.key keys new (take i rows) row names
    (subst (IsNew (take i rows)) at (new_at rows i row within apart)).1 put.is put.put)
