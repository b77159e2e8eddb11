-- The fields of a line, one after another.
use Rattle.std.proofs.Common.{◌≡◌, ◌↔◌, ◌+◌, ◌-◌, ◌<◌, ◌≤◌, ◌==◌, ℕ, zero, suc, Bool, true, false, cond, IsTrue, List, [], ◌∷◌, ◌++◌, Option, Some, None, take, drop, length, get_or, refl, sym, ap, subst, ◌∙◌, length-append, length-drop, arith}
use Rattle.std.proofs.lemmas.Bool.{false≢true}
use Rattle.std.proofs.lemmas.Grind.{common_steps}
use Rattle.std.proofs.lemmas.Slice.Eq.{bytes_eq-Decides}
use Rattle.std.specs.List.{position_from}
use Rattle.std.specs.Str.{bytes_eq}
use Rattle.std.proofs.lemmas.Iterator.Adapters.{position_from-zero}
use Rattle.text_lines.specs.First.{HasNone, IsFirst}
use Rattle.media_list.specs.Lines.{tab_fields}
use Rattle.media_list.proofs.TabLemmas.{fields_first, fields_last}
use Rattle.ale_text.specs.Words.{spaceless, spaceless_front}
use Rattle.ale_text.specs.Lines.{IsEntry, column_of}

-- the first field stands before the first tab, or is the whole line
pub first_before : (line : List ℕ) (i : ℕ) → IsFirst 9 line i
    → take i line ≡ get_or (tab_fields line) 0 []
first_before line i f = sym (ap (λ l. get_or l 0 []) (fields_first line i f))

pub first_alone : (line : List ℕ) → HasNone 9 line → line ≡ get_or (tab_fields line) 0 []
first_alone line none = sym (ap (λ l. get_or l 0 []) (fields_last line none))

-- behind the first tab the fields are those behind the first
pub next_at : (line rest : List ℕ) (i k : ℕ) → IsFirst 9 line i → 0 < k → rest ≡ drop (i + 1) line
    → get_or (tab_fields rest) (k - 1) [] ≡ get_or (tab_fields line) k []
next_at line rest i zero f some e = absurd (omega arith)
next_at line rest i (suc k) f some e =
    let one : suc k - 1 ≡ k = omega arith in
    ap (λ j. get_or (tab_fields rest) j []) one
    ∙ ap (λ l. get_or (tab_fields l) k []) e ∙ sym (ap (λ l. get_or l (suc k) []) (fields_first line i f))

-- a line without a tab has no field behind its first
pub none_at : (line : List ℕ) (k : ℕ) → HasNone 9 line → 0 < k
    → get_or (tab_fields line) k [] ≡ []
none_at line zero none some = absurd (omega arith)
none_at line (suc k) none some = ap (λ l. get_or l (suc k) []) (fields_last line none)

-- of an empty field nothing is left
pub empty_field : (rest whole : List ℕ) (field : List ℕ) → rest ≡ drop (length whole) whole
    → field ≡ [] → rest ≡ spaceless field
unfolding spaceless_front
empty_field rest whole field e none =
    let gone : drop (length whole) whole ≡ [] = grind (arith, common_steps) in
    e ∙ gone ∙ sym (ap spaceless none)

-- a line without a tab is no entry
pub no_entry : (line name value : List ℕ) → HasNone 9 line → IsEntry line name value → ⊥
no_entry line name value none e =
    let within : length name < length line =
    omega (arith, ap length e.split, length-append name (9 ∷ e.rest)) in
    let tab : get_or (name ++ 9 ∷ e.rest) (length name) 0 ≡ 9 = grind (arith, common_steps) in
    let at : get_or line (length name) 0 ≡ 9 = ap (λ l. get_or l (length name) 0) e.split ∙ tab in
    let no : (9 == 9) ≡ false = subst (λ b. (b == 9) ≡ false) at (none (length name) 0 within) in
    cc

-- what stands before the first tab of a line, and behind it
pub is_entry : (line : List ℕ) (i : ℕ) (value : List ℕ) → IsFirst 9 line i
    → value ≡ spaceless (drop (i + 1) line) → IsEntry line (take i line) value
is_entry line i value f e =
    record { rest = drop (i + 1) line; split = f.split; plain = f.before; is = e }

-- whether a field is a name of a column
abbrev pub is_column : List ℕ → List ℕ → Bool
is_column name field = bytes_eq (spaceless field) name

-- where a column is looked for from a field on
abbrev pub column_from : List ℕ → ℕ → List ℕ → Option ℕ
column_from name index rest = position_from (is_column name) index (tab_fields rest)

pub column_starts : (name names : List ℕ) → column_from name 0 names ≡ column_of name names
column_starts name names = sym (position_from-zero (is_column name) (tab_fields names))

same_text : (a b : List ℕ) (t : Bool) → IsTrue t ↔ (a ≡ b) → bytes_eq a b ≡ t
same_text a b true h = (bytes_eq-Decides a b).1 (h.0 refl)
same_text a b false h = by (bytes_eq a b) refl
  where
    by : (u : Bool) → bytes_eq a b ≡ u → bytes_eq a b ≡ false
    by true e = absurd (false≢true (h.1 ((bytes_eq-Decides a b).0 e)))
    by false e = e

-- the field before the first tab, and those behind it
pub column_next : (name rest behind front text : List ℕ) (index i : ℕ) (t : Bool)
    → IsFirst 9 rest i → front ≡ take i rest → text ≡ spaceless front
    → behind ≡ drop (i + 1) rest → (IsTrue t ↔ (text ≡ name))
    → column_from name index rest ≡ cond t (Some index) (column_from name (index + 1) behind)
column_next name rest behind front text index i t f before is after here =
    ap (position_from (is_column name) index) (fields_first rest i f)
    ∙ ap (λ b. cond b (Some index) (column_from name (index + 1) (drop (i + 1) rest)))
    (ap (λ x. bytes_eq x name) (ap spaceless (sym before) ∙ sym is) ∙ same_text text name t here)
    ∙ ap (λ l. cond t (Some index) (column_from name (index + 1) l)) (sym after)

-- and the last field
pub column_last : (name rest text : List ℕ) (index : ℕ) (t : Bool) → HasNone 9 rest
    → text ≡ spaceless rest → (IsTrue t ↔ (text ≡ name))
    → column_from name index rest ≡ cond t (Some index) None
column_last name rest text index t none is here =
    ap (position_from (is_column name) index) (fields_last rest none)
    ∙ ap (λ b. cond b (Some index) None)
    (ap (λ x. bytes_eq x name) (sym is) ∙ same_text text name t here)

pub shorter : (rest behind : List ℕ) (i : ℕ) → IsFirst 9 rest i → behind ≡ drop (i + 1) rest
    → length behind + 1 ≤ length rest
shorter rest behind i f e = omega (arith, f.within, ap length e, length-drop (i + 1) rest)
