-- The text of one value, from those of the values in it.
use Rattle.std.proofs.Common.{◌≡◌, ℕ, suc, ◌+◌, Bool, true, false, List, [], ◌∷◌, ◌++◌, refl, sym, ap, append_assoc}
use Rattle.std.specs.Str.{IsUtf8}
use Rattle.sequences.specs.Pairs.{names_of, AreDistinct}
use Rattle.json_value.specs.declared.Json.{Json, Null, Bool as JsonOfBool, Num, Str, List as JsonOfList, Map as JsonOfMap}
use Rattle.json_text.specs.Numeral.{IsJsonNumeral}
use Rattle.json_text.specs.Grammar.{Value, blank as value_blank, null as value_null, yes, no, number as value_number, string as value_string, list as value_list, map as value_map, Items, Pairs, Pair, pair_named, colon_here}
use Rattle.json_text.specs.StringTexts.{escaped, quoted}
use Rattle.json_text.specs.Layout.{text_at, newline, item_lines, member_lines, member_text, list_text, object_text}
use Rattle.json_text.proofs.Lines.{text_at-Null, text_at-Bool, text_at-Num, text_at-Str, text_at-List, text_at-Map}
use Rattle.json_law.proofs.Strings.{Chars-escaped}
use Rattle.json_law.proofs.Names.{merged_same}

pub null_text : (room n : ℕ) (rest : List ℕ) → Value room (text_at Null n ++ rest) Null rest
null_text room n rest = rw (text_at-Null n) (value_null _ _ _ _ refl refl)

pub bool_at : (room n : ℕ) (b : Bool) (rest : List ℕ) → Value room (text_at (JsonOfBool b) n ++ rest) (JsonOfBool b) rest
bool_at room n true rest = rw (text_at-Bool true n) (yes _ _ _ _ refl refl)
bool_at room n false rest = rw (text_at-Bool false n) (no _ _ _ _ refl refl)

pub number_at : (room n : ℕ) (numeral rest : List ℕ) → IsJsonNumeral numeral → Value room (text_at (Num numeral) n ++ rest) (Num numeral) rest
number_at room n numeral rest h = rw (text_at-Num numeral n) (value_number _ _ _ _ numeral refl refl h)

-- a string, and what follows it
quoted_bytes : (text rest : List ℕ) → quoted text ++ rest ≡ 34 ∷ (escaped text ++ 34 ∷ rest)
quoted_bytes text rest = ap (λ l. 34 ∷ l) (append_assoc (escaped text) (34 ∷ []) rest)

pub string_at : (room n : ℕ) (text rest : List ℕ) → IsUtf8 text → Value room (text_at (Str text) n ++ rest) (Str text) rest
string_at room n text rest h =
    rw (text_at-Str text n) (value_string _ _ _ _ (escaped text ++ 34 ∷ rest) text (quoted_bytes text rest) refl (Chars-escaped text rest h))

-- lines between two brackets, and the rest
between : (first last : ℕ) (line part others end rest : List ℕ) → ((first ∷ (line ++ (part ++ others))) ++ (end ++ last ∷ [])) ++ rest ≡ first ∷ (line ++ (part ++ (others ++ (end ++ last ∷ rest))))
between first last line part others end rest = simp append_assoc

-- what stands behind the bracket of a list, and then the rest
abbrev pub list_rest : ℕ → List Json → List ℕ → List ℕ
list_rest n [] rest = 93 ∷ rest
list_rest n (first ∷ others) rest = newline (n + 1) ++ (text_at first (n + 1) ++ (item_lines 44 (n + 1) others ++ (newline n ++ 93 ∷ rest)))

list_bytes : (n : ℕ) (items : List Json) (rest : List ℕ) → list_text n items ++ rest ≡ 91 ∷ list_rest n items rest
list_bytes n [] rest = refl
list_bytes n (first ∷ others) rest = between 91 93 (newline (n + 1)) (text_at first (n + 1)) (item_lines 44 (n + 1) others) (newline n) rest

pub list_at : (room inner n : ℕ) (items : List Json) (rest : List ℕ) → room ≡ suc inner → Items inner (list_rest n items rest) items rest
    → Value room (text_at (JsonOfList items) n ++ rest) (JsonOfList items) rest
list_at room inner n items rest r h = rw (text_at-List items n) (value_list _ _ _ _ inner (list_rest n items rest) items r (list_bytes n items rest) refl h)

-- what stands behind the brace of an object, and then the rest
abbrev pub object_rest : ℕ → List (List ℕ × Json) → List ℕ → List ℕ
object_rest n [] rest = 125 ∷ rest
object_rest n (first ∷ others) rest = newline (n + 1) ++ (member_text first.0 (text_at first.1 (n + 1)) ++ (member_lines 44 (n + 1) others ++ (newline n ++ 125 ∷ rest)))

object_bytes : (n : ℕ) (members : List (List ℕ × Json)) (rest : List ℕ) → object_text n members ++ rest ≡ 123 ∷ object_rest n members rest
object_bytes n [] rest = refl
object_bytes n (first ∷ others) rest = between 123 125 (newline (n + 1)) (member_text first.0 (text_at first.1 (n + 1))) (member_lines 44 (n + 1) others) (newline n) rest

pub object_at : (room inner n : ℕ) (members : List (List ℕ × Json)) (rest : List ℕ) → room ≡ suc inner → AreDistinct (names_of members) → Pairs inner (object_rest n members rest) members rest
    → Value room (text_at (JsonOfMap members) n ++ rest) (JsonOfMap members) rest
object_at room inner n members rest r d h =
    rw (text_at-Map members n)
    (value_map _ _ _ _ inner (object_rest n members rest) members r (object_bytes n members rest) (ap JsonOfMap (sym (merged_same members d))) h)

member_bytes : (name text rest : List ℕ) → member_text name text ++ rest ≡ 34 ∷ (escaped name ++ 34 ∷ 58 ∷ 32 ∷ (text ++ rest))
member_bytes name text rest = simp append_assoc

-- a member of an object
pub member_at : (room n : ℕ) (name : List ℕ) (value : Json) (rest : List ℕ) → IsUtf8 name → Value room (text_at value n ++ rest) value rest
    → Pair room (member_text name (text_at value n) ++ rest) name value rest
member_at room n name value rest u h =
    pair_named _ _ _ _ _ (escaped name ++ 34 ∷ 58 ∷ 32 ∷ (text_at value n ++ rest)) (58 ∷ 32 ∷ (text_at value n ++ rest)) (32 ∷ (text_at value n ++ rest))
    (member_bytes name (text_at value n) rest) (Chars-escaped name _ u) (colon_here _ _ refl)
    (value_blank _ _ _ _ 32 (text_at value n ++ rest) refl refl h)
