-- The text of a JSON value (RFC 8259), laid out with four spaces a level.
use Rattle.std.specs.Prelude.{ℕ, ◌+◌, ◌*◌, Bool, true, false, List, [], ◌∷◌, ◌++◌, map, replicate}
use Rattle.json_value.specs.declared.Json.{Json, fold-Json}
use Rattle.json_value.specs.declared.Json.TheOpen.{Json-F}
use Rattle.json_text.specs.StringTexts.{quoted}

-- the spaces before a line of a level
abbrev pub indent : ℕ → List ℕ
indent n = replicate (4 * n) 32

-- a line feed, and the spaces of a level
abbrev pub newline : ℕ → List ℕ
newline n = 10 ∷ indent n

-- each part on a line of this level: the line before the first ends with the byte `lead`, and the
-- others with a comma
abbrev pub lines_of : ℕ → ℕ → List (List ℕ) → List ℕ
lines_of lead n [] = []
lines_of lead n (part ∷ parts) = lead ∷ (newline n ++ (part ++ lines_of 44 n parts))

-- parts between two brackets: the closing one on a line of the level around them, and right behind
-- the first where there are none
abbrev pub block : ℕ → ℕ → ℕ → List (List ℕ) → List ℕ
block first last n [] = first ∷ last ∷ []
block first last n (part ∷ parts) =
    lines_of first (n + 1) (part ∷ parts) ++ (newline n ++ last ∷ [])

-- a member of an object: its name as a string, a colon, a space and the text of its value
abbrev pub member_text : List ℕ → List ℕ → List ℕ
member_text name text = quoted name ++ (58 ∷ 32 ∷ text)

-- a truth value: `true` or `false`
abbrev pub bool_text : Bool → List ℕ
bool_text true = 116 ∷ 114 ∷ 117 ∷ 101 ∷ []
bool_text false = 102 ∷ 97 ∷ 108 ∷ 115 ∷ 101 ∷ []

-- a value at a level, with the values right inside it known as texts at any level: `null`, a truth
-- value, a numeral as it is spelled, a string, a list between `[` and `]`, or an object between `{`
-- and `}`
abbrev pub text_step : Json-F (ℕ → List ℕ) → ℕ → List ℕ
text_step Json-F.Null n = 110 ∷ 117 ∷ 108 ∷ 108 ∷ []
text_step (Json-F.Bool b) n = bool_text b
text_step (Json-F.Num numeral) n = numeral
text_step (Json-F.Str text) n = quoted text
text_step (Json-F.List items) n = block 91 93 n (map (λ item. item (n + 1)) items)
text_step (Json-F.Map members) n =
    block 123 125 n (map (λ member. member_text member.0 (member.1 (n + 1))) members)

-- the text of a value at a level
abbrev pub text_at : Json → ℕ → List ℕ
text_at = fold-Json (ℕ → List ℕ) text_step

-- the text of a value: at the top level, with a line feed at the end
abbrev pub layout : Json → List ℕ
layout value = text_at value 0 ++ 10 ∷ []

-- the items of a list, each on a line of this level
abbrev pub item_lines : ℕ → ℕ → List Json → List ℕ
item_lines lead n items = lines_of lead n (map (λ item. text_at item n) items)

-- the members of an object, each on a line of this level
abbrev pub member_lines : ℕ → ℕ → List (List ℕ × Json) → List ℕ
member_lines lead n members = lines_of lead n
    (map (λ member. member_text member.0 (text_at member.1 n)) members)

-- the text of a list of items at a level
abbrev pub list_text : ℕ → List Json → List ℕ
list_text n items = block 91 93 n (map (λ item. text_at item (n + 1)) items)

-- the text of an object of members at a level
abbrev pub object_text : ℕ → List (List ℕ × Json) → List ℕ
object_text n members = block 123 125 n
    (map (λ member. member_text member.0 (text_at member.1 (n + 1))) members)
