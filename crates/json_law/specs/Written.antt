-- The JSON values (RFC 8259) that have a text, and that their layout is one.
use Rattle.std.specs.Prelude.{◌≡◌, ℕ, suc, Bool, List, [], ◌∷◌}
use Rattle.std.specs.Str.{IsUtf8}
use Rattle.sequences.specs.Pairs.{names_of, AreDistinct}
use Rattle.json_value.specs.declared.Json.{Json}
use Rattle.json_value.specs.declared.Json.TheVariants.{Null, Bool as JsonOfBool, Num, Str, List as JsonOfList, Map as JsonOfMap}
use Rattle.json_text.specs.Numeral.{IsJsonNumeral}
use Rattle.json_text.specs.Grammar.{text_of}
use Rattle.json_text.specs.Layout.{layout}

mutual
  -- The numerals of the value are JSON numerals, its texts and names are UTF-8, the names of an
  -- object are distinct, and at most `room` lists and objects stand in one another in it.
  pub data IsJson : ℕ → Json → Type 0 where
    null : (room : ℕ) (value : Json) → value ≡ Null → IsJson room value
    truth : (room : ℕ) (value : Json) (b : Bool) → value ≡ JsonOfBool b → IsJson room value
    number : (room : ℕ) (value : Json) (numeral : List ℕ) → value ≡ Num numeral
        → IsJsonNumeral numeral → IsJson room value
    string : (room : ℕ) (value : Json) (text : List ℕ) → value ≡ Str text → IsUtf8 text
        → IsJson room value
    list : (room : ℕ) (value : Json) (inner : ℕ) (items : List Json) → room ≡ suc inner
        → value ≡ JsonOfList items → AreJson inner items → IsJson room value
    object : (room : ℕ) (value : Json) (inner : ℕ) (members : List (List ℕ × Json))
        → room ≡ suc inner → value ≡ JsonOfMap members
        → AreDistinct (names_of members) → AreMembers inner members → IsJson room value

  -- each of these values is one
  pub data AreJson : ℕ → List Json → Type 0 where
    no_values : (room : ℕ) (items : List Json) → items ≡ [] → AreJson room items
    more_values : (room : ℕ) (items : List Json) (first : Json) (others : List Json)
        → items ≡ first ∷ others → IsJson room first → AreJson room others → AreJson room items

  -- each of these names is UTF-8, and each of the values is one
  pub data AreMembers : ℕ → List (List ℕ × Json) → Type 0 where
    no_members : (room : ℕ) (members : List (List ℕ × Json)) → members ≡ []
        → AreMembers room members
    more_members : (room : ℕ) (members : List (List ℕ × Json)) (name : List ℕ) (value : Json)
        (others : List (List ℕ × Json)) → members ≡ (name, value) ∷ others
        → IsUtf8 name → IsJson room value → AreMembers room others → AreMembers room members

-- the layout of a value of at most 127 levels is a text of that value
abbrev pub LayoutIsText : Type 0
LayoutIsText = (value : Json) → IsJson 127 value → text_of (layout value) value

-- what a text denotes is such a value
abbrev pub ReadIsJson : Type 0
ReadIsJson = (bytes : List ℕ) (value : Json) → text_of bytes value → IsJson 127 value

-- a text that is read and written again is a text of the same value
abbrev pub RereadIsSame : Type 0
RereadIsSame = (bytes : List ℕ) (value : Json) → text_of bytes value → text_of (layout value) value
