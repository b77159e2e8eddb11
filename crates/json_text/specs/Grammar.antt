-- JSON texts (RFC 8259) in UTF-8, as relations between bytes and values. What a relation calls the
-- rest is what stands behind the part that it is about.
use Rattle.std.specs.Prelude.{◌≡◌, ◌≢◌, ℕ, suc, ◌+◌, ◌-◌, ◌*◌, ◌<◌, ◌≤◌, Bool, true, false, ◌||◌, ◌==◌, List, [], ◌∷◌, ◌++◌, Option, Some, None, if◌then◌else◌}
use Rattle.std.specs.Char.{IsScalar, digit_value, encode_utf8}
use Rattle.sequences.specs.Pairs.{merged}
use Rattle.json_value.specs.declared.Json.{Json}
use Rattle.json_value.specs.declared.Json.TheVariants.{Null, Bool as JsonOfBool, Num, Str, List as JsonOfList, Map as JsonOfMap}
use Rattle.json_text.specs.Numeral.{IsJsonNumeral}

-- white space (section 2): a space, a line feed, a carriage return or a tab
abbrev pub is_whitespace : ℕ → Bool
is_whitespace b = b == 32 || b == 10 || b == 13 || b == 9

-- white space alone
abbrev pub AreBlank : List ℕ → Type 0
AreBlank [] = Unit {0}
AreBlank (b ∷ bs) = (is_whitespace b ≡ true) × AreBlank bs

-- the character behind a backslash, and the one that both stand for (section 7)
abbrev pub escaped : ℕ → Option ℕ
escaped b =
    if b == 34 then Some 34 else if b == 92 then Some 92 else if b == 47 then Some 47
    else if b == 98 then Some 8 else if b == 102 then Some 12 else if b == 110 then Some 10
    else if b == 114 then Some 13 else if b == 116 then Some 9 else None

-- a digit of base 16, in either case
abbrev pub IsDigit16 : ℕ → Type 0
IsDigit16 b = digit_value b < 16

-- what four digits of base 16 stand for
abbrev pub of_digits16 : ℕ → ℕ → ℕ → ℕ → ℕ
of_digits16 a b c d =
    ((digit_value a * 16 + digit_value b) * 16 + digit_value c) * 16 + digit_value d

-- four digits of base 16 that stand for the code, and then the rest
abbrev pub FourDigits : List ℕ → ℕ → List ℕ → Type 0
FourDigits bytes code rest = (a : ℕ) × (b : ℕ) × (c : ℕ) × (d : ℕ) × IsDigit16 a × IsDigit16 b
    × IsDigit16 c × IsDigit16 d
    × (bytes ≡ a ∷ b ∷ c ∷ d ∷ rest) × (code ≡ of_digits16 a b c d)

-- a code that is the first half of a character that takes two escapes
abbrev pub IsHigh : ℕ → Type 0
IsHigh code = (0xD800 ≤ code) × (code ≤ 0xDBFF)

-- a code that is the second half of a character
abbrev pub IsLow : ℕ → Type 0
IsLow code = (0xDC00 ≤ code) × (code ≤ 0xDFFF)

-- the character that two halves make
abbrev pub joined : ℕ → ℕ → ℕ
joined high low = 0x10000 + ((high - 0xD800) * 1024 + (low - 0xDC00))

-- The bytes are the characters of a string up to its closing quote, and then the rest; the text is
-- what they stand for (section 7).
pub data Chars : List ℕ → List ℕ → List ℕ → Type 0 where
  -- the closing quote
  close : (bytes text rest : List ℕ) → bytes ≡ 34 ∷ rest → text ≡ [] → Chars bytes text rest
  -- a character as it is: no control character, quote or backslash
  plain : (bytes text rest : List ℕ) (c : ℕ) (more after : List ℕ) → IsScalar c → 32 ≤ c → c ≢ 34
      → c ≢ 92 → bytes ≡ encode_utf8 c ++ more → text ≡ encode_utf8 c ++ after
      → Chars more after rest → Chars bytes text rest
  -- a backslash and one character
  short : (bytes text rest : List ℕ) (b c : ℕ) (more after : List ℕ) → bytes ≡ 92 ∷ b ∷ more
      → escaped b ≡ Some c → text ≡ c ∷ after → Chars more after rest → Chars bytes text rest
  -- a backslash, u and four digits that name a character
  code : (bytes text rest : List ℕ) (c : ℕ) (more mid after : List ℕ) → bytes ≡ 92 ∷ 117 ∷ more
      → FourDigits more c mid → IsScalar c
      → text ≡ encode_utf8 c ++ after → Chars mid after rest → Chars bytes text rest
  -- two such escapes that name the two halves of a character
  pair : (bytes text rest : List ℕ) (high low : ℕ) (more mid next end after : List ℕ)
      → bytes ≡ 92 ∷ 117 ∷ more → FourDigits more high mid → IsHigh high
      → mid ≡ 92 ∷ 117 ∷ next → FourDigits next low end → IsLow low
      → text ≡ encode_utf8 (joined high low) ++ after → Chars end after rest → Chars bytes text rest

-- The bytes are a colon, perhaps behind white space, and then the rest.
pub data Colon : List ℕ → List ℕ → Type 0 where
  colon_blank : (bytes rest : List ℕ) (b : ℕ) (more : List ℕ) → bytes ≡ b ∷ more
      → is_whitespace b ≡ true → Colon more rest → Colon bytes rest
  colon_here : (bytes rest : List ℕ) → bytes ≡ 58 ∷ rest → Colon bytes rest

-- Each relation says that the bytes are a part of a text, perhaps behind white space, and then the
-- rest; at most `room` lists and objects stand in one another in it.
mutual
  -- a value (section 3)
  pub data Value : ℕ → List ℕ → Json → List ℕ → Type 0 where
    blank : (room : ℕ) (bytes : List ℕ) (value : Json) (rest : List ℕ) (b : ℕ) (more : List ℕ)
        → bytes ≡ b ∷ more → is_whitespace b ≡ true → Value room more value rest
        → Value room bytes value rest
    null : (room : ℕ) (bytes : List ℕ) (value : Json) (rest : List ℕ)
        → bytes ≡ 110 ∷ 117 ∷ 108 ∷ 108 ∷ rest → value ≡ Null → Value room bytes value rest
    yes : (room : ℕ) (bytes : List ℕ) (value : Json) (rest : List ℕ)
        → bytes ≡ 116 ∷ 114 ∷ 117 ∷ 101 ∷ rest → value ≡ JsonOfBool true
        → Value room bytes value rest
    no : (room : ℕ) (bytes : List ℕ) (value : Json) (rest : List ℕ)
        → bytes ≡ 102 ∷ 97 ∷ 108 ∷ 115 ∷ 101 ∷ rest → value ≡ JsonOfBool false
        → Value room bytes value rest
    number : (room : ℕ) (bytes : List ℕ) (value : Json) (rest spelled : List ℕ)
        → bytes ≡ spelled ++ rest → value ≡ Num spelled → IsJsonNumeral spelled
        → Value room bytes value rest
    string : (room : ℕ) (bytes : List ℕ) (value : Json) (rest more text : List ℕ)
        → bytes ≡ 34 ∷ more → value ≡ Str text → Chars more text rest → Value room bytes value rest
    list : (room : ℕ) (bytes : List ℕ) (value : Json) (rest : List ℕ) (inner : ℕ) (more : List ℕ)
        (items : List Json) → room ≡ suc inner → bytes ≡ 91 ∷ more → value ≡ JsonOfList items
        → Items inner more items rest → Value room bytes value rest
    map : (room : ℕ) (bytes : List ℕ) (value : Json) (rest : List ℕ) (inner : ℕ) (more : List ℕ)
        (pairs : List (List ℕ × Json)) → room ≡ suc inner → bytes ≡ 123 ∷ more
        → value ≡ JsonOfMap (merged pairs)
        → Pairs inner more pairs rest → Value room bytes value rest

  -- the values of a list behind its bracket (section 5)
  pub data Items : ℕ → List ℕ → List Json → List ℕ → Type 0 where
    items_blank : (room : ℕ) (bytes : List ℕ) (items : List Json) (rest : List ℕ) (b : ℕ)
        (more : List ℕ) → bytes ≡ b ∷ more → is_whitespace b ≡ true → Items room more items rest
        → Items room bytes items rest
    items_none : (room : ℕ) (bytes : List ℕ) (items : List Json) (rest : List ℕ) → bytes ≡ 93 ∷ rest
        → items ≡ [] → Items room bytes items rest
    items_some : (room : ℕ) (bytes : List ℕ) (items : List Json) (rest mid : List ℕ) (first : Json)
        (others : List Json) → items ≡ first ∷ others
        → Value room bytes first mid → MoreItems room mid others rest → Items room bytes items rest

  -- those behind one of its values
  pub data MoreItems : ℕ → List ℕ → List Json → List ℕ → Type 0 where
    more_items_blank : (room : ℕ) (bytes : List ℕ) (items : List Json) (rest : List ℕ) (b : ℕ)
        (more : List ℕ) → bytes ≡ b ∷ more → is_whitespace b ≡ true → MoreItems room more items rest
        → MoreItems room bytes items rest
    more_items_done : (room : ℕ) (bytes : List ℕ) (items : List Json) (rest : List ℕ)
        → bytes ≡ 93 ∷ rest → items ≡ [] → MoreItems room bytes items rest
    more_items_next : (room : ℕ) (bytes : List ℕ) (items : List Json) (rest more mid : List ℕ)
        (first : Json) (others : List Json) → bytes ≡ 44 ∷ more → items ≡ first ∷ others
        → Value room more first mid → MoreItems room mid others rest
        → MoreItems room bytes items rest

  -- the names and values of an object behind its brace (section 4)
  pub data Pairs : ℕ → List ℕ → List (List ℕ × Json) → List ℕ → Type 0 where
    pairs_blank : (room : ℕ) (bytes : List ℕ) (pairs : List (List ℕ × Json)) (rest : List ℕ) (b : ℕ)
        (more : List ℕ) → bytes ≡ b ∷ more → is_whitespace b ≡ true → Pairs room more pairs rest
        → Pairs room bytes pairs rest
    pairs_none : (room : ℕ) (bytes : List ℕ) (pairs : List (List ℕ × Json)) (rest : List ℕ)
        → bytes ≡ 125 ∷ rest → pairs ≡ [] → Pairs room bytes pairs rest
    pairs_some : (room : ℕ) (bytes : List ℕ) (pairs : List (List ℕ × Json)) (rest mid name : List ℕ)
        (value : Json) (others : List (List ℕ × Json)) → pairs ≡ (name, value) ∷ others
        → Pair room bytes name value mid → MorePairs room mid others rest
        → Pairs room bytes pairs rest

  -- those behind one of its values
  pub data MorePairs : ℕ → List ℕ → List (List ℕ × Json) → List ℕ → Type 0 where
    more_pairs_blank : (room : ℕ) (bytes : List ℕ) (pairs : List (List ℕ × Json)) (rest : List ℕ)
        (b : ℕ) (more : List ℕ) → bytes ≡ b ∷ more → is_whitespace b ≡ true
        → MorePairs room more pairs rest → MorePairs room bytes pairs rest
    more_pairs_done : (room : ℕ) (bytes : List ℕ) (pairs : List (List ℕ × Json)) (rest : List ℕ)
        → bytes ≡ 125 ∷ rest → pairs ≡ [] → MorePairs room bytes pairs rest
    more_pairs_next : (room : ℕ) (bytes : List ℕ) (pairs : List (List ℕ × Json))
        (rest more mid name : List ℕ) (value : Json) (others : List (List ℕ × Json))
        → bytes ≡ 44 ∷ more → pairs ≡ (name, value) ∷ others
        → Pair room more name value mid → MorePairs room mid others rest
        → MorePairs room bytes pairs rest

  -- a name, a colon and a value
  pub data Pair : ℕ → List ℕ → List ℕ → Json → List ℕ → Type 0 where
    pair_blank : (room : ℕ) (bytes name : List ℕ) (value : Json) (rest : List ℕ) (b : ℕ)
        (more : List ℕ) → bytes ≡ b ∷ more → is_whitespace b ≡ true → Pair room more name value rest
        → Pair room bytes name value rest
    pair_named : (room : ℕ) (bytes name : List ℕ) (value : Json) (rest more mid after : List ℕ)
        → bytes ≡ 34 ∷ more → Chars more name mid → Colon mid after → Value room after value rest
        → Pair room bytes name value rest

-- The bytes are a text of the value in which at most `room` lists and objects stand in one another
-- (sections 2 and 9).
abbrev pub IsTextWithin : ℕ → List ℕ → Json → Type 0
IsTextWithin room bytes value = (rest : List ℕ) × Value room bytes value rest × AreBlank rest

-- The bytes are a text of the value, with at most 127 levels.
abbrev pub text_of : List ℕ → Json → Type 0
text_of bytes value = IsTextWithin 127 bytes value

-- Some continuation of the bytes is a text with at most that many levels.
abbrev pub IsLiveWithin : ℕ → List ℕ → Type 0
IsLiveWithin room bytes = (more : List ℕ) × (value : Json) × IsTextWithin room (bytes ++ more) value

-- Some continuation of the bytes is a text.
abbrev pub IsLive : List ℕ → Type 0
IsLive bytes = IsLiveWithin 127 bytes
