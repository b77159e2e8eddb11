-- Strings as JSON writes them (RFC 8259, section 7).
use Rattle.std.specs.Prelude.{◌≡◌, ◌<◌, ◌==◌, ◌/◌, ◌%◌, ℕ, Bool, false, nat_lt, ◌||◌, List, [], ◌∷◌, ◌++◌, get_or, if◌then◌else◌}
use Rattle.std.specs.Char.{digit_char}
use Rattle.std.specs.List.{flat_map}

-- a character below 256 by its code, in lower case: \u00xx
abbrev pub code_escape : ℕ → List ℕ
code_escape b = 92 ∷ 117 ∷ 48 ∷ 48 ∷ digit_char (b / 16) ∷ digit_char (b % 16) ∷ []

-- a control character: U+0008, U+000C, U+000A, U+000D and U+0009 by a letter, each other by its
-- code
abbrev pub control_escape : ℕ → List ℕ
control_escape b =
    if b == 8 then 92 ∷ 98 ∷ [] else if b == 12 then 92 ∷ 102 ∷ []
    else if b == 10 then 92 ∷ 110 ∷ [] else if b == 13 then 92 ∷ 114 ∷ []
    else if b == 9 then 92 ∷ 116 ∷ [] else code_escape b

-- what stands in a string for a byte of its UTF-8: the quote and the backslash behind a backslash,
-- a control character below U+0020 as an escape, and each other byte as it is
abbrev pub escape : ℕ → List ℕ
escape b =
    if b == 34 then 92 ∷ 34 ∷ [] else if b == 92 then 92 ∷ 92 ∷ []
    else if nat_lt b 32 then control_escape b else b ∷ []

-- what stands in a string for these bytes
abbrev pub escaped : List ℕ → List ℕ
escaped bytes = flat_map escape bytes

-- the string of these bytes, between quotes
abbrev pub quoted : List ℕ → List ℕ
quoted bytes = 34 ∷ (escaped bytes ++ 34 ∷ [])

-- whether a byte needs an escape in a string
abbrev pub needs_escape : ℕ → Bool
needs_escape b = nat_lt b 32 || b == 34 || b == 92

-- none of so many first bytes needs an escape
abbrev pub IsPlain : ℕ → List ℕ → Type 0
IsPlain count bytes = (k : ℕ) → k < count → needs_escape (get_or bytes k 0) ≡ false
