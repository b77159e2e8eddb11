-- The spelling of a numeral (RFC 8259 section 6).
use Rattle.std.specs.Prelude.{◌≡◌, ◌≤◌, ◌⊎◌, ℕ, true, List, [], ◌∷◌, ◌++◌}
use Rattle.std.specs.Char.{is_ascii_digit}

-- digits, none or more
abbrev pub AreDigits : List ℕ → Type 0
AreDigits [] = Unit {0}
AreDigits (b ∷ bs) = (is_ascii_digit b ≡ true) × AreDigits bs

-- digits, one or more
abbrev pub SomeDigits : List ℕ → Type 0
SomeDigits [] = ⊥
SomeDigits (b ∷ bs) = (is_ascii_digit b ≡ true) × AreDigits bs

-- the integer part: 0 alone, or digits that begin with 1 to 9
abbrev pub IsWhole : List ℕ → Type 0
IsWhole [] = ⊥
IsWhole (b ∷ bs) = ((b ≡ 48) × (bs ≡ [])) ⊎ ((49 ≤ b) × (b ≤ 57) × AreDigits bs)

-- the fraction: none, or a point and digits
abbrev pub IsFraction : List ℕ → Type 0
IsFraction [] = Unit {0}
IsFraction (b ∷ bs) = (b ≡ 46) × SomeDigits bs

-- digits, perhaps behind a + or a -
abbrev pub IsSigned : List ℕ → Type 0
IsSigned [] = ⊥
IsSigned (b ∷ bs) = SomeDigits (b ∷ bs) ⊎ (((b ≡ 43) ⊎ (b ≡ 45)) × SomeDigits bs)

-- the exponent: none, or an e or E and digits that may have a sign
abbrev pub IsExponent : List ℕ → Type 0
IsExponent [] = Unit {0}
IsExponent (b ∷ bs) = ((b ≡ 101) ⊎ (b ≡ 69)) × IsSigned bs

-- the sign of a numeral: none, or a -
abbrev pub IsMinus : List ℕ → Type 0
IsMinus minus = (minus ≡ []) ⊎ (minus ≡ 45 ∷ [])

-- a numeral: a sign, an integer part, a fraction and an exponent
abbrev pub IsJsonNumeral : List ℕ → Type 0
IsJsonNumeral spelled = (minus : List ℕ) × (whole : List ℕ) × (fraction : List ℕ)
    × (exponent : List ℕ) × IsMinus minus × IsWhole whole × IsFraction fraction
    × IsExponent exponent × (spelled ≡ minus ++ (whole ++ (fraction ++ exponent)))
