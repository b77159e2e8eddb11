-- Bytes that end inside a string, and bytes that begin UTF-8.
use Rattle.std.specs.Prelude.{◌≢◌, ℕ, List, [], ◌∷◌, ◌++◌}
use Rattle.std.specs.Str.{IsUtf8}
use Rattle.json_text.specs.Grammar.{IsLive}

-- some continuation of the bytes is UTF-8 (RFC 3629)
abbrev pub BeginsUtf8 : List ℕ → Type 0
BeginsUtf8 bytes = (more : List ℕ) × IsUtf8 (bytes ++ more)

-- no quote is among the bytes
abbrev pub HasNoQuote : List ℕ → Type 0
HasNoQuote [] = Unit {0}
HasNoQuote (b ∷ bs) = (b ≢ 34) × HasNoQuote bs

-- The bytes end inside a string: without a quote, a `#` can be reached, which stands in strings
-- alone.
abbrev pub IsInString : List ℕ → Type 0
IsInString bytes = (on : List ℕ) × HasNoQuote on × IsLive (bytes ++ (on ++ (35 ∷ [])))
