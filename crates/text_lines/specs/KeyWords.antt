-- Tables of key words, and what a word means there.
use Rattle.std.specs.Prelude.{ℕ, cond, List, [], ◌∷◌, Option, Some, None}
use Rattle.std.specs.Str.{bytes_eq}

-- what the first row of a table with this word means; nothing where no row has the word
abbrev pub meaning : {A : Type 0} → List ℕ → List (List ℕ × A) → Option A
meaning word [] = None
meaning word (row ∷ rows) = cond (bytes_eq word row.0) (Some row.1) (meaning word rows)
