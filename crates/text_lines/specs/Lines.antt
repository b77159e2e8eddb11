-- The lines of a text, and the fields of a line.
use Rattle.std.specs.Prelude.{◌≡◌, ◌==◌, ℕ, Bool, true, false, List, [], ◌∷◌, ◌++◌, filter, map, reverse, if◌then◌else◌}
use Rattle.std.specs.List.{slice_split}
use Rattle.text_lines.specs.First.{is_blank}

-- the bytes without the carriage return at their end, where one stands there
unfoldable pub without_return : List ℕ → List ℕ
without_return [] = []
without_return (b ∷ []) = if b == 13 then [] else (b ∷ [])
without_return (b ∷ next ∷ bytes) = b ∷ without_return (next ∷ bytes)

-- each part but the last
abbrev pub but_last : List (List ℕ) → List (List ℕ)
but_last [] = []
but_last (part ∷ []) = []
but_last (part ∷ next ∷ parts) = part ∷ but_last (next ∷ parts)

-- the last part
abbrev pub last_of : List (List ℕ) → List ℕ
last_of [] = []
last_of (part ∷ []) = part
last_of (part ∷ next ∷ parts) = last_of (next ∷ parts)

-- what stands between the line feeds of a text, before the first and behind the last
abbrev pub parts_of : List ℕ → List (List ℕ)
parts_of bytes = slice_split (λ b. b == 10) bytes

-- the lines of a text that have an end, a line feed or a carriage return and a line feed, each
-- without its end
unfoldable pub ended_lines : List ℕ → List (List ℕ)
ended_lines bytes = map without_return (but_last (parts_of bytes))

-- the last line of a text, which has no end: what stands behind the last line feed, a carriage
-- return at its end with it
unfoldable pub last_line : List ℕ → List ℕ
last_line bytes = last_of (parts_of bytes)

-- the lines of a text: those that have an end, and the last, which has none and is empty behind a
-- line feed
abbrev pub lines_of : List ℕ → List (List ℕ)
lines_of bytes = ended_lines bytes ++ last_line bytes ∷ []

-- whether what stands between two blanks is a field: where it isn't empty
abbrev pub is_field : List ℕ → Bool
is_field [] = false
is_field (b ∷ bytes) = true

-- the fields of a line: what stands between its spaces and tabs, of which one or more part two
-- fields
unfoldable pub fields_of : List ℕ → List (List ℕ)
fields_of line = filter is_field (slice_split is_blank line)

-- the text without the spaces and tabs at its front
unfoldable pub trimmed_front : List ℕ → List ℕ
trimmed_front [] = []
trimmed_front (b ∷ bytes) = if is_blank b then trimmed_front bytes else (b ∷ bytes)

-- the text without the spaces and tabs at both ends
abbrev pub trimmed : List ℕ → List ℕ
trimmed text = reverse (trimmed_front (reverse (trimmed_front text)))

-- no space or tab stands at either end of the text
abbrev pub IsTight : List ℕ → Type 0
IsTight text = trimmed text ≡ text

-- nothing stands on the line, or `#` stands first
abbrev pub is_comment : List ℕ → Bool
is_comment [] = true
is_comment (b ∷ bytes) = b == 35
