-- The lines of a text that comes in pieces.
use Rattle.std.proofs.Common.{◌≡◌, ◌<◌, ◌==◌, ℕ, Bool, List, [], ◌∷◌, ◌++◌, true, false, map, length, refl, sym, ap, ◌∙◌, length-append, arith}
use Rattle.std.specs.List.{onto_first}
use Rattle.std.proofs.lemmas.List.{map-append}
use Rattle.std.proofs.lemmas.List.Splits.{slice_split_at, slice_split_none, slice_split-cons_yes, slice_split-cons_no, length-slice_split}
use Rattle.text_lines.specs.First.{HasNone}
use Rattle.text_lines.specs.Lines.{parts_of, but_last, last_of, without_return, ended_lines, last_line}

some_part : (bytes : List ℕ) → 0 < length (parts_of bytes)
some_part bytes = omega (arith, length-slice_split (λ b. b == 10) bytes)

but_last-cons : (part : List ℕ) (parts : List (List ℕ)) → 0 < length parts → but_last (part ∷ parts) ≡ part ∷ but_last parts
but_last-cons part [] h = absurd (omega (arith, h))
but_last-cons part (next ∷ parts) h = refl

last_of-cons : (part : List ℕ) (parts : List (List ℕ)) → 0 < length parts → last_of (part ∷ parts) ≡ last_of parts
last_of-cons part [] h = absurd (omega (arith, h))
last_of-cons part (next ∷ parts) h = refl

-- the first line that has an end
pub ended_at : (line rest : List ℕ) → HasNone 10 line → ended_lines (line ++ 10 ∷ rest) ≡ without_return line ∷ ended_lines rest
unfolding ended_lines
ended_at line rest none =
    ap (λ parts. map without_return (but_last parts)) (slice_split_at (λ b. b == 10) line 10 rest none refl)
    ∙ ap (map without_return) (but_last-cons line (parts_of rest) (some_part rest))

pub last_at : (line rest : List ℕ) → HasNone 10 line → last_line (line ++ 10 ∷ rest) ≡ last_line rest
unfolding last_line
last_at line rest none = ap last_of (slice_split_at (λ b. b == 10) line 10 rest none refl) ∙ last_of-cons line (parts_of rest) (some_part rest)

-- a text without a line feed is one line that has no end
pub ended_none : (line : List ℕ) → HasNone 10 line → ended_lines line ≡ []
unfolding ended_lines
ended_none line none = ap (λ parts. map without_return (but_last parts)) (slice_split_none (λ b. b == 10) line none)

pub last_none : (line : List ℕ) → HasNone 10 line → last_line line ≡ line
unfolding last_line
last_none line none = ap last_of (slice_split_none (λ b. b == 10) line none)

onto_more : (x : ℕ) (bytes more : List ℕ) (parts : List (List ℕ)) → (x == 10) ≡ false → 0 < length parts → parts_of (bytes ++ more) ≡ but_last parts ++ parts_of (last_of parts ++ more)
    → onto_first x (parts_of (bytes ++ more)) ≡ but_last (onto_first x parts) ++ parts_of (last_of (onto_first x parts) ++ more)
onto_more x bytes more [] e some h = absurd (omega (arith, some))
onto_more x bytes more (part ∷ []) e some h = ap (onto_first x) h ∙ sym (slice_split-cons_no (λ b. b == 10) x (part ++ more) e)
onto_more x bytes more (part ∷ next ∷ parts) e some h = ap (onto_first x) h

parts_by : (x : ℕ) (bytes more : List ℕ) (t : Bool) → (x == 10) ≡ t → parts_of (bytes ++ more) ≡ but_last (parts_of bytes) ++ parts_of (last_of (parts_of bytes) ++ more)
    → parts_of (x ∷ (bytes ++ more)) ≡ but_last (parts_of (x ∷ bytes)) ++ parts_of (last_of (parts_of (x ∷ bytes)) ++ more)
parts_by x bytes more true e h =
    rw (slice_split-cons_yes (λ b. b == 10) x (bytes ++ more) e, slice_split-cons_yes (λ b. b == 10) x bytes e, but_last-cons [] (parts_of bytes) (some_part bytes), last_of-cons [] (parts_of bytes) (some_part bytes))
    (ap (λ parts. [] ∷ parts) h)
parts_by x bytes more false e h =
    rw (slice_split-cons_no (λ b. b == 10) x (bytes ++ more) e, slice_split-cons_no (λ b. b == 10) x bytes e) (onto_more x bytes more (parts_of bytes) e (some_part bytes) h)

-- of more bytes only the last part goes on
parts_more : (bytes more : List ℕ) → parts_of (bytes ++ more) ≡ but_last (parts_of bytes) ++ parts_of (last_of (parts_of bytes) ++ more)
parts_more [] more = refl
parts_more (x ∷ bytes) more = parts_by x bytes more (x == 10) refl (parts_more bytes more)

but_last-append : (xs ys : List (List ℕ)) → 0 < length ys → but_last (xs ++ ys) ≡ xs ++ but_last ys
but_last-append [] ys some = refl
but_last-append (x ∷ xs) ys some = but_last-cons x (xs ++ ys) (omega (arith, length-append xs ys, some)) ∙ ap (λ l. x ∷ l) (but_last-append xs ys some)

last_of-append : (xs ys : List (List ℕ)) → 0 < length ys → last_of (xs ++ ys) ≡ last_of ys
last_of-append [] ys some = refl
last_of-append (x ∷ xs) ys some = last_of-cons x (xs ++ ys) (omega (arith, length-append xs ys, some)) ∙ last_of-append xs ys some

-- the lines that have an end stay when more bytes follow, and the last line goes on
pub ended_more : (bytes more : List ℕ) → ended_lines (bytes ++ more) ≡ ended_lines bytes ++ ended_lines (last_line bytes ++ more)
unfolding ended_lines last_line
ended_more bytes more =
    ap (λ parts. map without_return (but_last parts)) (parts_more bytes more)
    ∙ ap (map without_return) (but_last-append (but_last (parts_of bytes)) (parts_of (last_of (parts_of bytes) ++ more)) (some_part (last_of (parts_of bytes) ++ more)))
    ∙ map-append without_return (but_last (parts_of bytes)) (but_last (parts_of (last_of (parts_of bytes) ++ more)))

pub last_more : (bytes more : List ℕ) → last_line (bytes ++ more) ≡ last_line (last_line bytes ++ more)
unfolding last_line
last_more bytes more =
    ap last_of (parts_more bytes more)
    ∙ last_of-append (but_last (parts_of bytes)) (parts_of (last_of (parts_of bytes) ++ more)) (some_part (last_of (parts_of bytes) ++ more))
