-- The lines of a text and the fields of a line, taken off one by one.
use Rattle.std.proofs.Common.{◌≡◌, ◌≢◌, ◌+◌, ◌<◌, ℕ, Bool, zero, suc, List, [], ◌∷◌, ◌++◌, true, false, take, drop, length, filter, refl, sym, ap, subst, ◌∙◌, length-drop, arith}
use Rattle.std.proofs.lemmas.Grind.{common_steps}
use Rattle.std.specs.List.{slice_split, onto_first}
use Rattle.std.proofs.lemmas.List.Splits.{slice_split_at, slice_split_none, slice_split-cons_no}
use Rattle.text_lines.specs.First.{HasNone, IsFirst, HasNoBlank, IsFirstBlank, is_blank, begins_with_blank}
use Rattle.text_lines.specs.Lines.{lines_of, without_return, fields_of, is_field, trimmed_front}
use Rattle.text_lines.proofs.Pieces.{ended_at, last_at, ended_none, last_none}
use Rattle.text_lines.proofs.Trimming.{front_skips, front_stays}

-- a line, its line feed and what follows
pub lines_at : (line rest : List ℕ) → HasNone 10 line → lines_of (line ++ 10 ∷ rest) ≡ without_return line ∷ lines_of rest
lines_at line rest none = rw (ended_at line rest none, last_at line rest none) refl

-- a line before a line feed
pub lines_first : (bytes : List ℕ) (i : ℕ) → IsFirst 10 bytes i → lines_of bytes ≡ without_return (take i bytes) ∷ lines_of (drop (i + 1) bytes)
lines_first bytes i f = ap lines_of f.split ∙ lines_at (take i bytes) (drop (i + 1) bytes) f.before

-- a line with no line feed behind it
pub lines_last : (bytes : List ℕ) → HasNone 10 bytes → lines_of bytes ≡ bytes ∷ []
lines_last bytes none = rw (ended_none bytes none, last_none bytes none) refl

-- what stands behind a byte is shorter
pub shorter_behind : (byte : ℕ) (bytes : List ℕ) (i : ℕ) → IsFirst byte bytes i → length (drop (i + 1) bytes) < length bytes
shorter_behind byte bytes i f = omega (arith, f.within, length-drop (i + 1) bytes)

-- a field before a blank
pub fields_at : (field rest : List ℕ) (blank : ℕ) → field ≢ [] → HasNoBlank field → is_blank blank ≡ true → fields_of (field ++ blank ∷ rest) ≡ field ∷ fields_of rest
unfolding fields_of
fields_at [] rest blank h none is = absurd (h refl)
fields_at (b ∷ bs) rest blank h none is = ap (filter is_field) (slice_split_at is_blank (b ∷ bs) blank rest none is)

-- a field at the end
pub fields_end : (field : List ℕ) → field ≢ [] → HasNoBlank field → fields_of field ≡ field ∷ []
unfolding fields_of
fields_end [] h none = absurd (h refl)
fields_end (b ∷ bs) h none = ap (filter is_field) (slice_split_none is_blank (b ∷ bs) none)

-- a blank at the front parts nothing
pub fields_skip : (line : List ℕ) → begins_with_blank line ≡ true → fields_of (drop 1 line) ≡ fields_of line
unfolding fields_of
fields_skip [] h = cc
fields_skip (b ∷ bs) h = rw h refl

trimmed_by : (b : ℕ) (bs : List ℕ) (t : Bool) → is_blank b ≡ t → fields_of (trimmed_front bs) ≡ fields_of bs → fields_of (trimmed_front (b ∷ bs)) ≡ fields_of (b ∷ bs)
trimmed_by b bs true e h = ap fields_of (sym (front_skips (b ∷ bs) e)) ∙ h ∙ fields_skip (b ∷ bs) e
trimmed_by b bs false e h = ap fields_of (front_stays (b ∷ bs) e)

-- the blanks at the front part nothing
pub fields_trimmed : (line : List ℕ) → fields_of (trimmed_front line) ≡ fields_of line
fields_trimmed [] = ap fields_of (front_stays [] refl)
fields_trimmed (b ∷ bs) = trimmed_by b bs (is_blank b) refl (fields_trimmed bs)

-- a field before the first blank of a line that begins with none
pub fields_first : (line : List ℕ) (i : ℕ) → begins_with_blank line ≡ false → IsFirstBlank line i → fields_of line ≡ take i line ∷ fields_of (drop (i + 1) line)
fields_first [] i h f = absurd (omega (arith, f.within))
fields_first (b ∷ bs) zero h f =
    let e : b ≡ f.blank = cc (f.split) in
    let t : true ≡ false = sym f.is ∙ subst (λ x. is_blank x ≡ false) e h in
    cc
fields_first (b ∷ bs) (suc i) h f = ap fields_of f.split ∙ fields_at (take (suc i) (b ∷ bs)) (drop (suc i + 1) (b ∷ bs)) f.blank (λ e. cc) f.before f.is

-- an empty line has no field
pub fields_none : (line : List ℕ) → length line ≡ 0 → fields_of line ≡ []
unfolding fields_of
fields_none [] h = refl
fields_none (b ∷ bs) h = absurd (omega (arith, h))

-- a line with no blank is a field
pub fields_last : (line : List ℕ) → 0 < length line → HasNoBlank line → fields_of line ≡ line ∷ fields_of (drop (length line) line)
fields_last [] h none = absurd (omega (arith, h))
fields_last (b ∷ bs) h none = fields_end (b ∷ bs) (λ e. cc) none ∙ ap (λ l. (b ∷ bs) ∷ l) (sym (fields_none (drop (length (b ∷ bs)) (b ∷ bs)) (grind (arith, common_steps))))

onto : (b : ℕ) (parts : List (List ℕ)) → (field : List ℕ) × (fields : List (List ℕ)) × (onto_first b parts ≡ (b ∷ field) ∷ fields)
onto b [] = ([], [], refl)
onto b (part ∷ parts) = (part, parts, refl)

-- the first field of a line that begins with no blank begins with the line's first byte
pub fields_begin : (b : ℕ) (line : List ℕ) → is_blank b ≡ false → (field : List ℕ) × (fields : List (List ℕ)) × (fields_of (b ∷ line) ≡ (b ∷ field) ∷ fields)
unfolding fields_of
fields_begin b line h =
    let o = onto b (slice_split is_blank line) in
    (o.0, filter is_field o.1, ap (filter is_field) (slice_split-cons_no is_blank b line h ∙ o.2))
