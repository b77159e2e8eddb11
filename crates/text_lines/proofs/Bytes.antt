-- What the bytes of the fields of a line are.
use Rattle.std.proofs.Common.{◌≡◌, ℕ, Bool, List, [], ◌∷◌, true, false, All, refl}
use Rattle.std.specs.List.{slice_split, onto_first, AllByRecursion}
use Rattle.std.proofs.lemmas.List.Elements.{All-nil, All-cons, All-head, All-tail, All-filter, All-from_recursion, filter_passes}
use Rattle.std.proofs.lemmas.List.Splits.{slice_split-cons_yes, slice_split-cons_no}
use Rattle.text_lines.specs.First.{HasNoBlank, is_blank}
use Rattle.text_lines.specs.Lines.{fields_of, is_field}

-- each part has only such bytes
abbrev EachPart : (ℕ → Type 0) → List (List ℕ) → Type 0
EachPart P parts = AllByRecursion (λ part. All P part) parts

onto_part : (P : ℕ → Type 0) (b : ℕ) (parts : List (List ℕ)) → P b → EachPart P parts → EachPart P (onto_first b parts)
onto_part P b [] here h = (All-cons P b [] here (All-nil P), tt)
onto_part P b (part ∷ parts) here h = (All-cons P b part here h.0, h.1)

without_by : (p : ℕ → Bool) (b : ℕ) (bs : List ℕ) (t : Bool) → p b ≡ t → EachPart (λ x. p x ≡ false) (slice_split p bs) → EachPart (λ x. p x ≡ false) (slice_split p (b ∷ bs))
without_by p b bs true e h = rw (slice_split-cons_yes p b bs e) (All-nil (λ x. p x ≡ false), h)
without_by p b bs false e h = rw (slice_split-cons_no p b bs e) (onto_part (λ x. p x ≡ false) b (slice_split p bs) e h)

without : (p : ℕ → Bool) (bytes : List ℕ) → EachPart (λ x. p x ≡ false) (slice_split p bytes)
without p [] = (All-nil (λ x. p x ≡ false), tt)
without p (b ∷ bs) = without_by p b bs (p b) refl (without p bs)

within_by : (P : ℕ → Type 0) (p : ℕ → Bool) (b : ℕ) (bs : List ℕ) (t : Bool) → p b ≡ t → P b → EachPart P (slice_split p bs) → EachPart P (slice_split p (b ∷ bs))
within_by P p b bs true e here h = rw (slice_split-cons_yes p b bs e) (All-nil P, h)
within_by P p b bs false e here h = rw (slice_split-cons_no p b bs e) (onto_part P b (slice_split p bs) here h)

within : (P : ℕ → Type 0) (p : ℕ → Bool) (bytes : List ℕ) → All P bytes → EachPart P (slice_split p bytes)
within P p [] h = (All-nil P, tt)
within P p (b ∷ bs) h = within_by P p b bs (p b) refl (All-head P b bs h) (within P p bs (All-tail P b bs h))

-- no field of a line has a space or a tab
pub fields_without_blank : (line : List ℕ) → All (λ field. HasNoBlank field) (fields_of line)
unfolding fields_of
fields_without_blank line = All-filter is_field (λ field. HasNoBlank field) (slice_split is_blank line) (All-from_recursion (λ field. HasNoBlank field) _ (without is_blank line))

-- what holds of each byte of a line holds of each byte of each field
pub all_fields : (P : ℕ → Type 0) (line : List ℕ) → All P line → All (λ field. All P field) (fields_of line)
unfolding fields_of
all_fields P line h = All-filter is_field (λ field. All P field) (slice_split is_blank line) (All-from_recursion (λ field. All P field) _ (within P is_blank line h))

-- no field of a line is empty
pub fields_not_empty : (line : List ℕ) → All (λ field. is_field field ≡ true) (fields_of line)
unfolding fields_of
fields_not_empty line = filter_passes is_field (slice_split is_blank line)
