-- What the line of a note says as a note.
use Rattle.std.proofs.Common.{◌≡◌, ◌≢◌, ◌-◌, ◌==◌, inl, ℕ, ℤ, suc, zero, Bool, true, false, nat_lt, List, [], ◌∷◌, ◌++◌, IsUtf8, codes, length, unsigned_abs, refl, sym, ap, subst, ◌∙◌, append_assoc, append-nil, arith}
use Rattle.std.proofs.lemmas.Bool.Decides.{nat_tests}
use Rattle.std.proofs.lemmas.List.Elements.{All-head, All-tail, All-cons}
use Rattle.edl_law.proofs.LineForms.{one_blank}
use Rattle.tick_time.specs.declared.rates.Rate.{Rate}
use Rattle.tick_time.specs.Numerals.{IsNumeral}
use Rattle.text_lines.specs.First.{is_blank, AreBlanks, HasNone, begins_with_blank}
use Rattle.text_lines.specs.Lines.{fields_of, trimmed}
use Rattle.text_lines.proofs.Places.{blank_is}
use Rattle.text_lines.proofs.Trimming.{tight_front}
use Rattle.edl_text.specs.Columns.{spaces, label_text, cleaned}
use Rattle.edl_list.specs.Labelled.{IsBelowDay}
use Rattle.edl_law.proofs.SolidTexts.{first_of as and_first, second_of as and_second, solid, solid_blank}
use Rattle.edl_law.proofs.FieldLemmas.{IsField, field_at, append_some}
use Rattle.edl_law.proofs.LabelLemmas.{label_field, frame_known, frame_low}
use Rattle.edl_law.proofs.NameLemmas.{cleaned_tight}
use Rattle.text_lines.proofs.Splitting.{fields_end}
use Rattle.note_text.specs.Forms.{IsAfter, IsFirstWord, last, more, IsColor, IsLocator, AreNumerals, IsTriple, IsCorrection, IsSaturation, coloned, IsNote}
use Rattle.note_text.specs.NotedSpelling.{note_line, color_and_name, triple_text}
use Rattle.note_text.specs.declared.notes.Triple.{Triple}
use Rattle.note_text.specs.declared.notes.Said.{Said}
use Rattle.note_text.specs.declared.notes.Said.TheVariants.{Loc, Sop, Sat}
use Rattle.note_law.specs.Law.{AreSpelled, IsSpelled, IsClean}
use Rattle.note_law.proofs.NoteLines.{tall, numeral_tall, numeral_solid, numeral_some, color_solid, label_solid, note_tight}

no_blanks : AreBlanks []
no_blanks = λ k d h. absurd (omega arith)

-- a word, and at once what begins with no blank
at_once : (word rest : List ℕ) → begins_with_blank rest ≡ false → IsAfter word (word ++ rest) rest
at_once word rest e = record { blanks = []; are_blanks = no_blanks; ends = e; is = refl }

-- a word and one space
spaced_after : (word rest : List ℕ) → begins_with_blank rest ≡ false → IsAfter word (word ++ 32 ∷ rest) rest
spaced_after word rest e = record { blanks = 32 ∷ []; are_blanks = one_blank; ends = e; is = refl }

-- a solid word isn't a blank at its front
solid_begins : (word rest : List ℕ) → word ≢ [] → solid word ≡ true → begins_with_blank (word ++ rest) ≡ false
solid_begins [] rest some p = absurd (some refl)
solid_begins (b ∷ word) rest some p = All-head (λ x. is_blank x ≡ false) b word (solid_blank (b ∷ word) p)

solid_alone : (word : List ℕ) → word ≢ [] → solid word ≡ true → begins_with_blank word ≡ false
solid_alone word some p = subst (λ l. begins_with_blank l ≡ false) (append-nil word) (solid_begins word [] some p)

label_some : (rate : Rate) (drop : Bool) (at : ℤ) → IsBelowDay rate drop at → label_text rate drop at ≢ []
label_some rate drop at h = (label_field rate drop at h).some

-- ---- locators

are_spaces : (n : ℕ) → AreBlanks (spaces n ++ 32 ∷ [])
are_spaces zero = one_blank
are_spaces (suc n) = All-cons (λ b. is_blank b ≡ true) 32 (spaces n ++ 32 ∷ []) (blank_is 32) (are_spaces n)

-- the color is the first word, and the name stands after it
color_first : (color name : List ℕ) → IsColor color → begins_with_blank name ≡ false → IsFirstWord (color_and_name color name) color name
color_first color [] is begins = last (solid_blank color (color_solid color is)) refl refl
color_first color (b ∷ name) is begins = more (solid_blank color (color_solid color is)) (record {
  blanks = spaces (7 - length color) ++ 32 ∷ [];
  some = append_some (spaces (7 - length color)) 32 [];
  are_blanks = are_spaces (7 - length color);
  ends = begins;
  is = append_assoc color (spaces (7 - length color)) (32 ∷ b ∷ name) ∙ ap (λ l. color ++ l) (sym (append_assoc (spaces (7 - length color)) (32 ∷ []) (b ∷ name)));
})

color_begins : (color name : List ℕ) → IsColor color → begins_with_blank (color_and_name color name) ≡ false
color_begins color [] is = solid_alone color is.some (color_solid color is)
color_begins color (b ∷ name) is =
    subst (λ l. begins_with_blank l ≡ false) (sym (append_assoc color (spaces (7 - length color)) (32 ∷ b ∷ name))) (solid_begins color (spaces (7 - length color) ++ 32 ∷ b ∷ name) is.some (color_solid color is))

locator : (rate : Rate) (drop : Bool) (at : ℤ) (color name : List ℕ) → IsBelowDay rate drop at → IsColor color → IsUtf8 name → begins_with_blank name ≡ false
    → IsLocator rate drop (codes "LOC: " ++ (label_text rate drop at ++ 32 ∷ color_and_name color name)) at color name
locator rate drop at color name below is utf8 begins =
    let label = label_text rate drop at in
    let behind = color_and_name color name in
    record {
      word = codes ": " ++ (label ++ 32 ∷ behind);
      is_word = at_once (codes "LOC") (codes ": " ++ (label ++ 32 ∷ behind)) (blank_is 58);
      said = label ++ 32 ∷ behind;
      colon = spaced_after (codes ":") (label ++ 32 ∷ behind) (solid_begins label (32 ∷ behind) (label_some rate drop at below) (label_solid rate drop at below));
      label = label;
      behind = behind;
      first = more (solid_blank label (label_solid rate drop at below)) (record { blanks = 32 ∷ []; some = append_some [] 32 []; are_blanks = one_blank; ends = color_begins color name is; is = refl });
      frame = unsigned_abs at;
      names = frame_known rate drop at below;
      at_is = sym (frame_low rate drop at below);
      second = color_first color name is begins;
      is_color = is;
      utf8 = utf8;
    }

-- ---- color corrections

not_closed : (b : ℕ) → nat_lt 41 b ≡ true → (b == 41) ≡ false
not_closed b h = grind (arith, nat_tests)

tall_unclosed : (xs : List ℕ) → tall xs ≡ true → HasNone 41 xs
tall_unclosed [] p = λ k d h. absurd (omega arith)
tall_unclosed (b ∷ xs) p = All-cons (λ x. (x == 41) ≡ false) b xs (not_closed b (and_first _ (tall xs) p)) (tall_unclosed xs (and_second (nat_lt 41 b) _ p))

none_append : (xs ys : List ℕ) → HasNone 41 xs → HasNone 41 ys → HasNone 41 (xs ++ ys)
none_append [] ys p q = q
none_append (b ∷ xs) ys p q = All-cons (λ x. (x == 41) ≡ false) b (xs ++ ys) (All-head (λ x. (x == 41) ≡ false) b xs p) (none_append xs ys (All-tail (λ x. (x == 41) ≡ false) b xs p) q)

none_spaced : (ys : List ℕ) → HasNone 41 ys → HasNone 41 (32 ∷ ys)
none_spaced ys q = All-cons (λ x. (x == 41) ≡ false) 32 ys refl q

numeral_field : (text : List ℕ) → IsNumeral text → IsField text
numeral_field text h = record { some = numeral_some text h; above = numeral_solid text h }

-- three numerals without their parentheses
abbrev inside : Triple → List ℕ
inside t = t.r ++ 32 ∷ (t.g ++ 32 ∷ t.b)

inside_fields : (t : Triple) → AreSpelled t → fields_of (inside t) ≡ t.r ∷ t.g ∷ t.b ∷ []
inside_fields t h =
    field_at t.r (t.g ++ 32 ∷ t.b) (numeral_field t.r h.r) ∙ ap (λ l. t.r ∷ l)
    (field_at t.g t.b (numeral_field t.g h.g) ∙ ap (λ l. t.g ∷ l) (fields_end t.b (numeral_some t.b h.b) (solid_blank t.b (numeral_solid t.b h.b))))

numerals : (t : Triple) → AreSpelled t → AreNumerals (inside t) t
numerals t h = record { fields = inside_fields t h; r = h.r; g = h.g; b = h.b }

triple_parts : (t : Triple) (rest : List ℕ) → triple_text t ++ rest ≡ codes "(" ++ (inside t ++ (codes ")" ++ rest))
triple_parts t rest =
    ap (λ l. 40 ∷ l) (append_assoc t.r (32 ∷ (t.g ++ 32 ∷ (t.b ++ codes ")"))) rest
    ∙ ap (λ l. t.r ++ 32 ∷ l) (append_assoc t.g (32 ∷ (t.b ++ codes ")")) rest ∙ ap (λ l. t.g ++ 32 ∷ l) (append_assoc t.b (codes ")") rest) ∙ sym (append_assoc t.g (32 ∷ t.b) (41 ∷ rest)))
    ∙ sym (append_assoc t.r (32 ∷ (t.g ++ 32 ∷ t.b)) (41 ∷ rest)))

is_triple : (t : Triple) (rest : List ℕ) → AreSpelled t → begins_with_blank rest ≡ false → IsTriple (triple_text t ++ rest) t rest
is_triple t rest h begins = record {
  inner = inside t;
  behind = rest;
  is = triple_parts t rest;
  unclosed = none_append t.r (32 ∷ (t.g ++ 32 ∷ t.b)) (tall_unclosed t.r (numeral_tall t.r h.r))
      (none_spaced (t.g ++ 32 ∷ t.b) (none_append t.g (32 ∷ t.b) (tall_unclosed t.g (numeral_tall t.g h.g)) (none_spaced t.b (tall_unclosed t.b (numeral_tall t.b h.b)))));
  numerals = numerals t h;
  blanks = [];
  are_blanks = no_blanks;
  ends = begins;
  behind_is = refl;
}

correction : (slope offset power : Triple) → AreSpelled slope → AreSpelled offset → AreSpelled power
    → IsCorrection (codes "ASC_SOP: " ++ (triple_text slope ++ (triple_text offset ++ triple_text power))) slope offset power
correction slope offset power a b c =
    let whole = triple_text slope ++ (triple_text offset ++ triple_text power) in
    record {
      word = codes ": " ++ whole;
      is_word = at_once (codes "ASC_SOP") (codes ": " ++ whole) (blank_is 58);
      slopes = whole;
      colon = inl (spaced_after (codes ":") whole (blank_is 40));
      offsets = triple_text offset ++ triple_text power;
      powers = triple_text power;
      is_slope = is_triple slope (triple_text offset ++ triple_text power) a (blank_is 40);
      is_offset = is_triple offset (triple_text power) b (blank_is 40);
      is_power = subst (λ l. IsTriple l power []) (append-nil (triple_text power)) (is_triple power [] c refl);
    }

saturation : (numeral : List ℕ) → IsNumeral numeral → IsSaturation (codes "ASC_SAT: " ++ numeral) numeral
saturation numeral h =
    coloned (codes ": " ++ numeral) (at_once (codes "ASC_SAT") (codes ": " ++ numeral) (blank_is 58)) (spaced_after (codes ":") numeral (solid_alone numeral (numeral_some numeral h) (numeral_solid numeral h))) h

-- ---- notes

star_after : (rest : List ℕ) → begins_with_blank rest ≡ false → IsAfter (codes "*") (42 ∷ 32 ∷ rest) rest
star_after rest e = spaced_after (codes "*") rest e

clean_begins : (name : List ℕ) → name ≡ cleaned name → begins_with_blank name ≡ false
clean_begins name e = tight_front name (subst (λ l. trimmed l ≡ l) (sym e) (cleaned_tight name))

line_notes : (rate : Rate) (drop : Bool) (note : Said) → IsSpelled rate drop note → IsClean note → IsNote rate drop (note_line rate drop note) note
line_notes rate drop (Loc at color name) h clean = record {
  rest = codes "LOC: " ++ (label_text rate drop at ++ 32 ∷ color_and_name color (cleaned name));
  star = star_after _ (blank_is 76);
  is = subst (λ l. IsLocator rate drop (codes "LOC: " ++ (label_text rate drop at ++ 32 ∷ color_and_name color l)) at color name) clean (locator rate drop at color name h.0 h.1 h.2 (clean_begins name clean));
}
line_notes rate drop (Sop slope offset power) h clean = record {
  rest = codes "ASC_SOP: " ++ (triple_text slope ++ (triple_text offset ++ triple_text power));
  star = star_after _ (blank_is 65);
  is = correction slope offset power h.0 h.1 h.2;
}
line_notes rate drop (Sat numeral) h clean = record {
  rest = codes "ASC_SAT: " ++ numeral;
  star = star_after _ (blank_is 65);
  is = saturation numeral h;
}

-- the line of a note says the note
pub note_noted : (rate : Rate) (drop : Bool) (note : Said) → IsSpelled rate drop note → IsClean note → IsNote rate drop (trimmed (note_line rate drop note)) note
note_noted rate drop note h clean = subst (λ l. IsNote rate drop l note) (sym (note_tight rate drop note h)) (line_notes rate drop note h clean)
