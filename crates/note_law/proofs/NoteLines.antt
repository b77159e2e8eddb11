-- The lines of notes: a reader of lists ignores each, and each is of bytes from the space on.
use Rattle.std.proofs.Common.{◌≡◌, ◌≢◌, ◌<◌, ◌≤◌, ◌&&◌, ◌-◌, ◌⊎◌, inl, inr, ℕ, ℤ, Bool, true, false, nat_lt, List, [], ◌∷◌, ◌++◌, All, codes, length, refl, sym, ap, subst, ◌∙◌, append_assoc, arith}
use Rattle.std.proofs.lemmas.Bool.Decides.{nat_tests}
use Rattle.std.proofs.lemmas.List.Elements.{All-head, All-tail}
use Rattle.tick_time.specs.declared.rates.Rate.{Rate}
use Rattle.tick_time.specs.Numerals.{IsNumeral, IsExp, frac, minus, absent, plain, raised, lowered}
use Rattle.std.specs.Str.Parse.{AllDigits}
use Rattle.edl_law.proofs.LineForms.{one_blank}
use Rattle.tick_time.proofs.DigitBytes.{of_digits}
use Rattle.text_lines.specs.First.{is_blank}
use Rattle.text_lines.specs.Lines.{fields_of, trimmed}
use Rattle.text_lines.proofs.Places.{blank_is}
use Rattle.edl_text.specs.Notes as notes
use Rattle.edl_text.specs.Statements as said
use Rattle.edl_text.specs.Saying as saying
use Rattle.edl_text.specs.Saying.{Says, SaysTight, IsIgnored, first_of}
use Rattle.edl_list.specs.Labelled.{IsBelowDay}
use Rattle.edl_text.specs.Columns.{column, spaces, label_text, cleaned}
use Rattle.edl_text.proofs.NoteTexts.{behind_unique}
use Rattle.edl_law.proofs.SolidTexts.{first_of as and_first, second_of as and_second, line_tight, solid, shown, both, shown_append, shown_solid, shown_spaces}
use Rattle.edl_law.proofs.FieldLemmas.{IsField, field_at, append_some}
use Rattle.edl_law.proofs.LabelLemmas.{label_field}
use Rattle.edl_law.proofs.NameLemmas.{cleaned_shown, cleaned_tight}
use Rattle.edl_law.proofs.LineForms.{head_tight}
use Rattle.note_text.specs.Forms.{IsColor}
use Rattle.note_text.specs.NotedSpelling.{note_line, color_and_name, triple_text}
use Rattle.note_text.specs.declared.notes.Triple.{Triple}
use Rattle.note_text.specs.declared.notes.Said.{Said}
use Rattle.note_text.specs.declared.notes.Said.TheVariants.{Loc, Sop, Sat}
use Rattle.note_law.specs.Law.{AreSpelled, IsSpelled}

-- ---- bytes above the space

letter_above : (b : ℕ) → 65 ≤ b → nat_lt 32 b ≡ true
letter_above b h = grind (arith, nat_tests)

letters_solid : (color : List ℕ) → All (λ b. (65 ≤ b) × (b ≤ 90)) color → solid color ≡ true
letters_solid [] h = refl
letters_solid (b ∷ color) h =
    let one = All-head (λ b. (65 ≤ b) × (b ≤ 90)) b color h in
    both (nat_lt 32 b) (solid color) (letter_above b one.0) (letters_solid color (All-tail (λ b. (65 ≤ b) × (b ≤ 90)) b color h))

-- each byte is above the parenthesis that closes
abbrev pub tall : List ℕ → Bool
tall [] = true
tall (b ∷ bytes) = nat_lt 41 b && tall bytes

tall_append : (xs ys : List ℕ) → tall xs ≡ true → tall ys ≡ true → tall (xs ++ ys) ≡ true
tall_append [] ys p q = q
tall_append (b ∷ xs) ys p q = both (nat_lt 41 b) (tall (xs ++ ys)) (and_first _ (tall xs) p) (tall_append xs ys (and_second (nat_lt 41 b) _ p) q)

digit_above : (b : ℕ) → 48 ≤ b → nat_lt 41 b ≡ true
digit_above b h = grind (arith, nat_tests)

digits_tall : (digits : List ℕ) → All (λ b. (48 ≤ b) × (b ≤ 57)) digits → tall digits ≡ true
digits_tall [] h = refl
digits_tall (b ∷ digits) h =
    let one = All-head (λ b. (48 ≤ b) × (b ≤ 57)) b digits h in
    both (nat_lt 41 b) (tall digits) (digit_above b one.0) (digits_tall digits (All-tail (λ b. (48 ≤ b) × (b ≤ 57)) b digits h))

all_digits : (digits : List ℕ) → AllDigits 10 digits → tall digits ≡ true
all_digits digits h = digits_tall digits (of_digits digits h)

minus_tall : (neg : Bool) → tall (minus neg) ≡ true
minus_tall true = refl
minus_tall false = refl

frac_tall : (digits : List ℕ) → AllDigits 10 digits → tall (frac digits) ≡ true
frac_tall [] h = refl
frac_tall (d ∷ ds) h = all_digits (d ∷ ds) h

letter_tall : (letter : ℕ) → (letter ≡ 101) ⊎ (letter ≡ 69) → nat_lt 41 letter ≡ true
letter_tall letter (inl e) = rw e refl
letter_tall letter (inr e) = rw e refl

mark_tall : (mark : List ℕ) (down : Bool) (power : List ℕ) → IsExp mark down power → tall mark ≡ true
mark_tall mark down power (absent a b c) = rw a refl
mark_tall mark down power (plain letter l e d p) = rw e (both (nat_lt 41 letter) true (letter_tall letter l) refl)
mark_tall mark down power (raised letter l e d p) = rw e (both (nat_lt 41 letter) true (letter_tall letter l) refl)
mark_tall mark down power (lowered letter l e d p) = rw e (both (nat_lt 41 letter) true (letter_tall letter l) refl)

power_tall : (mark : List ℕ) (down : Bool) (power : List ℕ) → IsExp mark down power → tall power ≡ true
power_tall mark down power (absent a b c) = rw c refl
power_tall mark down power (plain letter l e d p) = all_digits power p.all
power_tall mark down power (raised letter l e d p) = all_digits power p.all
power_tall mark down power (lowered letter l e d p) = all_digits power p.all

pub numeral_tall : (text : List ℕ) → IsNumeral text → tall text ≡ true
numeral_tall text h =
    let n = h.0 in
    let s = h.1 in
    subst (λ l. tall l ≡ true) (sym s.spelled)
    (tall_append (minus n.neg) _ (minus_tall n.neg) (tall_append n.whole _ (all_digits n.whole s.int.all)
    (tall_append (frac n.decimals) _ (frac_tall n.decimals s.decimals) (tall_append n.mark n.power (mark_tall n.mark n.down n.power s.exp) (power_tall n.mark n.down n.power s.exp)))))

solid_by : (b : ℕ) → nat_lt 41 b ≡ true → nat_lt 32 b ≡ true
solid_by b h = grind (arith, nat_tests)

tall_solid : (xs : List ℕ) → tall xs ≡ true → solid xs ≡ true
tall_solid [] p = refl
tall_solid (b ∷ xs) p = both (nat_lt 32 b) (solid xs) (solid_by b (and_first _ (tall xs) p)) (tall_solid xs (and_second (nat_lt 41 b) _ p))

pub numeral_solid : (text : List ℕ) → IsNumeral text → solid text ≡ true
numeral_solid text h = tall_solid text (numeral_tall text h)

-- ---- a remark

star_field : IsField (42 ∷ [])
star_field = record { some = append_some [] 42 []; above = refl }

star_fields : (rest : List ℕ) → fields_of (42 ∷ 32 ∷ rest) ≡ (42 ∷ []) ∷ fields_of rest
star_fields rest = field_at (42 ∷ []) rest star_field

pub star_behind : (b : ℕ) (more : List ℕ) → is_blank b ≡ false → notes.IsBehind (codes "*") (42 ∷ 32 ∷ b ∷ more) (b ∷ more)
star_behind b more e = record { blanks = 32 ∷ []; some = append_some [] 32 []; are_blanks = one_blank; ends = e; is = refl }

no_side : (b c : ℕ) (side more text : List ℕ) → is_blank b ≡ false → b ≢ c → notes.IsNote (c ∷ side) (42 ∷ 32 ∷ b ∷ more) text → ⊥
no_side b c side more text solid other n =
    let first : n.first ≡ b ∷ more = behind_unique (codes "*") (42 ∷ 32 ∷ b ∷ more) n.first (b ∷ more) n.star (star_behind b more solid) in
    let e : b ∷ more ≡ (c ∷ side) ++ (n.is_side.blanks ++ n.second) = sym first ∙ n.is_side.is in
    other (let h = e in cc)

no_mode_by : (rest : List ℕ) (drop : Bool) → saying.IsMode (fields_of (42 ∷ 32 ∷ rest)) drop → ⊥
no_mode_by rest true m = let h = sym (star_fields rest) ∙ m in absurd (cc)
no_mode_by rest false (inl m) = let h = sym (star_fields rest) ∙ m in absurd (cc)
no_mode_by rest false (inr m) = let h = sym (star_fields rest) ∙ m in absurd (cc)

no_split_by : (rest : List ℕ) → saying.IsSplit (42 ∷ 32 ∷ rest) → ⊥
no_split_by rest (inl e) = let h = sym (ap first_of (star_fields rest)) ∙ e in absurd (cc)
no_split_by rest (inr (inl e)) = let h = sym (ap first_of (star_fields rest)) ∙ e in absurd (cc)
no_split_by rest (inr (inr e)) = let h = sym (ap first_of (star_fields rest)) ∙ e in absurd (cc)

-- a line of a star, a space and a byte that begins neither the word of another line nor a blank
pub remark_ignored : (b : ℕ) (more : List ℕ) → is_blank b ≡ false → b ≢ 70 → b ≢ 84 → IsIgnored (42 ∷ 32 ∷ b ∷ more)
remark_ignored b more solid no_f no_t = record {
  begins = refl;
  no_title = λ text e. absurd (cc);
  free = record {
    no_mode = no_mode_by (b ∷ more);
    no_speed = λ e. let h = sym (ap first_of (star_fields (b ∷ more))) ∙ e in absurd (cc);
    no_from = λ text n. no_side b 70 (codes "ROM") more text solid no_f n;
    no_to = λ text n. no_side b 84 (codes "O") more text solid no_t n;
  };
  no_split = no_split_by (b ∷ more);
}

-- ---- the lines of notes

pub color_solid : (color : List ℕ) → IsColor color → solid color ≡ true
color_solid color h = letters_solid color h.letters

pub label_solid : (rate : Rate) (drop : Bool) (at : ℤ) → IsBelowDay rate drop at → solid (label_text rate drop at) ≡ true
label_solid rate drop at h = (label_field rate drop at h).above

named_shown : (color name : List ℕ) → solid color ≡ true → shown name ≡ true → shown (color_and_name color name) ≡ true
named_shown color [] p q = shown_solid color p
named_shown color (b ∷ name) p q =
    shown_append (column 7 color) (32 ∷ b ∷ name) (shown_append color (spaces (7 - length color)) (shown_solid color p) (shown_spaces (7 - length color))) q

triple_shown : (t : Triple) → AreSpelled t → shown (triple_text t) ≡ true
triple_shown t h =
    let b = shown_append t.b (codes ")" ++ []) (shown_solid t.b (numeral_solid t.b h.b)) refl in
    let g = shown_append t.g (codes " " ++ (t.b ++ (codes ")" ++ []))) (shown_solid t.g (numeral_solid t.g h.g)) b in
    shown_append t.r (codes " " ++ (t.g ++ (codes " " ++ (t.b ++ (codes ")" ++ []))))) (shown_solid t.r (numeral_solid t.r h.r)) g

pub note_shown : (rate : Rate) (drop : Bool) (said : Said) → IsSpelled rate drop said → shown (note_line rate drop said) ≡ true
note_shown rate drop (Loc at color name) h =
    shown_append (label_text rate drop at) (32 ∷ color_and_name color (cleaned name)) (shown_solid (label_text rate drop at) (label_solid rate drop at h.0)) (named_shown color (cleaned name) (color_solid color h.1) (cleaned_shown name))
note_shown rate drop (Sop slope offset power) h =
    shown_append (triple_text slope) (triple_text offset ++ triple_text power) (triple_shown slope h.0) (shown_append (triple_text offset) (triple_text power) (triple_shown offset h.1) (triple_shown power h.2))
note_shown rate drop (Sat numeral) h = shown_solid numeral (numeral_solid numeral h)

no_whole : (front whole back : List ℕ) → 0 < length whole → front ++ (whole ++ back) ≡ [] → ⊥
no_whole [] [] back some e = absurd (omega (arith, some))
no_whole [] (b ∷ whole) back some e = absurd (cc)
no_whole (b ∷ front) whole back some e = absurd (cc)

pub numeral_some : (text : List ℕ) → IsNumeral text → text ≢ []
numeral_some text h e =
    let s = h.1 in
    no_whole (minus h.0.neg) h.0.whole _ s.int.some (sym s.spelled ∙ e)

-- three numerals end with a parenthesis
abbrev triple_front : Triple → List ℕ
triple_front t = codes "(" ++ (t.r ++ 32 ∷ (t.g ++ 32 ∷ t.b))

triple_ends : (t : Triple) → triple_text t ≡ triple_front t ++ codes ")"
triple_ends t =
    ap (λ l. 40 ∷ l) (ap (λ l. t.r ++ 32 ∷ l) (ap (λ l. t.g ++ l) refl ∙ sym (append_assoc t.g (32 ∷ t.b) (codes ")"))) ∙ sym (append_assoc t.r (32 ∷ (t.g ++ 32 ∷ t.b)) (codes ")")))

sop_ends : (slope offset power : Triple)
    → codes "* ASC_SOP: " ++ (triple_text slope ++ (triple_text offset ++ triple_text power)) ≡ (codes "* ASC_SOP: " ++ (triple_text slope ++ (triple_text offset ++ triple_front power))) ++ codes ")"
sop_ends slope offset power = ap (λ l. codes "* ASC_SOP: " ++ l)
    (ap (λ l. triple_text slope ++ l) (ap (λ l. triple_text offset ++ l) (triple_ends power) ∙ sym (append_assoc (triple_text offset) (triple_front power) (codes ")")))
    ∙ sym (append_assoc (triple_text slope) (triple_text offset ++ triple_front power) (codes ")")))

loc_tight : (label color name text : List ℕ) → IsColor color → text ≡ cleaned name → trimmed (codes "* LOC: " ++ (label ++ 32 ∷ color_and_name color text)) ≡ codes "* LOC: " ++ (label ++ 32 ∷ color_and_name color text)
loc_tight label color name [] is e =
    line_tight (codes "* LOC: " ++ (label ++ 32 ∷ color)) (codes "* LOC: " ++ (label ++ 32 ∷ [])) color (blank_is 42) (ap (λ l. codes "* LOC: " ++ l) (sym (append_assoc label (32 ∷ []) color))) is.some (color_solid color is)
loc_tight label color name (b ∷ text) is e =
    let tight : trimmed (b ∷ text) ≡ b ∷ text = subst (λ l. trimmed l ≡ l) (sym e) (cleaned_tight name) in
    let front = codes "* LOC: " ++ (label ++ 32 ∷ (column 7 color ++ 32 ∷ [])) in
    let same : codes "* LOC: " ++ (label ++ 32 ∷ (column 7 color ++ 32 ∷ b ∷ text)) ≡ front ++ (b ∷ text) =
    ap (λ l. codes "* LOC: " ++ l) (ap (λ l. label ++ 32 ∷ l) (sym (append_assoc (column 7 color) (32 ∷ []) (b ∷ text))) ∙ sym (append_assoc label (32 ∷ (column 7 color ++ 32 ∷ [])) (b ∷ text))) in
    ap trimmed same ∙ head_tight front (b ∷ text) (blank_is 42) (λ none. absurd (cc)) tight ∙ sym same

-- no blank stands at the ends of a note's line
pub note_tight : (rate : Rate) (drop : Bool) (said : Said) → IsSpelled rate drop said → trimmed (note_line rate drop said) ≡ note_line rate drop said
note_tight rate drop (Loc at color name) h = loc_tight (label_text rate drop at) color name (cleaned name) h.1 refl
note_tight rate drop (Sop slope offset power) h =
    line_tight _ (codes "* ASC_SOP: " ++ (triple_text slope ++ (triple_text offset ++ triple_front power))) (codes ")") (blank_is 42) (sop_ends slope offset power) (append_some [] 41 []) refl
note_tight rate drop (Sat numeral) h = line_tight (codes "* ASC_SAT: " ++ numeral) (codes "* ASC_SAT: ") numeral (blank_is 42) refl (numeral_some numeral h) (numeral_solid numeral h)

note_ignored : (rate : Rate) (drop : Bool) (said : Said) → IsIgnored (note_line rate drop said)
note_ignored rate drop (Loc at color name) = remark_ignored 76 _ (blank_is 76) (λ e. omega (arith, e)) (λ e. omega (arith, e))
note_ignored rate drop (Sop slope offset power) = remark_ignored 65 _ (blank_is 65) (λ e. omega (arith, e)) (λ e. omega (arith, e))
note_ignored rate drop (Sat numeral) = remark_ignored 65 _ (blank_is 65) (λ e. omega (arith, e)) (λ e. omega (arith, e))

-- a reader of lists ignores a note
pub note_says : (rate : Rate) (drop : Bool) (note : Said) → IsSpelled rate drop note → Says (note_line rate drop note) said.Nothing
note_says rate drop note h = subst (λ l. SaysTight l said.Nothing) (sym (note_tight rate drop note h)) (inr (note_ignored rate drop note))
