-- The words of a note.
use Rattle.std.proofs.Common.{◌≡◌, ◌≢◌, ◌<◌, ◌≤◌, ◌+◌, ◌⊎◌, inl, inr, ℕ, Bool, true, false, List, [], ◌∷◌, ◌++◌, drop, take, All, get_or, IsUtf8, sym, ap, subst, ◌∙◌, arith}
use Rattle.std.proofs.lemmas.Grind.{common_steps}
use Rattle.std.proofs.lemmas.List.{append_cancel_left}
use Rattle.std.proofs.lemmas.List.Elements.{All-cons, All-head, All-tail}
use Rattle.std.proofs.lemmas.Str.{IsUtf8-from_ascii}
use Rattle.std.specs.Str.Parse.{AllDigits}
use Rattle.text_lines.specs.First.{is_blank, IsFirstBlank, begins_with_blank}
use Rattle.text_lines.specs.Lines.{trimmed_front}
use Rattle.text_lines.proofs.Trimming.{front_blanks, front_split, front_tight}
use Rattle.tick_time.specs.Numerals.{IsNumeral, IsExp, frac, minus, absent, plain, raised, lowered}
use Rattle.tick_time.proofs.DigitBytes.{of_digits}
use Rattle.note_text.specs.Forms.{IsAfter, IsColor, IsFirstWord, more}

-- what stands after a word and any blanks
pub after_is : (word line behind rest : List ℕ) → line ≡ word ++ behind → rest ≡ trimmed_front behind → IsAfter word line rest
after_is word line behind rest is trims =
    let split = front_split behind in
    let whole : behind ≡ split.blanks ++ rest = split.is ∙ ap (λ l. split.blanks ++ l) (sym trims) in
    record {
      blanks = split.blanks;
      are_blanks = split.are;
      ends = subst (λ l. begins_with_blank l ≡ false) (sym trims) (front_tight behind);
      is = is ∙ ap (λ l. word ++ l) whole;
    }

-- nothing stands after a word that isn't there
pub after_not : (word line : List ℕ) → ((rest : List ℕ) → line ≡ word ++ rest → ⊥) → (other : List ℕ) → IsAfter word line other → ⊥
after_not word line none other p = none (p.blanks ++ other) p.is

-- after a word stands one rest
pub after_unique : (word line a b : List ℕ) → IsAfter word line a → IsAfter word line b → a ≡ b
after_unique word line a b p q =
    let e : p.blanks ++ a ≡ q.blanks ++ b = append_cancel_left word (p.blanks ++ a) (q.blanks ++ b) (sym p.is ∙ q.is) in
    sym (front_blanks p.blanks a p.are_blanks p.ends) ∙ ap trimmed_front e ∙ front_blanks q.blanks b q.are_blanks q.ends

some_blank : (b : ℕ) (bs : List ℕ) → b ∷ bs ≢ []
some_blank b bs = λ e. absurd (cc)

-- the first word of a line with a blank
pub first_word : (line rest : List ℕ) (i : ℕ) → IsFirstBlank line i → rest ≡ trimmed_front (drop (i + 1) line) → IsFirstWord line (take i line) rest
first_word line rest i f trims =
    let split = front_split (drop (i + 1) line) in
    more f.before (record {
      blanks = f.blank ∷ split.blanks;
      some = some_blank f.blank split.blanks;
      are_blanks = All-cons (λ b. is_blank b ≡ true) f.blank split.blanks f.is split.are;
      ends = subst (λ l. begins_with_blank l ≡ false) (sym trims) (front_tight (drop (i + 1) line));
      is = f.split ∙ ap (λ l. take i line ++ f.blank ∷ l) (split.is ∙ ap (λ l. split.blanks ++ l) (sym trims));
    })

letter_low : (color : List ℕ) → All (λ b. (65 ≤ b) × (b ≤ 90)) color → (i : ℕ) → get_or color i 0 < 128
letter_low color h i = grind (arith, common_steps, h i 0)

pub color_is_text : (color : List ℕ) → IsColor color → IsUtf8 color
color_is_text color h = IsUtf8-from_ascii color (letter_low color h.letters)

-- ---- numerals are of low bytes

abbrev AreLow : List ℕ → Type 0
AreLow xs = All (λ b. b < 128) xs

none_low : AreLow []
none_low = λ k d h. absurd (omega arith)

low_cons : (b : ℕ) (xs : List ℕ) → b < 128 → AreLow xs → AreLow (b ∷ xs)
low_cons b xs h rest = All-cons (λ x. x < 128) b xs h rest

low_append : (xs ys : List ℕ) → AreLow xs → AreLow ys → AreLow (xs ++ ys)
low_append [] ys p q = q
low_append (b ∷ xs) ys p q = low_cons b (xs ++ ys) (All-head (λ x. x < 128) b xs p) (low_append xs ys (All-tail (λ x. x < 128) b xs p) q)

range_low : (digits : List ℕ) → All (λ b. (48 ≤ b) × (b ≤ 57)) digits → AreLow digits
range_low [] h = none_low
range_low (b ∷ digits) h =
    let one = (All-head (λ b. (48 ≤ b) × (b ≤ 57)) b digits h).1 in
    low_cons b digits (omega (arith, one)) (range_low digits (All-tail (λ b. (48 ≤ b) × (b ≤ 57)) b digits h))

digits_low : (digits : List ℕ) → AllDigits 10 digits → AreLow digits
digits_low digits h = range_low digits (of_digits digits h)

minus_low : (neg : Bool) → AreLow (minus neg)
minus_low true = low_cons 45 [] (omega arith) none_low
minus_low false = none_low

frac_low : (digits : List ℕ) → AllDigits 10 digits → AreLow (frac digits)
frac_low [] h = none_low
frac_low (d ∷ ds) h = low_cons 46 (d ∷ ds) (omega arith) (digits_low (d ∷ ds) h)

letter_is_low : (letter : ℕ) → (letter ≡ 101) ⊎ (letter ≡ 69) → letter < 128
letter_is_low letter (inl e) = omega (arith, e)
letter_is_low letter (inr e) = omega (arith, e)

mark_low : (mark : List ℕ) (down : Bool) (power : List ℕ) → IsExp mark down power → AreLow mark
mark_low mark down power (absent a b c) = subst AreLow (sym a) none_low
mark_low mark down power (plain letter l e d p) = subst AreLow (sym e) (low_cons letter [] (letter_is_low letter l) none_low)
mark_low mark down power (raised letter l e d p) = subst AreLow (sym e) (low_cons letter (43 ∷ []) (letter_is_low letter l) (low_cons 43 [] (omega arith) none_low))
mark_low mark down power (lowered letter l e d p) = subst AreLow (sym e) (low_cons letter (45 ∷ []) (letter_is_low letter l) (low_cons 45 [] (omega arith) none_low))

power_low : (mark : List ℕ) (down : Bool) (power : List ℕ) → IsExp mark down power → AreLow power
power_low mark down power (absent a b c) = subst AreLow (sym c) none_low
power_low mark down power (plain letter l e d p) = digits_low power p.all
power_low mark down power (raised letter l e d p) = digits_low power p.all
power_low mark down power (lowered letter l e d p) = digits_low power p.all

numeral_low : (text : List ℕ) → IsNumeral text → AreLow text
numeral_low text h =
    let n = h.0 in
    let s = h.1 in
    subst AreLow (sym s.spelled)
    (low_append (minus n.neg) _ (minus_low n.neg) (low_append n.whole _ (digits_low n.whole s.int.all)
    (low_append (frac n.decimals) _ (frac_low n.decimals s.decimals) (low_append n.mark n.power (mark_low n.mark n.down n.power s.exp) (power_low n.mark n.down n.power s.exp)))))

low_at : (text : List ℕ) → AreLow text → (i : ℕ) → get_or text i 0 < 128
low_at text h i = grind (arith, common_steps, h i 0)

pub numeral_is_text : (text : List ℕ) → IsNumeral text → IsUtf8 text
numeral_is_text text h = IsUtf8-from_ascii text (low_at text (numeral_low text h))
