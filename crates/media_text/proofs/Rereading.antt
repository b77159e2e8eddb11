-- What is written of rows reads again as those rows.
use Rattle.std.proofs.Common.{◌≡◌, ◌≢◌, ◌≤◌, ◌<◌, ◌^◌, ◌==◌, ◌⊎◌, inl, inr, ℕ, ℤ, pos, Bool, true, false, cond, All, List, [], ◌∷◌, ◌++◌, length, get_or, decimal, codes, Some, option_map, IsUtf8, refl, sym, ap, subst, ◌∙◌, append_assoc, arith}
use Rattle.std.specs.Fmt.{signed_decimal}
use Rattle.std.specs.Str.Parse.{AllDigits, digits_value}
use Rattle.std.proofs.lemmas.Bool.{false≢true}
use Rattle.std.proofs.lemmas.Bool.Decides.{nat_tests}
use Rattle.std.proofs.lemmas.Fmt.{decimal_is_IsNumeral_wide, length-decimal-le_wide}
use Rattle.std.proofs.lemmas.Grind.{common_steps}
use Rattle.std.proofs.lemmas.List.Elements.{All-append, All-cons, All-head, All-nil, All-tail}
use Rattle.std.proofs.lemmas.List.Splits.{slice_split_at, slice_split_none}
use Rattle.std.proofs.lemmas.Str.{IsUtf8-from_ascii, IsUtf8-nil}
use Rattle.limits.specs.Limits.{most_bytes}
use Rattle.tick_time.specs.Numerals.{IsExp, absent, plain as unsigned, raised, lowered, IsNumeral, frac, minus}
use Rattle.tick_time.specs.Rates.{GivesRate}
use Rattle.tick_time.specs.declared.rates.Rate.{Rate}
use Rattle.tick_time.proofs.DigitBytes.{of_digits}
use Rattle.smpte_tc.specs.PointFrames.{IsFrame}
use Rattle.smpte_tc.specs.RateWords.{IsRateWord}
use Rattle.smpte_tc.specs.Words.{is_label_form}
use Rattle.smpte_tc.specs.Frames.{label_frame}
use Rattle.smpte_tc.specs.declared.points.RecordPoint.TheVariants.{Frame, Label}
use Rattle.smpte_tc.proofs.OnePoint.{point_once}
use Rattle.smpte_tc.proofs.RateLemmas.{given_rate}
use Rattle.text_lines.specs.First.{HasNone}
use Rattle.text_lines.specs.Lines.{lines_of, without_return}
use Rattle.text_lines.specs.ReelNames.{IsReelName}
use Rattle.text_lines.proofs.Splitting.{lines_at, lines_last}
use Rattle.schema_write.specs.Texts.{rate_text}
use Rattle.schema_write.proofs.RereadTexts.{rate_reads}
use Rattle.object_law.proofs.Spellings.{fraction_once, long_same, parts_once}
use Rattle.media_rows.specs.Rows.{AreRows}
use Rattle.media_rows.specs.declared.row.MediaRow.{MediaRow}
use Rattle.media_list.specs.Lines.{Fields, IsRow, IsSpan, IsSkipped, nothing, one, field_list, is_comment, tab_fields}
use Rattle.media_list.specs.Lists.{IsMediaList, LinesSay}
use Rattle.media_list.specs.Plain.{IsPlainRow, IsPrinted}
use Rattle.media_list.specs.Words.{IsNumber, start_frame}
use Rattle.media_text.specs.Texts.{media_text, row_line, row_text}

-- ---- printed bytes

weaken : (P Q : ℕ → Type 0) → ((b : ℕ) → P b → Q b) → (bytes : List ℕ) → All P bytes → All Q bytes
weaken P Q f bytes all = λ k d within. f (get_or bytes k d) (all k d within)

-- no printed byte is a control character
none_printed : (byte : ℕ) → byte < 32 → (bytes : List ℕ) → All IsPrinted bytes → HasNone byte bytes
none_printed byte low bytes all =
    weaken IsPrinted (λ b. (b == byte) ≡ false) (λ b h. grind (arith, nat_tests, h.0, low)) bytes all

low_at : (bytes : List ℕ) → All (λ b. b ≤ 126) bytes → (i : ℕ) → get_or bytes i 0 < 128
low_at bytes h i = grind (arith, common_steps, h i 0)

ascii_printed : (bytes : List ℕ) → All IsPrinted bytes → IsUtf8 bytes
ascii_printed bytes all =
    IsUtf8-from_ascii bytes (low_at bytes (λ k d within. (all k d within).1))

digits_printed : (digits : List ℕ) → AllDigits 10 digits → All IsPrinted digits
digits_printed digits h =
    weaken (λ b. (48 ≤ b) × (b ≤ 57)) IsPrinted (λ b r. (omega (arith, r.0), omega (arith, r.1)))
    digits (of_digits digits h)

reel_printed : (reel : List ℕ) → IsReelName reel → All IsPrinted reel
reel_printed reel h =
    weaken (λ b. (33 ≤ b) × (b ≤ 126)) IsPrinted (λ b r. (omega (arith, r.0), r.1)) reel h.prints

minus_printed : (neg : Bool) → All IsPrinted (minus neg)
minus_printed true = All-cons IsPrinted 45 [] (omega arith, omega arith) (All-nil IsPrinted)
minus_printed false = All-nil IsPrinted

frac_printed : (digits : List ℕ) → AllDigits 10 digits → All IsPrinted (frac digits)
frac_printed [] h = All-nil IsPrinted
frac_printed (d ∷ ds) h =
    All-cons IsPrinted 46 (d ∷ ds) (omega arith, omega arith) (digits_printed (d ∷ ds) h)

letter_printed : (letter : ℕ) → (letter ≡ 101) ⊎ (letter ≡ 69) → IsPrinted letter
letter_printed letter (inl e) = (omega (arith, e), omega (arith, e))
letter_printed letter (inr e) = (omega (arith, e), omega (arith, e))

exp_printed : (mark power : List ℕ) (down : Bool) → IsExp mark down power
    → All IsPrinted (mark ++ power)
exp_printed mark power down (absent m d p) = rw (m, p) (All-nil IsPrinted)
exp_printed mark power down (unsigned letter is m d h) =
    rw m (All-cons IsPrinted letter power (letter_printed letter is) (digits_printed power h.all))
exp_printed mark power down (raised letter is m d h) =
    rw m (All-cons IsPrinted letter (43 ∷ power) (letter_printed letter is)
    (All-cons IsPrinted 43 power (omega arith, omega arith) (digits_printed power h.all)))
exp_printed mark power down (lowered letter is m d h) =
    rw m (All-cons IsPrinted letter (45 ∷ power) (letter_printed letter is)
    (All-cons IsPrinted 45 power (omega arith, omega arith) (digits_printed power h.all)))

numeral_printed : (text : List ℕ) → IsNumeral text → All IsPrinted text
numeral_printed text h =
    let n = h.0 in
    let s = h.1 in
    subst (All IsPrinted) (sym s.spelled)
    (All-append IsPrinted (minus n.neg) _ (minus_printed n.neg)
    (All-append IsPrinted n.whole _ (digits_printed n.whole s.int.all)
    (All-append IsPrinted (frac n.decimals) _ (frac_printed n.decimals s.decimals)
    (exp_printed n.mark n.power n.down s.exp))))

-- ---- numbers and rates

-- the text of a rate is that rate
rate_word : (rate : Rate) → IsRateWord (rate_text rate) rate
rate_word rate =
    let r = rate_reads rate in
    let s = r.spelled in
    let d = r.decimal in
    record {
      numeral = (s.number, s.spells);
      short = λ m spells long. s.short (long_same m s.number
          (parts_once (rate_text rate) m s.number spells s.spells) long);
      gives = λ m spells. subst (λ f. GivesRate f rate.num rate.den)
          (fraction_once s.number m (parts_once (rate_text rate) s.number m s.spells spells))
          (given_rate d.neg d.digits d.exp rate.num rate.den s.number s.same r.gives);
    }

number_is : (n : ℕ) → n < 10 ^ 18 → IsNumber (decimal n) × (digits_value 10 (decimal n) ≡ n)
number_is n small =
    let h = decimal_is_IsNumeral_wide n (omega (arith, small)) in (
      record {
        digits = h.0;
        few = length-decimal-le_wide 18 n (omega arith) small (omega (arith, small));
      },
      h.1,
    )

-- a number has no form of a label
no_label : (n : ℕ) → n < 10 ^ 18 → is_label_form (decimal n) ≡ false
no_label n small = by (is_label_form (decimal n)) refl
  where
    by : (t : Bool) → is_label_form (decimal n) ≡ t → is_label_form (decimal n) ≡ false
    by true e =
        let same = point_once (decimal n) (Frame n) (Label (decimal n)) (refl, small) (refl, e) in cc
    by false e = e

start_is : (rate : Rate) (n : ℕ) → n < 10 ^ 18 → start_frame rate (decimal n) ≡ Some (pos n)
start_is rate n small =
    ap (λ t. cond t (option_map pos (label_frame rate false (decimal n)))
    (Some (pos (digits_value 10 (decimal n))))) (no_label n small)
    ∙ ap (λ k. Some (pos k)) (number_is n small).1

-- ---- the line of a row

abbrev fields_of_row : MediaRow → Fields
fields_of_row row = record {
  reel = row.reel;
  rate = rate_text row.rate;
  start = signed_decimal row.start;
  count = signed_decimal row.count;
  url = row.url;
}

frame_printed : (z : ℤ) → IsFrame z → All IsPrinted (signed_decimal z)
frame_printed z h =
    let d = (number_is h.0 h.2).0 in
    subst (λ x. All IsPrinted (signed_decimal x)) (sym h.1)
    (digits_printed (decimal h.0) d.digits.1)

frame_number : (z : ℤ) → IsFrame z → IsNumber (signed_decimal z)
frame_number z h = subst (λ x. IsNumber (signed_decimal x)) (sym h.1) (number_is h.0 h.2).0

-- what stands between tabs
tab_first : (field rest : List ℕ) → All IsPrinted field
    → tab_fields (field ++ 9 ∷ rest) ≡ field ∷ tab_fields rest
unfolding tab_fields
tab_first field rest printed =
    slice_split_at (λ b. b == 9) field 9 rest (none_printed 9 (omega arith) field printed) refl

tab_last : (field : List ℕ) → All IsPrinted field → tab_fields field ≡ field ∷ []
unfolding tab_fields
tab_last field printed =
    slice_split_none (λ b. b == 9) field (none_printed 9 (omega arith) field printed)

-- a byte that is printed, or a tab
abbrev IsWritten : ℕ → Type 0
IsWritten b = (9 ≤ b) × (b ≤ 126) × (b ≢ 10) × (b ≢ 13)

written_field : (field : List ℕ) → All IsPrinted field → All IsWritten field
written_field field all =
    weaken IsPrinted IsWritten (λ b h. (
      omega (arith, h.0),
      h.1,
      λ e. omega (arith, e, h.0),
      λ e. omega (arith, e, h.0),
    )) field all

written_tab : (field rest : List ℕ) → All IsPrinted field → All IsWritten rest
    → All IsWritten (field ++ 9 ∷ rest)
written_tab field rest printed written =
    All-append IsWritten field (9 ∷ rest) (written_field field printed)
    (All-cons IsWritten 9 rest
    (omega arith, omega arith, λ e. omega (arith, e), λ e. omega (arith, e)) written)

-- ---- a plain row

record RowParts (row : MediaRow) : Type 0 where
  reel : All IsPrinted row.reel
  rate : All IsPrinted (rate_text row.rate)
  start : All IsPrinted (signed_decimal row.start)
  count : All IsPrinted (signed_decimal row.count)
  url : All IsPrinted row.url

row_parts : (row : MediaRow) → IsPlainRow row → RowParts row
row_parts row plain = record {
  reel = reel_printed row.reel plain.reel;
  rate = numeral_printed (rate_text row.rate) (rate_word row.rate).numeral;
  start = frame_printed row.start plain.start;
  count = frame_printed row.count plain.count;
  url = plain.url;
}

line_fields : (row : MediaRow) → RowParts row
    → tab_fields (row_line row) ≡ field_list (fields_of_row row)
line_fields row p =
    tab_first row.reel _ p.reel
    ∙ ap (λ l. row.reel ∷ l) (tab_first (rate_text row.rate) _ p.rate
    ∙ ap (λ l. rate_text row.rate ∷ l) (tab_first (signed_decimal row.start) _ p.start
    ∙ ap (λ l. signed_decimal row.start ∷ l) (tab_first (signed_decimal row.count) _ p.count
    ∙ ap (λ l. signed_decimal row.count ∷ l) (tab_last row.url p.url))))

line_written : (row : MediaRow) → RowParts row → All IsWritten (row_line row)
line_written row p =
    written_tab row.reel _ p.reel
    (written_tab (rate_text row.rate) _ p.rate
    (written_tab (signed_decimal row.start) _ p.start
    (written_tab (signed_decimal row.count) _ p.count (written_field row.url p.url))))

written_text : (bytes : List ℕ) → All IsWritten bytes → IsUtf8 bytes
written_text bytes all =
    IsUtf8-from_ascii bytes (low_at bytes (λ k d within. (all k d within).1))

no_test : (b k : ℕ) → b ≢ k → (b == k) ≡ false
no_test b k other = by (b == k) refl
  where
    by : (t : Bool) → (b == k) ≡ t → (b == k) ≡ false
    by true e = absurd (other (grind (arith, nat_tests, e)))
    by false e = e

no_feed : (bytes : List ℕ) → All IsWritten bytes → HasNone 10 bytes
no_feed bytes all = weaken IsWritten (λ b. (b == 10) ≡ false) (λ b h. no_test b 10 h.2) bytes all

no_return : (bytes : List ℕ) → All IsWritten bytes → without_return bytes ≡ bytes
unfolding without_return
no_return [] all = refl
no_return (b ∷ []) all =
    ap (λ t. cond t [] (b ∷ [])) (no_test b 13 (All-head IsWritten b [] all).3)
no_return (b ∷ next ∷ bytes) all =
    ap (λ l. b ∷ l) (no_return (next ∷ bytes) (All-tail IsWritten b (next ∷ bytes) all))

no_comment : (reel rest : List ℕ) → is_comment reel ≡ false → is_comment (reel ++ rest) ≡ false
no_comment [] rest e = absurd (false≢true (sym e))
no_comment (b ∷ bytes) rest e = e

row_span : (row : MediaRow) → IsPlainRow row
    → IsSpan row.rate (fields_of_row row) row.start row.count
row_span row plain =
    let s = plain.start in
    let c = plain.count in
    record {
      starts = subst (λ x. start_frame row.rate (signed_decimal x) ≡ Some x) (sym s.1)
          (start_is row.rate s.0 s.2);
      counts = subst (λ x. x ≡ pos (digits_value 10 (signed_decimal x))) (sym c.1)
          (ap pos (sym (number_is c.0 c.2).1));
      range = plain.range;
    }

-- the line of a plain row says it
row_said : (row : MediaRow) → IsPlainRow row → IsRow (row_line row) row
row_said row plain =
    let p = row_parts row plain in
    record {
      fields = fields_of_row row;
      form = record {
        text = written_text (row_line row) (line_written row p);
        other = no_comment row.reel _ plain.other;
        fields = line_fields row p;
        reel = plain.reel;
        rate = (rate_word row.rate).numeral;
        start = inl (frame_number row.start plain.start);
        count = frame_number row.count plain.count;
      };
      reel = refl;
      url = refl;
      rate = rate_word row.rate;
      span = row_span row plain;
    }

-- ---- all rows

first_line : (row : MediaRow) (rows : List MediaRow) → IsPlainRow row
    → lines_of (row_text row ++ media_text rows) ≡ row_line row ∷ lines_of (media_text rows)
first_line row rows plain =
    let written = line_written row (row_parts row plain) in
    ap lines_of (append_assoc (row_line row) (codes "\n") (media_text rows))
    ∙ lines_at (row_line row) (media_text rows) (no_feed (row_line row) written)
    ∙ ap (λ l. l ∷ lines_of (media_text rows)) (no_return (row_line row) written)

empty_line : IsSkipped []
empty_line = record { text = IsUtf8-nil; comment = refl }

rows_said : (rows : List MediaRow) → All IsPlainRow rows → LinesSay (lines_of (media_text rows)) rows
unfolding media_text
rows_said [] plain =
    subst (λ l. LinesSay l []) (sym (lines_last [] (All-nil (λ b. (b == 10) ≡ false))))
    ([], [], refl, nothing empty_line refl, refl)
rows_said (row ∷ rows) plain =
    let here = All-head IsPlainRow row rows plain in
    subst (λ l. LinesSay l (row ∷ rows)) (sym (first_line row rows here)) (
      row ∷ [],
      rows,
      refl,
      one row (row_said row here) refl,
      rows_said rows (All-tail IsPlainRow row rows plain),
    )

-- the text of plain rows is a media list of them
pub text_is_list : (rows : List MediaRow) → AreRows rows → All IsPlainRow rows
    → length (media_text rows) ≤ most_bytes → IsMediaList (media_text rows) rows
text_is_list rows apart plain small =
    record { small = small; say = rows_said rows plain; apart = apart }
