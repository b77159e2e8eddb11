-- Names and titles as they are written: UTF-8, without blanks at the ends, and of bytes from the space on.
use Rattle.std.proofs.Common.{◌≡◌, ◌<◌, ◌≤◌, ◌+◌, ◌/◌, ◌⊎◌, inl, inr, ℕ, Bool, true, false, cond, nat_lt, List, [], ◌∷◌, ◌++◌, IsUtf8, All, map, reverse, length, refl, sym, ap, ap₂, subst, ◌∙◌, arith}
use Rattle.std.proofs.lemmas.Bool.Decides.{nat_tests}
use Rattle.std.proofs.lemmas.List.{map-append, reverse-append, reverse-reverse}
use Rattle.std.proofs.lemmas.List.Elements.{All-cons, All-head, All-tail}
use Rattle.std.proofs.Math.Seq.{take-append_seam}
use Rattle.std.proofs.lemmas.Str.{IsUtf8-append, IsUtf8-nil, IsUtf8-past_char, IsUtf8-take, IsCharBoundary-at_seam, IsUtf8-encode, encode_ascii as one}
use lib.Utf8.{encode, encodes, scalars, scalar, next, low_scalar}
use lib.Dec.{T, ltb, ltb→lt}
use Rattle.text_lines.specs.First.{is_blank}
use Rattle.text_lines.specs.Lines.{trimmed_front, trimmed}
use Rattle.text_lines.proofs.Places.{blank_is}
use Rattle.text_lines.proofs.Trimming.{trimmed_tight, all_trimmed}
use Rattle.edl_text.specs.Columns.{is_control, written_byte, cleaned}
use Rattle.edl_law.proofs.SolidTexts.{shown, both, first_of, second_of}

high_plain : (b : ℕ) → 128 ≤ b → written_byte b ≡ b
high_plain b h = let e : is_control b ≡ false = grind (arith, nat_tests) in rw e refl

low_by : (b : ℕ) (t : Bool) → is_control b ≡ t → b < 128 → written_byte b < 128
low_by b true e h = rw e (omega arith)
low_by b false e h = rw e h

two_kept : (a b : ℕ) → 128 ≤ a → 128 ≤ b → map written_byte (a ∷ b ∷ []) ≡ a ∷ b ∷ []
two_kept a b p q = ap₂ (λ x y. x ∷ y ∷ []) (high_plain a p) (high_plain b q)

not_low : (c : ℕ) → 128 ≤ c → (t : Bool) → ltb c 128 ≡ t → ltb c 128 ≡ false
not_low c high true e = let lt : c < 128 = ltb→lt c 128 (subst T (sym e) tt) in absurd (omega arith)
not_low c high false e = e

high_tests : (c : ℕ) (x y z : Bool) → x ≡ false
    → map written_byte (cond x (c ∷ []) (cond y ((192 + c / 64) ∷ next c ∷ []) (cond z ((224 + c / 4096) ∷ next (c / 64) ∷ next c ∷ []) ((240 + c / 262144) ∷ next (c / 4096) ∷ next (c / 64) ∷ next c ∷ []))))
    ≡ cond x (c ∷ []) (cond y ((192 + c / 64) ∷ next c ∷ []) (cond z ((224 + c / 4096) ∷ next (c / 64) ∷ next c ∷ []) ((240 + c / 262144) ∷ next (c / 4096) ∷ next (c / 64) ∷ next c ∷ [])))
high_tests c true y z e = cc
high_tests c false true z e = two_kept (192 + c / 64) (next c) (omega arith) (omega arith)
high_tests c false false true e = ap₂ (λ x l. x ∷ l) (high_plain (224 + c / 4096) (omega arith)) (two_kept (next (c / 64)) (next c) (omega arith) (omega arith))
high_tests c false false false e =
    ap₂ (λ x l. x ∷ l) (high_plain (240 + c / 262144) (omega arith))
    (ap₂ (λ x l. x ∷ l) (high_plain (next (c / 4096)) (omega arith)) (two_kept (next (c / 64)) (next c) (omega arith) (omega arith)))

high_by : (c : ℕ) → 128 ≤ c → map written_byte (encode c) ≡ encode c
unfolding encode
high_by c high = high_tests c (ltb c 128) (ltb c 2048) (ltb c 65536) (not_low c high (ltb c 128) refl)

low_or : (m n : ℕ) → (m < n) ⊎ (n ≤ m)
low_or m n = grind arith

ascii_one : (b : ℕ) → b < 128 → IsUtf8 (b ∷ [])
ascii_one b low = subst IsUtf8 (one b low) (IsUtf8-encode b (low_scalar b (omega (arith, low))))

char_by : (c : ℕ) → scalar c ≡ true → (c < 128) ⊎ (128 ≤ c) → IsUtf8 (map written_byte (encode c))
char_by c s (inl low) = subst (λ l. IsUtf8 (map written_byte l)) (sym (one c low)) (ascii_one (written_byte c) (low_by c (is_control c) refl low))
char_by c s (inr high) = subst IsUtf8 (sym (high_by c high)) (IsUtf8-encode c s)

chars_written : (cs : List ℕ) → scalars cs ≡ true → IsUtf8 (map written_byte (encodes cs))
chars_written [] p = IsUtf8-nil
chars_written (c ∷ cs) p =
    subst IsUtf8 (sym (map-append written_byte (encode c) (encodes cs)))
    (IsUtf8-append _ _ (char_by c (first_of _ (scalars cs) p) (low_or c 128)) (chars_written cs (second_of (scalar c) _ p)))

utf8_written : (text : List ℕ) → IsUtf8 text → IsUtf8 (map written_byte text)
utf8_written text u = subst (λ l. IsUtf8 (map written_byte l)) u.1.1 (chars_written u.0 u.1.0)

blank_low : (b : ℕ) → is_blank b ≡ true → b < 128
blank_low b h = let e = sym (blank_is b) ∙ h in grind (arith, nat_tests, e)

utf8_behind : (b : ℕ) (text : List ℕ) → b < 128 → IsUtf8 (b ∷ text) → IsUtf8 text
utf8_behind b text low u = IsUtf8-past_char (b ∷ text) text b u (ap (λ l. l ++ text) (sym (one b low)))

utf8_before : (text : List ℕ) (b : ℕ) → b < 128 → IsUtf8 (text ++ b ∷ []) → IsUtf8 text
utf8_before text b low u =
    let seam = IsCharBoundary-at_seam (text ++ b ∷ []) text (b ∷ []) refl (ascii_one b low) in
    subst IsUtf8 (take-append_seam text (b ∷ [])) (IsUtf8-take (text ++ b ∷ []) (length text) u seam)

front_by : (b : ℕ) (text : List ℕ) (t : Bool) → is_blank b ≡ t → (IsUtf8 text → IsUtf8 (trimmed_front text)) → IsUtf8 (b ∷ text) → IsUtf8 (trimmed_front (b ∷ text))
unfolding trimmed_front
front_by b text true e rest u = rw e (rest (utf8_behind b text (blank_low b e) u))
front_by b text false e rest u = rw e u

utf8_front : (text : List ℕ) → IsUtf8 text → IsUtf8 (trimmed_front text)
unfolding trimmed_front
utf8_front [] u = u
utf8_front (b ∷ text) u = front_by b text (is_blank b) refl (utf8_front text) u

back_by : (b : ℕ) (text : List ℕ) (t : Bool) → is_blank b ≡ t → (IsUtf8 (reverse text) → IsUtf8 (reverse (trimmed_front text))) → IsUtf8 (reverse (b ∷ text)) → IsUtf8 (reverse (trimmed_front (b ∷ text)))
unfolding trimmed_front
back_by b text true e rest u = rw e (rest (utf8_before (reverse text) b (blank_low b e) (subst IsUtf8 (reverse-append (b ∷ []) text) u)))
back_by b text false e rest u = rw e u

utf8_back : (text : List ℕ) → IsUtf8 (reverse text) → IsUtf8 (reverse (trimmed_front text))
unfolding trimmed_front
utf8_back [] u = u
utf8_back (b ∷ text) u = back_by b text (is_blank b) refl (utf8_back text) u

utf8_trimmed : (text : List ℕ) → IsUtf8 text → IsUtf8 (trimmed text)
utf8_trimmed text u = utf8_back (reverse (trimmed_front text)) (subst IsUtf8 (sym (reverse-reverse (trimmed_front text))) (utf8_front text u))

-- a name or title as it is written is UTF-8
pub cleaned_utf8 : (text : List ℕ) → IsUtf8 text → IsUtf8 (cleaned text)
unfolding cleaned
cleaned_utf8 text u = utf8_trimmed (map written_byte text) (utf8_written text u)

-- no blank stands at its ends
pub cleaned_tight : (text : List ℕ) → trimmed (cleaned text) ≡ cleaned text
unfolding cleaned
cleaned_tight text = trimmed_tight (map written_byte text)

written_shown : (b : ℕ) (t : Bool) → is_control b ≡ t → nat_lt 31 (written_byte b) ≡ true
written_shown b true e = rw e refl
written_shown b false e = rw e (grind (arith, nat_tests))

all_written : (text : List ℕ) → All (λ b. nat_lt 31 b ≡ true) (map written_byte text)
all_written [] = λ k d h. absurd (omega arith)
all_written (b ∷ text) = All-cons (λ x. nat_lt 31 x ≡ true) (written_byte b) (map written_byte text) (written_shown b (is_control b) refl) (all_written text)

shown_all : (text : List ℕ) → All (λ b. nat_lt 31 b ≡ true) text → shown text ≡ true
shown_all [] h = refl
shown_all (b ∷ text) h = both (nat_lt 31 b) (shown text) (All-head (λ x. nat_lt 31 x ≡ true) b text h) (shown_all text (All-tail (λ x. nat_lt 31 x ≡ true) b text h))

-- each byte of it is the space or above
pub cleaned_shown : (text : List ℕ) → shown (cleaned text) ≡ true
unfolding cleaned
cleaned_shown text = shown_all (trimmed (map written_byte text)) (all_trimmed (λ b. nat_lt 31 b ≡ true) (map written_byte text) (all_written text))
