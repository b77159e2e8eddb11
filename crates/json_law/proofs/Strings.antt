-- What is written of a string is the characters of that string.
use Rattle.std.proofs.Common.{◌≡◌, ◌≢◌, ◌==◌, ◌⊎◌, ◌<◌, ◌≤◌, ◌+◌, ◌*◌, ◌/◌, ◌%◌, ℕ, Bool, true, false, List, [], ◌∷◌, ◌++◌, Some, nat_lt, refl, sym, ap, ap₂, subst, ◌∙◌, append_assoc, append-nil, arith, inl, inr, cond, ◌&&◌}
use Rattle.std.proofs.lemmas.Bool.Decides.{nat_tests}
use Rattle.std.specs.Char.{IsScalar, digit_value, digit_char}
use Rattle.std.specs.Str.{IsUtf8}
use Rattle.std.proofs.lemmas.Str.{encode_ascii, digit_value-digit_char}
use lib.Utf8.{scalar, scalars, encodes, encode, low_scalar}
use lib.Dec.{ltb}
use Rattle.json_text.specs.Grammar.{Chars, close, plain, short, code, FourDigits, escaped as escape_of}
use Rattle.json_text.specs.StringTexts.{escape, escaped, code_escape}

below_or : (c d : ℕ) → (c < d) ⊎ (d ≤ c)
below_or c d = by (nat_lt c d) refl where
  by : (t : Bool) → nat_lt c d ≡ t → (c < d) ⊎ (d ≤ c)
  by true e = inl (grind (arith, nat_tests))
  by false e = inr (grind (arith, nat_tests))

-- a fact of every number, from that of one and that of the others
pick : (c d : ℕ) (P : ℕ → Type 0) → P d → (c ≢ d → P c) → P c
pick c d P here others = by (c == d) refl where
  by : (t : Bool) → (c == d) ≡ t → P c
  by true e = let same : c ≡ d = grind (arith, nat_tests) in subst P (sym same) here
  by false e = others (grind (arith, nat_tests))

value_of_code : (c x y : ℕ) → x ≡ c / 16 → y ≡ c % 16 → c ≡ (0 + x) * 16 + y
value_of_code c x y ex ey = omega arith

digit_fits : (d : ℕ) → d < 16 → digit_value (digit_char d) < 16
digit_fits d h = let fits : d < 36 = omega arith in subst (λ k. k < 16) (sym (digit_value-digit_char d fits)) h

-- the four digits of a character below 256
code_digits : (c : ℕ) (rest : List ℕ) → c < 256 → FourDigits (48 ∷ 48 ∷ digit_char (c / 16) ∷ digit_char (c % 16) ∷ rest) c rest
code_digits c rest h =
    let high : c / 16 < 16 = omega arith in
    let low : c % 16 < 16 = omega arith in
    let zero_fits : digit_value 48 < 16 = omega arith in (
      48,
      48,
      digit_char (c / 16),
      digit_char (c % 16),
      zero_fits,
      zero_fits,
      digit_fits (c / 16) high,
      digit_fits (c % 16) low,
      refl,
      value_of_code c (digit_value (digit_char (c / 16))) (digit_value (digit_char (c % 16))) (digit_value-digit_char (c / 16) (omega arith)) (digit_value-digit_char (c % 16) (omega arith)),
    )

-- a character that is written by a letter behind a backslash
letter : (b c : ℕ) (more text rest : List ℕ) → escape_of b ≡ Some c → Chars more text rest → Chars (92 ∷ b ∷ more) (c ∷ text) rest
letter b c more text rest e h = short _ _ _ b c more text refl e refl h

escape-code : (c : ℕ) → c < 32 → c ≢ 8 → c ≢ 12 → c ≢ 10 → c ≢ 13 → c ≢ 9 → escape c ≡ code_escape c
escape-code c low n8 n12 n10 n13 n9 = grind (arith, nat_tests)

escape-same : (c : ℕ) → 32 ≤ c → c ≢ 34 → c ≢ 92 → escape c ≡ c ∷ []
escape-same c high n34 n92 = grind (arith, nat_tests)

-- a control character that is written by its code
by_code : (c : ℕ) (more text rest : List ℕ) → c < 32 → Chars more text rest → Chars (code_escape c ++ more) (c ∷ text) rest
by_code c more text rest low h =
    let fits : c < 128 = omega arith in
    code _ _ _ c (48 ∷ 48 ∷ digit_char (c / 16) ∷ digit_char (c % 16) ∷ more) more text refl (code_digits c more (omega arith)) (low_scalar c (omega arith))
    (sym (ap (λ l. l ++ text) (encode_ascii c fits))) h

-- a character of one byte that stands as it is
as_it_is : (c : ℕ) (more text rest : List ℕ) → c < 128 → 32 ≤ c → c ≢ 34 → c ≢ 92 → Chars more text rest → Chars (c ∷ more) (c ∷ text) rest
as_it_is c more text rest fits high n34 n92 h =
    plain _ _ _ c more text (low_scalar c (omega arith)) high n34 n92 (sym (ap (λ l. l ++ more) (encode_ascii c fits))) (sym (ap (λ l. l ++ text) (encode_ascii c fits))) h

-- a character of one byte
ascii : (c : ℕ) (more text rest : List ℕ) → c < 128 → Chars more text rest → Chars (escape c ++ more) (c ∷ text) rest
ascii c more text rest fits h =
    let P : ℕ → Type 0 = λ d. Chars (escape d ++ more) (d ∷ text) rest in
    pick c 34 P (letter 34 34 more text rest refl h) (λ n34.
    pick c 92 P (letter 92 92 more text rest refl h) (λ n92.
    pick c 8 P (letter 98 8 more text rest refl h) (λ n8.
    pick c 12 P (letter 102 12 more text rest refl h) (λ n12.
    pick c 10 P (letter 110 10 more text rest refl h) (λ n10.
    pick c 13 P (letter 114 13 more text rest refl h) (λ n13.
    pick c 9 P (letter 116 9 more text rest refl h) (λ n9.
    elim (below_or c 32) [
      | inl low ↦ subst (λ l. Chars (l ++ more) (c ∷ text) rest) (sym (escape-code c low n8 n12 n10 n13 n9)) (by_code c more text rest low h)
      | inr high ↦ subst (λ l. Chars (l ++ more) (c ∷ text) rest) (sym (escape-same c high n34 n92)) (as_it_is c more text rest fits high n34 n92 h)
    ])))))))

-- no byte is ASCII
abbrev AreHigh : List ℕ → Type 0
AreHigh [] = Unit {0}
AreHigh (b ∷ bytes) = (128 ≤ b) × AreHigh bytes

escaped-AreHigh : (bytes : List ℕ) → AreHigh bytes → escaped bytes ≡ bytes
escaped-AreHigh [] h = refl
escaped-AreHigh (b ∷ bytes) h =
    let high : 128 ≤ b = h.0 in
    ap₂ (λ x y. x ++ y) (escape-same b (omega arith) (omega arith) (omega arith)) (escaped-AreHigh bytes h.1)

AreHigh-cond : (t : Bool) (xs ys : List ℕ) → AreHigh xs → AreHigh ys → AreHigh (cond t xs ys)
AreHigh-cond true xs ys hx hy = hx
AreHigh-cond false xs ys hx hy = hy

-- the bytes of a character of more than one
AreHigh-encode : (c : ℕ) → 128 ≤ c → AreHigh (encode c)
unfolding encode
AreHigh-encode c h =
    AreHigh-cond (ltb c 128) _ _ (h, tt)
    (AreHigh-cond (ltb c 2048) _ _ (omega arith, (omega arith, tt))
    (AreHigh-cond (ltb c 65536) _ _ (omega arith, (omega arith, (omega arith, tt))) (omega arith, (omega arith, (omega arith, (omega arith, tt))))))

one_char : (c : ℕ) (more text rest : List ℕ) → IsScalar c → Chars more text rest → Chars (escaped (encode c) ++ more) (encode c ++ text) rest
one_char c more text rest s h = elim (below_or c 128) [
  | inl low ↦ subst (λ l. Chars (escaped l ++ more) (l ++ text) rest) (sym (encode_ascii c low)) (subst (λ l. Chars (l ++ more) (c ∷ text) rest) (sym (append-nil (escape c))) (ascii c more text rest low h))
  | inr high ↦ subst (λ l. Chars (l ++ more) (encode c ++ text) rest) (sym (escaped-AreHigh (encode c) (AreHigh-encode c high)))
      (plain _ _ _ c more text s (omega (arith, high)) (omega (arith, high)) (omega (arith, high)) refl refl h)
]

escaped-append : (xs ys : List ℕ) → escaped (xs ++ ys) ≡ escaped xs ++ escaped ys
escaped-append [] ys = refl
escaped-append (x ∷ xs) ys = ap (λ l. escape x ++ l) (escaped-append xs ys) ∙ sym (append_assoc (escape x) (escaped xs) (escaped ys))

both_true : (p q : Bool) → (p && q) ≡ true → (p ≡ true) × (q ≡ true)
both_true true q h = (refl, h)
both_true false q h = absurd (cc)

all_chars : (cs rest : List ℕ) → scalars cs ≡ true → Chars (escaped (encodes cs) ++ 34 ∷ rest) (encodes cs) rest
all_chars [] rest h = close _ _ _ refl refl
all_chars (c ∷ cs) rest h =
    let both = both_true (scalar c) (scalars cs) h in
    rw (escaped-append (encode c) (encodes cs), append_assoc (escaped (encode c)) (escaped (encodes cs)) (34 ∷ rest))
    (one_char c (escaped (encodes cs) ++ 34 ∷ rest) (encodes cs) rest both.0 (all_chars cs rest both.1))

-- what is written of a text stands for that text
pub Chars-escaped : (text rest : List ℕ) → IsUtf8 text → Chars (escaped text ++ 34 ∷ rest) text rest
Chars-escaped text rest h = subst (λ l. Chars (escaped l ++ 34 ∷ rest) l rest) h.1.1 (all_chars h.0 rest h.1.0)
