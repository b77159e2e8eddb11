-- Characters of a string that are gathered.
use Rattle.std.proofs.Common.{◌≡◌, ℕ, ◌+◌, ◌-◌, ◌*◌, ◌<◌, ◌≤◌, ◌⊎◌, inl, inr, Bool, true, false, ◌&&◌, List, [], ◌∷◌, ◌++◌, take, drop, length, get_or, refl, sym, ap, ◌∙◌, append_assoc, append-nil, arith, subst, Ok, Option, Some, None}
use Rattle.std.proofs.lemmas.Bool.Decides.{nat_tests}
use Rattle.std.proofs.lemmas.List.{get_or-drop, length-drop, length-take}
use Rattle.std.proofs.lemmas.Str.{encode_ascii}
use Rattle.std.specs.Prelude.{◌==◌, nat_lt, IfSome}
use Rattle.std.specs.Char.{IsScalar, digit_value, encode_utf8}
use Rattle.std.specs.Int.{is_in_range}
use lib.Seq.{take-add}
use lib.Utf8.{scalar_cases}
use Rattle.json_text.specs.Grammar.{escaped, joined, of_digits16}
use Rattle.json_text.specs.declared.state.Digits.TheVariants.{Zero as NoDigit, One, Two, Three}
use Rattle.json_text.specs.State.Opened.{Unclosed}
use Rattle.json_text.specs.declared.state.Role.{Role}
use Rattle.json_text.specs.State.Machine.{state, text, plain, code, coded, escape_goes, high, low, paired, run, run_on, step}
use Rattle.json_text.specs.State.Runs.{AreOpen, IsCode, IsEscape, IsFirstHalf, IsSecondHalf, StandsFor, is_open}
use Rattle.json_text.proofs.Basics.{is_byte, is_below, below_is, least_is, same_is}
use Rattle.json_text.proofs.RunLemmas.{plain_step, run_more, run_skim, take_of_take}

-- ---- bytes and characters

-- no bytes
pub none_meant : (bytes : List ℕ) → StandsFor (take 0 bytes) []
none_meant bytes = record {
  ran = λ limit levels role t. ap (λ x. Ok (state levels (text role x plain))) (sym (append-nil t));
}

-- a character of one byte more
pub byte_more : (bytes made : List ℕ) (i b : ℕ) → i < length bytes → b ≡ get_or bytes i 0
    → is_open b ≡ true → b < 128 → StandsFor (take i bytes) made
    → StandsFor (take (i + 1) bytes) (made ++ (b ∷ []))
byte_more bytes made i b h e open_byte small f = record {
  ran = λ limit levels role t.
      run_more limit (state levels (text role t plain)) (state levels (text role (t ++ made) plain))
      bytes i h (f.ran limit levels role t)
      ∙ ap (step limit levels (text role (t ++ made) plain)) (sym e)
      ∙ plain_step limit levels role (t ++ made) b open_byte small
      ∙ ap (λ x. Ok (state levels (text role x plain))) (append_assoc t made (b ∷ []));
}

-- an escape more
pub escape_more : (bytes rest made : List ℕ) (i n c : ℕ) → rest ≡ drop i bytes
    → IsEscape n c rest → StandsFor (take i bytes) made
    → StandsFor (take (i + n) bytes) (made ++ encode_utf8 c)
escape_more bytes rest made i n c e g f = record {
  ran = λ limit levels role t.
      run_skim limit (state levels (text role t plain))
      (state levels (text role (t ++ made) plain))
      (state levels (text role ((t ++ made) ++ encode_utf8 c) plain)) bytes i n
      (f.ran limit levels role t)
      (ap (λ x. run limit (state levels (text role (t ++ made) plain)) (take n x)) (sym e)
      ∙ g.meant.ran limit levels role (t ++ made))
      ∙ ap (λ x. Ok (state levels (text role x plain))) (append_assoc t made (encode_utf8 c));
}

pub escape_within : (bytes rest : List ℕ) (i n c : ℕ) → i ≤ length bytes → rest ≡ drop i bytes
    → IsEscape n c rest → i + n ≤ length bytes
escape_within bytes rest i n c h e g =
    omega (arith, h, g.within, ap length e, length-drop i bytes)

-- ---- an escape of one character

two_of : (bytes : List ℕ) → 2 ≤ length bytes
    → take 2 bytes ≡ get_or bytes 0 0 ∷ get_or bytes 1 0 ∷ []
two_of [] h = absurd (omega arith)
two_of (a ∷ []) h = absurd (omega arith)
two_of (a ∷ b ∷ bytes) h = refl

escape_run : (limit : ℕ) (levels : List Unclosed) (role : Role) (t : List ℕ) (b c : ℕ)
    → escaped b ≡ Some c
    → run limit (state levels (text role t plain)) (92 ∷ b ∷ [])
    ≡ Ok (state levels (text role (t ++ (c ∷ [])) plain))
escape_run limit levels role t b c e =
    ap (λ o. run_on limit (escape_goes levels role t b o) []) e

pub short_escape : (bytes : List ℕ) (c : ℕ) → 2 ≤ length bytes → get_or bytes 0 0 ≡ 92
    → escaped (get_or bytes 1 0) ≡ Some c → c < 128 → IsEscape 2 c bytes
short_escape bytes c h e f small = record {
  within = h;
  some = omega arith;
  meant = record {
    ran = λ limit levels role t.
        ap (run limit (state levels (text role t plain)))
        (two_of bytes h ∙ ap (λ b. b ∷ get_or bytes 1 0 ∷ []) e)
        ∙ escape_run limit levels role t (get_or bytes 1 0) c f
        ∙ ap (λ x. Ok (state levels (text role (t ++ x) plain))) (sym (encode_ascii c small));
  };
}

-- ---- an escape of four digits

six_of : (bytes : List ℕ) → 6 ≤ length bytes
    → take 6 bytes ≡ get_or bytes 0 0 ∷ get_or bytes 1 0 ∷ get_or bytes 2 0 ∷ get_or bytes 3 0
    ∷ get_or bytes 4 0 ∷ get_or bytes 5 0 ∷ []
six_of [] h = absurd (omega arith)
six_of (a ∷ []) h = absurd (omega arith)
six_of (a ∷ b ∷ []) h = absurd (omega arith)
six_of (a ∷ b ∷ c ∷ []) h = absurd (omega arith)
six_of (a ∷ b ∷ c ∷ d ∷ []) h = absurd (omega arith)
six_of (a ∷ b ∷ c ∷ d ∷ e ∷ []) h = absurd (omega arith)
six_of (a ∷ b ∷ c ∷ d ∷ e ∷ f ∷ bytes) h = refl

-- such digits are no half of a character
no_half : (x y z w n : ℕ) → y < 16 → z < 16 → w < 16
    → n ≡ ((x * 16 + y) * 16 + z) * 16 + w → (n < 55296) ⊎ ((57344 ≤ n) × (n < 1114112))
    → (x == 13 && nat_lt 11 y) ≡ false
no_half x y z w n h k l e s = by (x == 13) (nat_lt 11 y) refl refl s
  where
    by : (p q : Bool) → (x == 13) ≡ p → nat_lt 11 y ≡ q
        → (n < 55296) ⊎ ((57344 ≤ n) × (n < 1114112)) → (p && q) ≡ false
    by false q f g s = refl
    by true false f g s = refl
    by true true f g (inl m) =
        let a : x ≡ 13 = is_byte x 13 f in let b : 11 < y = is_below 11 y g in absurd (omega arith)
    by true true f g (inr m) =
        let a : x ≡ 13 = is_byte x 13 f in
        let b : 57344 ≤ n = m.0 in absurd (omega arith)

not_first : (n : ℕ) → (n < 55296) ⊎ ((57344 ≤ n) × (n < 1114112))
    → is_in_range 0xD800 0xDBFF n ≡ false
not_first n (inl m) = grind (arith, nat_tests)
not_first n (inr m) = let b : 57344 ≤ n = m.0 in grind (arith, nat_tests)

first_digit : (limit : ℕ) (levels : List Unclosed) (role : Role) (t : List ℕ) (a : ℕ)
    → nat_lt (digit_value a) 16 ≡ true
    → step limit levels (text role t (code NoDigit)) a
    ≡ Ok (state levels (text role t (code (One a))))
first_digit limit levels role t a h = rw h refl

second_digit : (limit : ℕ) (levels : List Unclosed) (role : Role) (t : List ℕ) (a b : ℕ)
    → nat_lt (digit_value b) 16 ≡ true → (digit_value a == 13 && nat_lt 11 (digit_value b)) ≡ false
    → step limit levels (text role t (code (One a))) b
    ≡ Ok (state levels (text role t (code (Two a b))))
second_digit limit levels role t a b h k = rw (h, k) refl

third_digit : (limit : ℕ) (levels : List Unclosed) (role : Role) (t : List ℕ) (a b c : ℕ)
    → nat_lt (digit_value c) 16 ≡ true
    → step limit levels (text role t (code (Two a b))) c
    ≡ Ok (state levels (text role t (code (Three a b c))))
third_digit limit levels role t a b c h = rw h refl

coded_as : (levels : List Unclosed) (role : Role) (t : List ℕ) (n : ℕ)
    → is_in_range 0xD800 0xDBFF n ≡ false → IsScalar n
    → coded levels role t n ≡ Ok (state levels (text role (t ++ encode_utf8 n) plain))
coded_as levels role t n h k = rw (h, k) refl

fourth_digit : (limit : ℕ) (levels : List Unclosed) (role : Role) (t : List ℕ) (a b c d : ℕ)
    → nat_lt (digit_value d) 16 ≡ true
    → step limit levels (text role t (code (Three a b c))) d
    ≡ coded levels role t (of_digits16 a b c d)
fourth_digit limit levels role t a b c d h = rw h refl

code_run : (limit : ℕ) (levels : List Unclosed) (role : Role) (t : List ℕ) (a b c d n : ℕ)
    → IsCode a b c d n
    → run limit (state levels (text role t plain)) (92 ∷ 117 ∷ a ∷ b ∷ c ∷ d ∷ [])
    ≡ Ok (state levels (text role (t ++ encode_utf8 n) plain))
code_run limit levels role t a b c d n h =
    let cases = scalar_cases n h.scalar in
    ap (λ x. run_on limit x (b ∷ c ∷ d ∷ []))
    (first_digit limit levels role t a (below_is (digit_value a) 16 h.first))
    ∙ ap (λ x. run_on limit x (c ∷ d ∷ []))
    (second_digit limit levels role t a b (below_is (digit_value b) 16 h.second)
    (no_half (digit_value a) (digit_value b) (digit_value c) (digit_value d) n h.second h.third
    h.fourth h.code cases))
    ∙ ap (λ x. run_on limit x (d ∷ []))
    (third_digit limit levels role t a b c (below_is (digit_value c) 16 h.third))
    ∙ ap (λ x. run_on limit x [])
    (fourth_digit limit levels role t a b c d (below_is (digit_value d) 16 h.fourth)
    ∙ ap (coded levels role t) (sym h.code)
    ∙ coded_as levels role t n (not_first n cases) h.scalar)

pub long_escape : (bytes : List ℕ) (n : ℕ) → 6 ≤ length bytes → get_or bytes 0 0 ≡ 92
    → get_or bytes 1 0 ≡ 117
    → IsCode (get_or bytes 2 0) (get_or bytes 3 0) (get_or bytes 4 0) (get_or bytes 5 0) n
    → IsEscape 6 n bytes
long_escape bytes n h e f g = record {
  within = h;
  some = omega arith;
  meant = record {
    ran = λ limit levels role t.
        ap (run limit (state levels (text role t plain))) (six_of bytes h
        ∙ (λ i. e i ∷ f i ∷ get_or bytes 2 0 ∷ get_or bytes 3 0 ∷ get_or bytes 4 0
        ∷ get_or bytes 5 0 ∷ []))
        ∙ code_run limit levels role t (get_or bytes 2 0) (get_or bytes 3 0) (get_or bytes 4 0)
        (get_or bytes 5 0) n g;
  };
}

-- ---- two escapes of four digits for one character

first_half_in_range : (x y z w n : ℕ) → x ≡ 13 → 8 ≤ y → y < 12 → z < 16 → w < 16
    → n ≡ ((x * 16 + y) * 16 + z) * 16 + w → is_in_range 0xD800 0xDBFF n ≡ true
first_half_in_range x y z w n e l h k m s =
    let low : 55296 ≤ n = omega arith in
    let high : n ≤ 56319 = omega arith in
    grind (arith, nat_tests)

half_goes : (x y : ℕ) → y < 12 → (x == 13 && nat_lt 11 y) ≡ false
half_goes x y h = by (x == 13)
  where
    by : (p : Bool) → (p && nat_lt 11 y) ≡ false
    by true = least_is 11 y (omega (arith, h))
    by false = refl

coded_half : (levels : List Unclosed) (role : Role) (t : List ℕ) (n : ℕ)
    → is_in_range 0xD800 0xDBFF n ≡ true
    → coded levels role t n ≡ Ok (state levels (text role t (high n)))
coded_half levels role t n h = rw h refl

first_half_run : (limit : ℕ) (levels : List Unclosed) (role : Role) (t : List ℕ) (a b c d n : ℕ)
    → IsFirstHalf a b c d n
    → run limit (state levels (text role t plain)) (92 ∷ 117 ∷ a ∷ b ∷ c ∷ d ∷ [])
    ≡ Ok (state levels (text role t (high n)))
first_half_run limit levels role t a b c d n h =
    ap (λ x. run_on limit x (b ∷ c ∷ d ∷ []))
    (first_digit limit levels role t a (below_is (digit_value a) 16 (omega (arith, h.first))))
    ∙ ap (λ x. run_on limit x (c ∷ d ∷ []))
    (second_digit limit levels role t a b
    (below_is (digit_value b) 16 (omega (arith, h.most)))
    (half_goes (digit_value a) (digit_value b) h.most))
    ∙ ap (λ x. run_on limit x (d ∷ []))
    (third_digit limit levels role t a b c (below_is (digit_value c) 16 h.third))
    ∙ ap (λ x. run_on limit x [])
    (fourth_digit limit levels role t a b c d (below_is (digit_value d) 16 h.fourth)
    ∙ ap (coded levels role t) (sym h.code)
    ∙ coded_half levels role t n
    (first_half_in_range (digit_value a) (digit_value b) (digit_value c) (digit_value d) n h.first
    h.least h.most h.third h.fourth h.code))

low_first : (limit : ℕ) (levels : List Unclosed) (role : Role) (t : List ℕ) (n a : ℕ)
    → nat_lt (digit_value a) 16 ≡ true → (digit_value a == 13) ≡ true
    → step limit levels (text role t (low n NoDigit)) a
    ≡ Ok (state levels (text role t (low n (One a))))
low_first limit levels role t n a h k = rw (h, k) refl

low_second : (limit : ℕ) (levels : List Unclosed) (role : Role) (t : List ℕ) (n a b : ℕ)
    → nat_lt (digit_value b) 16 ≡ true → nat_lt 11 (digit_value b) ≡ true
    → step limit levels (text role t (low n (One a))) b
    ≡ Ok (state levels (text role t (low n (Two a b))))
low_second limit levels role t n a b h k = rw (h, k) refl

low_third : (limit : ℕ) (levels : List Unclosed) (role : Role) (t : List ℕ) (n a b c : ℕ)
    → nat_lt (digit_value c) 16 ≡ true
    → step limit levels (text role t (low n (Two a b))) c
    ≡ Ok (state levels (text role t (low n (Three a b c))))
low_third limit levels role t n a b c h = rw h refl

low_fourth : (limit : ℕ) (levels : List Unclosed) (role : Role) (t : List ℕ) (n a b c d : ℕ)
    → nat_lt (digit_value d) 16 ≡ true
    → step limit levels (text role t (low n (Three a b c))) d
    ≡ paired levels role t (joined n (of_digits16 a b c d))
low_fourth limit levels role t n a b c d h = rw h refl

paired_as : (levels : List Unclosed) (role : Role) (t : List ℕ) (m : ℕ) → IsScalar m
    → paired levels role t m ≡ Ok (state levels (text role (t ++ encode_utf8 m) plain))
paired_as levels role t m h = rw h refl

second_half_run : (limit : ℕ) (levels : List Unclosed) (role : Role) (t : List ℕ)
    (n a b c d l : ℕ) → IsSecondHalf a b c d l → IsScalar (joined n l)
    → run limit (state levels (text role t (high n))) (92 ∷ 117 ∷ a ∷ b ∷ c ∷ d ∷ [])
    ≡ Ok (state levels (text role (t ++ encode_utf8 (joined n l)) plain))
second_half_run limit levels role t n a b c d l h k =
    ap (λ x. run_on limit x (b ∷ c ∷ d ∷ []))
    (low_first limit levels role t n a (below_is (digit_value a) 16 (omega (arith, h.first)))
    (same_is (digit_value a) 13 h.first))
    ∙ ap (λ x. run_on limit x (c ∷ d ∷ []))
    (low_second limit levels role t n a b (below_is (digit_value b) 16 h.most)
    (below_is 11 (digit_value b) (omega (arith, h.least))))
    ∙ ap (λ x. run_on limit x (d ∷ []))
    (low_third limit levels role t n a b c (below_is (digit_value c) 16 h.third))
    ∙ ap (λ x. run_on limit x [])
    (low_fourth limit levels role t n a b c d (below_is (digit_value d) 16 h.fourth)
    ∙ ap (λ x. paired levels role t (joined n x)) (sym h.code)
    ∙ paired_as levels role t (joined n l) k)

-- six bytes from six on
six_behind : (bytes : List ℕ) → 12 ≤ length bytes
    → take 6 (drop 6 bytes) ≡ get_or bytes 6 0 ∷ get_or bytes 7 0 ∷ get_or bytes 8 0
    ∷ get_or bytes 9 0 ∷ get_or bytes 10 0 ∷ get_or bytes 11 0 ∷ []
six_behind bytes h =
    six_of (drop 6 bytes) (omega (arith, h, length-drop 6 bytes))
    ∙ (λ i. get_or-drop 6 bytes 0 0 i ∷ get_or-drop 6 bytes 1 0 i ∷ get_or-drop 6 bytes 2 0 i
    ∷ get_or-drop 6 bytes 3 0 i ∷ get_or-drop 6 bytes 4 0 i ∷ get_or-drop 6 bytes 5 0 i ∷ [])

pub pair_escape : (bytes : List ℕ) (n l : ℕ) → 12 ≤ length bytes → get_or bytes 0 0 ≡ 92
    → get_or bytes 1 0 ≡ 117 → get_or bytes 6 0 ≡ 92 → get_or bytes 7 0 ≡ 117
    → IsFirstHalf (get_or bytes 2 0) (get_or bytes 3 0) (get_or bytes 4 0) (get_or bytes 5 0) n
    → IsSecondHalf (get_or bytes 8 0) (get_or bytes 9 0) (get_or bytes 10 0) (get_or bytes 11 0) l
    → IsScalar (joined n l) → IsEscape 12 (joined n l) bytes
pair_escape bytes n l h e f g k first second scalar = record {
  within = h;
  some = omega arith;
  meant = record {
    ran = λ limit levels role t.
        run_skim limit (state levels (text role t plain)) (state levels (text role t (high n)))
        (state levels (text role (t ++ encode_utf8 (joined n l)) plain)) bytes 6 6
        (ap (run limit (state levels (text role t plain))) (six_of bytes (omega (arith, h))
        ∙ (λ i. e i ∷ f i ∷ get_or bytes 2 0 ∷ get_or bytes 3 0 ∷ get_or bytes 4 0
        ∷ get_or bytes 5 0 ∷ []))
        ∙ first_half_run limit levels role t (get_or bytes 2 0) (get_or bytes 3 0)
        (get_or bytes 4 0) (get_or bytes 5 0) n first)
        (ap (run limit (state levels (text role t (high n)))) (six_behind bytes h
        ∙ (λ i. g i ∷ k i ∷ get_or bytes 8 0 ∷ get_or bytes 9 0 ∷ get_or bytes 10 0
        ∷ get_or bytes 11 0 ∷ []))
        ∙ second_half_run limit levels role t n (get_or bytes 8 0) (get_or bytes 9 0)
        (get_or bytes 10 0) (get_or bytes 11 0) l second scalar);
  };
}

-- the same of a count and a character that were found
pub pair_found : (bytes : List ℕ) (n l : ℕ) (found : Option (ℕ × ℕ)) → 12 ≤ length bytes
    → get_or bytes 0 0 ≡ 92 → get_or bytes 1 0 ≡ 117 → get_or bytes 6 0 ≡ 92
    → get_or bytes 7 0 ≡ 117
    → IsFirstHalf (get_or bytes 2 0) (get_or bytes 3 0) (get_or bytes 4 0) (get_or bytes 5 0) n
    → IsSecondHalf (get_or bytes 8 0) (get_or bytes 9 0) (get_or bytes 10 0) (get_or bytes 11 0) l
    → IfSome found (λ f. f.0 ≡ 12) → IfSome found (λ f. f.1 ≡ joined n l)
    → IfSome found (λ f. IsScalar f.1) → IfSome found (λ f. IsEscape f.0 f.1 bytes)
pair_found bytes n l None h e f g k first second count character scalar = tt
pair_found bytes n l (Some x) h e f g k first second count character scalar =
    subst (λ (m : ℕ). IsEscape m x.1 bytes) (sym count)
    (subst (λ (m : ℕ). IsEscape 12 m bytes) (sym character)
    (pair_escape bytes n l h e f g k first second (subst IsScalar character scalar)))

-- ---- blocks of a string

open_append : (xs ys : List ℕ) → AreOpen xs → AreOpen ys → AreOpen (xs ++ ys)
open_append [] ys h k = k
open_append (x ∷ xs) ys h k = (h.0, open_append xs ys h.1 k)

pub open_then : (bytes rest run : List ℕ) (i n : ℕ) → rest ≡ drop i bytes → run ≡ take n rest
    → AreOpen (take i bytes) → AreOpen run → AreOpen (take (i + n) bytes)
open_then bytes rest run i n e f h k =
    let all : AreOpen (take n (drop i bytes)) =
    subst AreOpen (f ∙ ap (take n) e) k in
    subst AreOpen (sym (take-add i n bytes)) (open_append (take i bytes) (take n (drop i bytes)) h all)

pub open_front_of : (bytes run : List ℕ) (n m : ℕ) → run ≡ take m bytes → n ≤ length run
    → AreOpen (take n run) → AreOpen (take n bytes)
open_front_of bytes run n m e l h =
    let within : n ≤ length (take m bytes) = subst (λ (x : List ℕ). n ≤ length x) e l in
    subst AreOpen (take_of_take n m bytes within) (subst (λ (x : List ℕ). AreOpen (take n x)) e h)

-- where as many are open as are looked at
pub all_within : (bytes run : List ℕ) (n m : ℕ) → run ≡ take m bytes → n ≤ length run → m ≤ n
    → m ≤ length bytes
all_within bytes run n m e l h = omega (arith, h, l, ap length e, length-take m bytes)

same_count : (bytes run : List ℕ) (n m : ℕ) → run ≡ take m bytes → n ≤ length run → m ≤ n → n ≡ m
same_count bytes run n m e l h = omega (arith, h, l, ap length e, length-take m bytes)

pub open_all_of : (bytes run : List ℕ) (n m : ℕ) → run ≡ take m bytes → n ≤ length run → m ≤ n
    → AreOpen (take n run) → AreOpen (take m bytes)
open_all_of bytes run n m e l h f = subst (λ (k : ℕ). AreOpen (take k bytes))
    (same_count bytes run n m e l h) (open_front_of bytes run n m e l f)

pub open_rest : (bytes rest : List ℕ) (i : ℕ) → rest ≡ drop i bytes
    → length rest ≡ length bytes - i
open_rest bytes rest i e = ap length e ∙ length-drop i bytes
