-- The states that a text leads to stay such states, and each of them can be finished.
use Rattle.std.proofs.Common.{◌≡◌, ℕ, ◌<◌, ◌≤◌, List, [], ◌∷◌, ◌++◌, length, Option, Some, None, Result, Ok, Err, Bool, true, false, refl, sym, ◌∙◌, append_assoc, arith, subst, ◌&&◌}
use Rattle.std.proofs.lemmas.Bool.Decides.{nat_tests}
use Rattle.std.proofs.lemmas.Str.{IsUtf8-nil, IsUtf8-append, IsUtf8-encode, encode_ascii}
use Rattle.std.specs.Prelude.{◌==◌, nat_lt}
use Rattle.std.specs.Char.{digit_value, encode_utf8, is_ascii_digit}
use Rattle.std.specs.Int.{is_in_range}
use Rattle.std.specs.Str.{IsUtf8, is_utf8}
use lib.Utf8.{scalar, low_scalar}
use Rattle.sequences.specs.Pairs.{merged}
use Rattle.json_value.specs.declared.Json.{Json}
use Rattle.json_value.specs.declared.Json.TheVariants.{Null, Bool as JsonOfBool, Num, Str, List as JsonOfList, Map as JsonOfMap}
use Rattle.json_text.specs.Grammar.{is_whitespace, escaped, IsDigit16, of_digits16, IsHigh, joined}
use Rattle.json_text.specs.State.Machine.{StringPlace, plain, escape, code, high, slash, low, tail, Hand, value, first_item, first_name, next_name, colon, behind, done, word, number, text, MachineState, state, placed, skipped, tails, refused, refused_by, opened, begin, behind_in, at_end, behind_placed, name_begins, in_word, next_place, ends, number_goes, in_number, text_ends, text_goes, wide, in_plain, wanted, escape_goes, in_escape, paired, coded, digit_of_code, in_code, digit_of_low, in_low, behind_tail, in_tail, in_text, step}
use Rattle.json_text.specs.declared.state.Stop.{Stop}
use Rattle.json_text.specs.declared.state.Stop.TheVariants.{Syntax, Utf8, Depth}
use Rattle.json_text.specs.declared.state.Digits.{Digits}
use Rattle.json_text.specs.declared.state.Digits.TheVariants.{Zero as NoDigit, One, Two, Three}
use Rattle.json_text.specs.declared.state.Place.{Place}
use Rattle.json_text.specs.declared.state.Place.TheVariants.{Minus, Nought, Whole}
use Rattle.json_text.specs.declared.state.Role.{Role}
use Rattle.json_text.specs.declared.state.Role.TheVariants.{Name, Content}
use Rattle.json_text.specs.State.Opened.{Unclosed}
use Rattle.json_text.specs.State.Opened.{list as LevelOfList, map as LevelOfMap}
use Rattle.json_text.proofs.Basics.{is_byte, is_below, is_least, same_is, chosen}
use Rattle.json_text.proofs.Utf8Lemmas.{Within, of_wide}
use Rattle.json_text.proofs.NumberLemmas.{NotNumber, no_place}
use Rattle.json_text.proofs.Finishes.{IsState, IsPart, IsRole, IsCode, IsLowCode, AreRanges, InMap}

-- where the step goes on, it comes to a state that a text leads to
pub record Sound (r : Result MachineState Stop) : Type 0 where
  pub is : (s : MachineState) → r ≡ Ok s → IsState s.levels s.hand

went : (s : MachineState) → IsState s.levels s.hand → Sound (Ok s)
went s h = record { is = λ t e. let f : s ≡ t = cc e in subst (λ x. IsState x.levels x.hand) f h }

stopped : (k : Stop) → Sound (Err k)
stopped k = record { is = λ t e. cc e }

-- ---- texts
ascii_more : (t : List ℕ) (b : ℕ) → IsUtf8 t → b < 128 → IsUtf8 (t ++ (b ∷ []))
ascii_more t b u h = IsUtf8-append t (b ∷ []) u (subst IsUtf8 (encode_ascii b h) (IsUtf8-encode b (low_scalar b (omega arith))))

wide_more : (t : List ℕ) (b : ℕ) (r : ℕ × ℕ) (rs : List (ℕ × ℕ)) (w : List ℕ) → IsUtf8 t → tails b ≡ r ∷ rs → Within (r ∷ rs) w → IsUtf8 ((t ++ (b ∷ [])) ++ w)
wide_more t b r rs w u e k =
    let o = of_wide b r rs w e k in
    subst IsUtf8 (sym (append_assoc t (b ∷ []) w)) (IsUtf8-append t (b ∷ w) u (subst IsUtf8 o.3 (IsUtf8-encode o.0 o.1)))

pub record Ranged (rs : List (ℕ × ℕ)) : Type 0 where
  pub are : AreRanges rs

pub ranges_of : (b : ℕ) → Ranged (tails b)
ranges_of b =
    chosen Ranged (nat_lt b 0xC2) (λ e. record { are = tt }) (λ e.
    chosen Ranged (nat_lt b 0xE0) (λ e. record { are = ((omega arith, omega arith), tt) }) (λ e.
    chosen Ranged (b == 0xE0) (λ e. record { are = ((omega arith, omega arith), ((omega arith, omega arith), tt)) }) (λ e.
    chosen Ranged (b == 0xED) (λ e. record { are = ((omega arith, omega arith), ((omega arith, omega arith), tt)) }) (λ e.
    chosen Ranged (nat_lt b 0xF0) (λ e. record { are = ((omega arith, omega arith), ((omega arith, omega arith), tt)) }) (λ e.
    chosen Ranged (b == 0xF0) (λ e. record { are = ((omega arith, omega arith), ((omega arith, omega arith), ((omega arith, omega arith), tt))) }) (λ e.
    chosen Ranged (nat_lt b 0xF4) (λ e. record { are = ((omega arith, omega arith), ((omega arith, omega arith), ((omega arith, omega arith), tt))) }) (λ e.
    chosen Ranged (b == 0xF4) (λ e. record { are = ((omega arith, omega arith), ((omega arith, omega arith), ((omega arith, omega arith), tt))) }) (λ e. record { are = tt }))))))))

record IsShort (o : Option ℕ) : Type 0 where
  is : (c : ℕ) → o ≡ Some c → c < 128

short : (d : ℕ) → d < 128 → IsShort (Some d)
short d h = record { is = λ c e. let f : d ≡ c = cc e in omega arith }

escaped_short : (b : ℕ) → IsShort (escaped b)
escaped_short b =
    chosen IsShort (b == 34) (λ e. short 34 (omega arith)) (λ e.
    chosen IsShort (b == 92) (λ e. short 92 (omega arith)) (λ e.
    chosen IsShort (b == 47) (λ e. short 47 (omega arith)) (λ e.
    chosen IsShort (b == 98) (λ e. short 8 (omega arith)) (λ e.
    chosen IsShort (b == 102) (λ e. short 12 (omega arith)) (λ e.
    chosen IsShort (b == 110) (λ e. short 10 (omega arith)) (λ e.
    chosen IsShort (b == 114) (λ e. short 13 (omega arith)) (λ e.
    chosen IsShort (b == 116) (λ e. short 9 (omega arith)) (λ e. record { is = λ c k. cc k }))))))))

-- ---- steps
sound_placed : (levels : List Unclosed) (x : Json) → Sound (Ok (placed levels x))
sound_placed [] x = went _ tt
sound_placed (LevelOfList xs ∷ ls) x = went _ tt
sound_placed (LevelOfMap ps name ∷ ls) x = went _ tt

sound_skipped : (levels : List Unclosed) (stay : Hand) (b : ℕ) → IsState levels stay → Sound (skipped levels stay b)
sound_skipped levels stay b h = chosen Sound (is_whitespace b) (λ e. went (state levels stay) h) (λ e. stopped Syntax)

sound_refused : (b : ℕ) → Sound (refused b)
sound_refused b = chosen Sound (nat_lt b 128) (λ e. stopped Syntax) (λ e. by (tails b))
  where
    by : (rs : List (ℕ × ℕ)) → Sound (refused_by rs)
    by [] = stopped Utf8
    by (r ∷ rs) = stopped Syntax

one_ascii : (b : ℕ) → b < 128 → IsUtf8 (b ∷ [])
one_ascii b h = ascii_more [] b IsUtf8-nil h

sound_begin : (limit : ℕ) (levels : List Unclosed) (stay : Hand) (b : ℕ) → IsState levels stay → Sound (begin limit levels stay b)
sound_begin limit levels stay b h =
    chosen Sound (b == 34) (λ e. went (state levels (text Content [] plain)) (tt, IsUtf8-nil)) (λ e.
    chosen Sound (b == 91) (λ e. opens (LevelOfList []) first_item tt) (λ e.
    chosen Sound (b == 123) (λ e. opens (LevelOfMap [] []) first_name tt) (λ e.
    chosen Sound (b == 110) (λ e. went (state levels (word Null (117 ∷ 108 ∷ 108 ∷ []))) (omega arith, omega arith, (omega arith, omega arith, (omega arith, omega arith, tt)))) (λ e.
    chosen Sound (b == 116) (λ e. went (state levels (word (JsonOfBool true) (114 ∷ 117 ∷ 101 ∷ []))) (omega arith, omega arith, (omega arith, omega arith, (omega arith, omega arith, tt)))) (λ e.
    chosen Sound (b == 102) (λ e. went (state levels (word (JsonOfBool false) (97 ∷ 108 ∷ 115 ∷ 101 ∷ []))) (omega arith, omega arith, (omega arith, omega arith, (omega arith, omega arith, (omega arith, omega arith, tt))))) (λ e.
    chosen Sound (b == 45) (λ e. let n = is_byte b 45 e in went (state levels (number (b ∷ []) Minus)) (one_ascii b (omega arith))) (λ e.
    chosen Sound (b == 48) (λ e. let n = is_byte b 48 e in went (state levels (number (b ∷ []) Nought)) (one_ascii b (omega arith))) (λ e.
    chosen Sound (is_ascii_digit b) (λ e. went (state levels (number (b ∷ []) Whole)) (one_ascii b (digit_low e))) (λ e. sound_skipped levels stay b h)))))))))
  where
    opens : (level : Unclosed) (hand : Hand) → IsState (level ∷ levels) hand → Sound (opened limit levels level hand)
    opens level hand k = chosen Sound (nat_lt (length levels) limit) (λ e. went (state (level ∷ levels) hand) k) (λ e. stopped Depth)

    digit_low : is_ascii_digit b ≡ true → b < 128
    digit_low e = grind (arith, nat_tests)

sound_behind : (levels : List Unclosed) (b : ℕ) → Sound (behind_in levels b)
sound_behind [] b = stopped Syntax
sound_behind (LevelOfList xs ∷ ls) b =
    chosen Sound (b == 44) (λ e. went _ tt) (λ e. chosen Sound (b == 93) (λ e. sound_placed ls (JsonOfList xs)) (λ e. chosen Sound (is_whitespace b) (λ e. went _ tt) (λ e. stopped Syntax)))
sound_behind (LevelOfMap ps name ∷ ls) b =
    chosen Sound (b == 44) (λ e. went _ tt) (λ e. chosen Sound (b == 125) (λ e. sound_placed ls (JsonOfMap (merged ps))) (λ e. chosen Sound (is_whitespace b) (λ e. went _ tt) (λ e. stopped Syntax)))

sound_end : (levels : List Unclosed) (x : Json) (b : ℕ) → Sound (at_end levels x b)
sound_end [] x b = sound_skipped [] (done x) b tt
sound_end (l ∷ ls) x b = stopped Syntax

sound_follow : (levels : List Unclosed) (x : Json) (b : ℕ) → Sound (behind_placed levels x b)
sound_follow [] x b = sound_end [] x b
sound_follow (LevelOfList xs ∷ ls) x b = sound_behind (LevelOfList (xs ++ (x ∷ [])) ∷ ls) b
sound_follow (LevelOfMap ps name ∷ ls) x b = sound_behind (LevelOfMap (ps ++ ((name, x) ∷ [])) [] ∷ ls) b

high_number : (b : ℕ) → 128 ≤ b → NotNumber b
high_number b h = (grind (arith, nat_tests), grind (arith, nat_tests), grind (arith, nat_tests), grind (arith, nat_tests), grind (arith, nat_tests))

place_low : (place next : Place) (b : ℕ) → next_place place b ≡ Some next → b < 128
place_low place next b e = by (nat_lt b 128) refl
  where
    by : (p : Bool) → nat_lt b 128 ≡ p → b < 128
    by true f = is_below b 128 f
    by false f = let g : None ≡ Some next = sym (no_place place b (high_number b (is_least b 128 f))) ∙ e in cc g

sound_number : (levels : List Unclosed) (t : List ℕ) (place : Place) (b : ℕ) → IsUtf8 t → Sound (in_number levels t place b)
sound_number levels t place b u = by (next_place place b) refl
  where
    by : (o : Option Place) → next_place place b ≡ o → Sound (number_goes levels t place b o)
    by (Some next) e = went _ (ascii_more t b u (place_low place next b e))
    by None e = chosen Sound (ends place) (λ e. chosen Sound (is_utf8 t) (λ e. sound_follow levels (Num t) b) (λ e. stopped Syntax)) (λ e. stopped Syntax)

sound_ends : (levels : List Unclosed) (role : Role) (t : List ℕ) → Sound (text_ends levels role t)
sound_ends [] Content t = chosen Sound (is_utf8 t) (λ e. sound_placed [] (Str t)) (λ e. stopped Utf8)
sound_ends (LevelOfList xs ∷ ls) Content t = chosen Sound (is_utf8 t) (λ e. sound_placed (LevelOfList xs ∷ ls) (Str t)) (λ e. stopped Utf8)
sound_ends (LevelOfMap ps name ∷ ls) Content t = chosen Sound (is_utf8 t) (λ e. sound_placed (LevelOfMap ps name ∷ ls) (Str t)) (λ e. stopped Utf8)
sound_ends [] Name t = stopped Syntax
sound_ends (LevelOfList xs ∷ ls) Name t = stopped Syntax
sound_ends (LevelOfMap ps name ∷ ls) Name t = chosen Sound (is_utf8 t) (λ e. went _ tt) (λ e. stopped Utf8)

module _ (levels : List Unclosed) (role : Role) (t : List ℕ) (r : IsRole levels role) where
  goes : (u : List ℕ) (part : StringPlace) → IsPart part u → Sound (text_goes levels role u part)
  goes u part h = went (state levels (text role u part)) (r, h)

  sound_wide : (b : ℕ) (rs : List (ℕ × ℕ)) → IsUtf8 t → tails b ≡ rs → Sound (wide levels role (t ++ (b ∷ [])) rs)
  sound_wide b [] u e = stopped Utf8
  sound_wide b (q ∷ rs) u e = goes (t ++ (b ∷ [])) (tail (q ∷ rs)) (subst AreRanges e (ranges_of b).are, λ w k. wide_more t b q rs w u e k)

  sound_plain : (b : ℕ) → IsUtf8 t → Sound (in_plain levels role t b)
  sound_plain b u =
      chosen Sound (b == 34) (λ e. sound_ends levels role t) (λ e.
      chosen Sound (b == 92) (λ e. goes t escape u) (λ e.
      chosen Sound (nat_lt b 32) (λ e. stopped Syntax) (λ e.
      chosen Sound (nat_lt b 128) (λ e. goes (t ++ (b ∷ [])) plain (ascii_more t b u (is_below b 128 e))) (λ e. sound_wide b (tails b) u refl))))

  sound_wanted : (w : ℕ) (part : StringPlace) (b : ℕ) → IsPart part t → Sound (wanted levels w (text role t part) b)
  sound_wanted w part b h = chosen Sound (b == w) (λ e. goes t part h) (λ e. sound_refused b)

  sound_escape : (b : ℕ) → IsUtf8 t → Sound (in_escape levels role t b)
  sound_escape b u = by (escaped b) refl
    where
      by : (o : Option ℕ) → escaped b ≡ o → Sound (escape_goes levels role t b o)
      by (Some c) e = goes (t ++ (c ∷ [])) plain (ascii_more t c u ((escaped_short b).is c e))
      by None e = sound_wanted 117 (code NoDigit) b (u, tt)

  sound_paired : (c : ℕ) → IsUtf8 t → Sound (paired levels role t c)
  sound_paired c u = chosen Sound (scalar c) (λ e. goes (t ++ encode_utf8 c) plain (IsUtf8-append t (encode_utf8 c) u (IsUtf8-encode c e))) (λ e. stopped Syntax)

  sound_coded : (c : ℕ) → IsUtf8 t → Sound (coded levels role t c)
  sound_coded c u = chosen Sound (is_in_range 0xD800 0xDBFF c) (λ e. goes t (high c) (u, (grind (arith, nat_tests), grind (arith, nat_tests)))) (λ e. sound_paired c u)

  second : (x y : ℕ) → (x == 13 && nat_lt 11 y) ≡ false → x ≡ 13 → y < 12
  second x y e f = let p : (x == 13) ≡ true = same_is x 13 f in by (nat_lt 11 y) refl (rw p at e)
    where
      by : (q : Bool) → nat_lt 11 y ≡ q → (true && q) ≡ false → y < 12
      by true g h = cc h
      by false g h = let k = is_least 11 y g in omega arith

  sound_code : (digits : Digits) (b : ℕ) → IsUtf8 t → IsCode digits → Sound (in_code levels role t digits b)
  sound_code digits b u h = chosen Sound (nat_lt (digit_value b) 16) (λ e. by digits h (is_below _ _ e)) (λ e. sound_refused b)
    where
      by : (ds : Digits) → IsCode ds → IsDigit16 b → Sound (digit_of_code levels role t ds b)
      by NoDigit h d = goes t (code (One b)) (u, d)
      by (One a) h d = chosen Sound (digit_value a == 13 && nat_lt 11 (digit_value b)) (λ e. stopped Syntax) (λ e. goes t (code (Two a b)) (u, (h, d, second (digit_value a) (digit_value b) e)))
      by (Two a c) h d = goes t (code (Three a c b)) (u, (h.0, h.1, h.2, d))
      by (Three a c f) h d = sound_coded (of_digits16 a c f b) u

  sound_low : (half : ℕ) (digits : Digits) (b : ℕ) → IsUtf8 t → IsHigh half → IsLowCode digits → Sound (in_low levels role t half digits b)
  sound_low half digits b u hi h = chosen Sound (nat_lt (digit_value b) 16) (λ e. by digits h (is_below _ _ e)) (λ e. sound_refused b)
    where
      by : (ds : Digits) → IsLowCode ds → IsDigit16 b → Sound (digit_of_low levels role t half ds b)
      by NoDigit h d = chosen Sound (digit_value b == 13) (λ e. goes t (low half (One b)) (u, hi, is_byte _ _ e)) (λ e. stopped Syntax)
      by (One a) h d = chosen Sound (nat_lt 11 (digit_value b)) (λ e. goes t (low half (Two a b)) (u, hi, (h, d, is_below _ _ e))) (λ e. stopped Syntax)
      by (Two a c) h d = goes t (low half (Three a c b)) (u, hi, (h.0, h.1, h.2, d))
      by (Three a c f) h d = sound_paired (joined half (of_digits16 a c f b)) u

  sound_tail : (q : ℕ × ℕ) (rs : List (ℕ × ℕ)) (b : ℕ) → IsPart (tail (q ∷ rs)) t → Sound (in_tail levels role t (q ∷ rs) b)
  sound_tail q rs b h = chosen Sound (is_in_range q.0 q.1 b) (λ e. by rs h e) (λ e. stopped Utf8)
    where
      by : (qs : List (ℕ × ℕ)) → IsPart (tail (q ∷ qs)) t → is_in_range q.0 q.1 b ≡ true → Sound (text_goes levels role (t ++ (b ∷ [])) (behind_tail qs))
      by [] h e = goes (t ++ (b ∷ [])) plain (h.1 (b ∷ []) (e, tt))
      by (p ∷ qs) h e = goes (t ++ (b ∷ [])) (tail (p ∷ qs)) (h.0.1, λ w k. subst IsUtf8 (sym (append_assoc t (b ∷ []) w)) (h.1 (b ∷ w) (e, k)))

  sound_text : (part : StringPlace) (b : ℕ) → IsPart part t → Sound (in_text levels role t part b)
  sound_text plain b h = sound_plain b h
  sound_text escape b h = sound_escape b h
  sound_text (code digits) b h = sound_code digits b h.0 h.1
  sound_text (high half) b h = sound_wanted 92 (slash half) b h
  sound_text (slash half) b h = sound_wanted 117 (low half NoDigit) b (h.0, h.1, tt)
  sound_text (low half digits) b h = sound_low half digits b h.0 h.1 h.2
  sound_text (tail []) b h = absurd h
  sound_text (tail (q ∷ rs)) b h = sound_tail q rs b h

sound_name : (levels : List Unclosed) (stay : Hand) (b : ℕ) → InMap levels → IsState levels stay → Sound (name_begins levels stay b)
sound_name levels stay b m h = chosen Sound (b == 34) (λ e. went (state levels (text Name [] plain)) (m, IsUtf8-nil)) (λ e. sound_skipped levels stay b h)

sound_word : (levels : List Unclosed) (x : Json) (left : List ℕ) (b : ℕ) → IsState levels (word x left) → Sound (in_word levels x left b)
sound_word levels x [] b h = stopped Syntax
sound_word levels x (w ∷ []) b h = chosen Sound (b == w) (λ e. sound_placed levels x) (λ e. stopped Syntax)
sound_word levels x (w ∷ d ∷ ws) b h = chosen Sound (b == w) (λ e. went (state levels (word x (d ∷ ws))) h.2) (λ e. stopped Syntax)

pub sound_step : (limit : ℕ) (levels : List Unclosed) (hand : Hand) (b : ℕ) → IsState levels hand → Sound (step limit levels hand b)
sound_step limit levels value b h = sound_begin limit levels value b tt
sound_step limit [] first_item b h = absurd h
sound_step limit (LevelOfMap ps name ∷ ls) first_item b h = absurd h
sound_step limit (LevelOfList xs ∷ ls) first_item b h = chosen Sound (b == 93) (λ e. sound_placed ls (JsonOfList xs)) (λ e. sound_begin limit (LevelOfList xs ∷ ls) first_item b tt)
sound_step limit [] first_name b h = absurd h
sound_step limit (LevelOfList xs ∷ ls) first_name b h = absurd h
sound_step limit (LevelOfMap ps name ∷ ls) first_name b h = chosen Sound (b == 125) (λ e. sound_placed ls (JsonOfMap (merged ps))) (λ e. sound_name (LevelOfMap ps name ∷ ls) first_name b tt tt)
sound_step limit levels next_name b h = sound_name levels next_name b h h
sound_step limit levels colon b h = chosen Sound (b == 58) (λ e. went (state levels value) tt) (λ e. sound_skipped levels colon b h)
sound_step limit levels behind b h = sound_behind levels b
sound_step limit levels (done x) b h = sound_end levels x b
sound_step limit levels (word x left) b h = sound_word levels x left b h
sound_step limit levels (number t place) b h = sound_number levels t place b h
sound_step limit levels (text role t part) b h = sound_text levels role t h.0 part b h.1
