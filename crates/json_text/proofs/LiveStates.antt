-- Each state that a text leads to can be finished.
use Rattle.std.proofs.Common.{◌≡◌, ℕ, ◌+◌, ◌*◌, ◌<◌, ◌≤◌, List, [], ◌∷◌, ◌++◌, Some, Bool, true, false, refl, sym, ◌∙◌, arith, ◌⊎◌, inl, inr}
use Rattle.std.proofs.lemmas.Bool.Decides.{nat_tests}
use Rattle.std.specs.Prelude.{◌≢◌}
use Rattle.std.specs.Char.{IsScalar, digit_value, encode_utf8}
use Rattle.std.specs.Int.{is_in_range}
use lib.Utf8.{low_scalar}
use Rattle.sequences.specs.Pairs.{merged}
use Rattle.json_value.specs.declared.Json.{Json}
use Rattle.json_value.specs.declared.Json.TheVariants.{Null, Num, Str, List as JsonOfList, Map as JsonOfMap}
use Rattle.json_text.specs.Grammar.{IsDigit16, of_digits16, IsHigh, IsLow, joined, Chars, close, short as short_of, code as code_of, pair as pair_of, null as null_of, items_none, more_items_done, pairs_none, more_pairs_done, pair_named, colon_here}
use Rattle.json_text.specs.Strings.{HasNoQuote}
use Rattle.json_text.specs.State.Machine.{StringPlace, plain, escape, code, high, slash, low, tail, Hand, value, first_item, first_name, next_name, colon, behind, done, word, number, text}
use Rattle.json_text.specs.declared.state.Digits.TheVariants.{Zero as NoDigit, One, Two, Three}
use Rattle.json_text.specs.declared.state.Place.{Place}
use Rattle.json_text.specs.declared.state.Place.TheVariants.{Minus, Nought, Whole, Point, Fraction, Exponent, Sign, Power}
use Rattle.json_text.specs.declared.state.Role.{Role}
use Rattle.json_text.specs.declared.state.Role.TheVariants.{Name, Content}
use Rattle.json_text.specs.State.Opened.{Unclosed}
use Rattle.json_text.specs.State.Opened.{list as LevelOfList, map as LevelOfMap}
use Rattle.json_text.proofs.Utf8Lemmas.{Within, order, high_scalar}
use Rattle.json_text.proofs.Finishes.{Rest, Ends, In, IsHalf, Completes, Finishes, IsState, IsPart, IsRole, AreRanges}

-- some bytes close the open lists and objects
pub closes : (limit : ℕ) (levels : List Unclosed) (x : Json) → (c : List ℕ) × (v : Json) × Rest limit levels x c v
closes limit [] x = ([], x, (tt, refl))
closes limit (LevelOfList xs ∷ ls) x =
    let k = closes limit ls (JsonOfList ((xs ++ (x ∷ [])) ++ [])) in
    (93 ∷ k.0, k.1, ([], k.0, more_items_done _ (93 ∷ k.0) [] k.0 refl refl, k.2))
closes limit (LevelOfMap ps name ∷ ls) x =
    let k = closes limit ls (JsonOfMap (merged ((ps ++ ((name, x) ∷ [])) ++ []))) in
    (125 ∷ k.0, k.1, ([], k.0, more_pairs_done _ (125 ∷ k.0) [] k.0 refl refl, k.2))

-- ---- strings
-- some bytes without a quote lead to where a character may begin
pub record CanReach (part : StringPlace) : Type 0 where
  pub front : List ℕ
  pub more : List ℕ
  pub clean : HasNoQuote front
  pub is : (bytes after rest : List ℕ) → Chars bytes after rest → In part (front ++ bytes) (more ++ after) rest

pub ended : (rest : List ℕ) → Chars (34 ∷ rest) [] rest
ended rest = close (34 ∷ rest) [] rest refl refl

-- the second half of a character
half_ends : (h a b c d : ℕ) (bytes after rest : List ℕ) → IsDigit16 a → IsDigit16 b → IsDigit16 c → IsDigit16 d → IsLow (of_digits16 a b c d) → Chars bytes after rest
    → IsHalf h (92 ∷ 117 ∷ a ∷ b ∷ c ∷ d ∷ bytes) (encode_utf8 (joined h (of_digits16 a b c d)) ++ after) rest
half_ends h a b c d bytes after rest ha hb hc hd l chars =
    record { next = a ∷ b ∷ c ∷ d ∷ bytes; half = of_digits16 a b c d; mid = bytes; after = after; begins = refl; digits = (a, b, c, d, ha, hb, hc, hd, refl, refl); low = l; text = refl; chars = chars }

record CodeEnds (a b c d : ℕ) : Type 0 where
  front : List ℕ
  more : List ℕ
  clean : HasNoQuote front
  is : (bytes after rest : List ℕ) → Chars bytes after rest → Chars (92 ∷ 117 ∷ a ∷ b ∷ c ∷ d ∷ (front ++ bytes)) (more ++ after) rest

unit_scalar : (k : ℕ) → k < 0x10000 → is_in_range 0xD800 0xDBFF k ≡ false → (k < 0xDC00) ⊎ (0xE000 ≤ k) → IsScalar k
unit_scalar k s e (inl h) = by (order k 0xD800)
  where
    by : (k < 0xD800) ⊎ (0xD800 ≤ k) → IsScalar k
    by (inl m) = low_scalar k m
    by (inr m) = let f : is_in_range 0xD800 0xDBFF k ≡ true = grind (arith, nat_tests) in let g : true ≡ false = sym f ∙ e in cc g
unit_scalar k s e (inr h) = high_scalar k h (omega arith)

no_quote : (b : ℕ) → 34 < b → b ≢ 34
no_quote b h e = omega arith

code_ends : (a b c d : ℕ) → IsDigit16 a → IsDigit16 b → IsDigit16 c → IsDigit16 d → (of_digits16 a b c d < 0xDC00) ⊎ (0xE000 ≤ of_digits16 a b c d) → CodeEnds a b c d
code_ends a b c d ha hb hc hd u = by (is_in_range 0xD800 0xDBFF (of_digits16 a b c d)) refl
  where
    high_is : (k : ℕ) → is_in_range 0xD800 0xDBFF k ≡ true → IsHigh k
    high_is k e = (grind (arith, nat_tests), grind (arith, nat_tests))

    small : (x y z w : ℕ) → x < 16 → y < 16 → z < 16 → w < 16 → ((x * 16 + y) * 16 + z) * 16 + w < 0x10000
    small x y z w hx hy hz hw = omega arith

    by : (p : Bool) → is_in_range 0xD800 0xDBFF (of_digits16 a b c d) ≡ p → CodeEnds a b c d
    by true e =
        let k = of_digits16 a b c d in
        record {
          front = 92 ∷ 117 ∷ 100 ∷ 99 ∷ 48 ∷ 48 ∷ [];
          more = encode_utf8 (joined k (of_digits16 100 99 48 48));
          clean = (no_quote 92 (omega arith), (no_quote 117 (omega arith), (no_quote 100 (omega arith), (no_quote 99 (omega arith), (no_quote 48 (omega arith), (no_quote 48 (omega arith), tt))))));
          is = λ bytes after rest chars. let l : IsLow 0xDC00 = (omega arith, omega arith) in pair_of _ _ rest k (of_digits16 100 99 48 48) (a ∷ b ∷ c ∷ d ∷ 92 ∷ 117 ∷ 100 ∷ 99 ∷ 48 ∷ 48 ∷ bytes) (92 ∷ 117 ∷ 100 ∷ 99 ∷ 48 ∷ 48 ∷ bytes) (100 ∷ 99 ∷ 48 ∷ 48 ∷ bytes) bytes after refl
              (a, b, c, d, ha, hb, hc, hd, refl, refl) (high_is k e) refl (100, 99, 48, 48, omega arith, omega arith, omega arith, omega arith, refl, refl) l refl chars;
        }
    by false e =
        let k = of_digits16 a b c d in
        record {
          front = [];
          more = encode_utf8 k;
          clean = tt;
          is = λ bytes after rest chars. code_of _ _ rest k (a ∷ b ∷ c ∷ d ∷ bytes) bytes after refl (a, b, c, d, ha, hb, hc, hd, refl, refl)
              (unit_scalar k (small (digit_value a) (digit_value b) (digit_value c) (digit_value d) ha hb hc hd) e u) refl chars;
        }

zero_digit : IsDigit16 48
zero_digit = omega arith

unit_two : (x y z w : ℕ) → x < 16 → y < 16 → (x ≡ 13 → y < 12) → z < 16 → w < 16 → (((x * 16 + y) * 16 + z) * 16 + w < 0xDC00) ⊎ (0xE000 ≤ ((x * 16 + y) * 16 + z) * 16 + w)
unit_two x y z w hx hy n hz hw = by (order x 13) (order 13 x)
  where
    by : (x < 13) ⊎ (13 ≤ x) → (13 < x) ⊎ (x ≤ 13) → (((x * 16 + y) * 16 + z) * 16 + w < 0xDC00) ⊎ (0xE000 ≤ ((x * 16 + y) * 16 + z) * 16 + w)
    by (inl h) k = inl (omega arith)
    by (inr h) (inl k) = inr (omega arith)
    by (inr h) (inr k) = let m = n (omega arith) in inl (omega arith)

abbrev pub tail_lows : List (ℕ × ℕ) → List ℕ
tail_lows [] = []
tail_lows (r ∷ rs) = r.0 ∷ tail_lows rs

pub lows_within : (rs : List (ℕ × ℕ)) → AreRanges rs → Within rs (tail_lows rs)
lows_within [] h = tt
lows_within (r ∷ rs) h = let l = h.0.1 in (grind (arith, nat_tests), lows_within rs h.1)

lows_clean : (rs : List (ℕ × ℕ)) → AreRanges rs → HasNoQuote (tail_lows rs)
lows_clean [] h = tt
lows_clean (r ∷ rs) h = let l = h.0.0 in (no_quote r.0 (omega arith), lows_clean rs h.1)

is_16 : (x : ℕ) → x ≡ 13 → x < 16
is_16 x e = omega arith

low_of : (x y z w : ℕ) → x ≡ 13 → y < 16 → 12 ≤ y → z < 16 → w < 16 → IsLow (((x * 16 + y) * 16 + z) * 16 + w)
low_of x y z w e hy l hz hw = (omega arith, omega arith)

zero_clean : let n : ℕ = 48 in n ≢ 34
zero_clean = no_quote 48 (omega arith)

pub part_reaches : (part : StringPlace) (t : List ℕ) → IsPart part t → CanReach part
part_reaches plain t h = record { front = []; more = []; clean = tt; is = λ bytes after rest chars. chars }
part_reaches escape t h = record { front = 92 ∷ []; more = 92 ∷ []; clean = (no_quote 92 (omega arith), tt); is = λ bytes after rest chars. short_of _ _ rest 92 92 bytes after refl refl refl chars }
part_reaches (code NoDigit) t h =
    let e = code_ends 48 48 48 48 zero_digit zero_digit zero_digit zero_digit (inl (omega arith)) in
    record { front = 48 ∷ 48 ∷ 48 ∷ 48 ∷ e.front; more = e.more; clean = (zero_clean, (zero_clean, (zero_clean, (zero_clean, e.clean)))); is = e.is }
part_reaches (code (One a)) t h =
    let n : 0 < 12 = omega arith in
    let e = code_ends a 48 48 48 h.1 zero_digit zero_digit zero_digit (unit_two (digit_value a) 0 0 0 h.1 (omega arith) (λ k. n) (omega arith) (omega arith)) in
    record { front = 48 ∷ 48 ∷ 48 ∷ e.front; more = e.more; clean = (zero_clean, (zero_clean, (zero_clean, e.clean))); is = e.is }
part_reaches (code (Two a b)) t h =
    let e = code_ends a b 48 48 h.1.0 h.1.1 zero_digit zero_digit (unit_two (digit_value a) (digit_value b) 0 0 h.1.0 h.1.1 h.1.2 (omega arith) (omega arith)) in
    record { front = 48 ∷ 48 ∷ e.front; more = e.more; clean = (zero_clean, (zero_clean, e.clean)); is = e.is }
part_reaches (code (Three a b c)) t h =
    let e = code_ends a b c 48 h.1.0 h.1.1 h.1.3 zero_digit (unit_two (digit_value a) (digit_value b) (digit_value c) 0 h.1.0 h.1.1 h.1.2 h.1.3 (omega arith)) in
    record { front = 48 ∷ e.front; more = e.more; clean = (zero_clean, e.clean); is = e.is }
part_reaches (high k) t h = record {
  front = 92 ∷ 117 ∷ 100 ∷ 99 ∷ 48 ∷ 48 ∷ [];
  more = encode_utf8 (joined k (of_digits16 100 99 48 48));
  clean = (no_quote 92 (omega arith), (no_quote 117 (omega arith), (no_quote 100 (omega arith), (no_quote 99 (omega arith), (zero_clean, (zero_clean, tt))))));
  is = λ bytes after rest chars. half_ends k 100 99 48 48 bytes after rest (omega arith) (omega arith) zero_digit zero_digit (omega arith, omega arith) chars;
}
part_reaches (slash k) t h = record {
  front = 117 ∷ 100 ∷ 99 ∷ 48 ∷ 48 ∷ [];
  more = encode_utf8 (joined k (of_digits16 100 99 48 48));
  clean = (no_quote 117 (omega arith), (no_quote 100 (omega arith), (no_quote 99 (omega arith), (zero_clean, (zero_clean, tt)))));
  is = λ bytes after rest chars. half_ends k 100 99 48 48 bytes after rest (omega arith) (omega arith) zero_digit zero_digit (omega arith, omega arith) chars;
}
part_reaches (low k NoDigit) t h = record {
  front = 100 ∷ 99 ∷ 48 ∷ 48 ∷ [];
  more = encode_utf8 (joined k (of_digits16 100 99 48 48));
  clean = (no_quote 100 (omega arith), (no_quote 99 (omega arith), (zero_clean, (zero_clean, tt))));
  is = λ bytes after rest chars. half_ends k 100 99 48 48 bytes after rest (omega arith) (omega arith) zero_digit zero_digit (omega arith, omega arith) chars;
}
part_reaches (low k (One a)) t h = record {
  front = 99 ∷ 48 ∷ 48 ∷ [];
  more = encode_utf8 (joined k (of_digits16 a 99 48 48));
  clean = (no_quote 99 (omega arith), (zero_clean, (zero_clean, tt)));
  is = λ bytes after rest chars. half_ends k a 99 48 48 bytes after rest (is_16 (digit_value a) h.2) (omega arith) zero_digit zero_digit (low_of (digit_value a) 12 0 0 h.2 (omega arith) (omega arith) (omega arith) (omega arith)) chars;
}
part_reaches (low k (Two a b)) t h = record {
  front = 48 ∷ 48 ∷ [];
  more = encode_utf8 (joined k (of_digits16 a b 48 48));
  clean = (zero_clean, (zero_clean, tt));
  is = λ bytes after rest chars. half_ends k a b 48 48 bytes after rest (is_16 (digit_value a) h.2.0) h.2.1 zero_digit zero_digit (low_of (digit_value a) (digit_value b) 0 0 h.2.0 h.2.1 h.2.2 (omega arith) (omega arith)) chars;
}
part_reaches (low k (Three a b c)) t h = record {
  front = 48 ∷ [];
  more = encode_utf8 (joined k (of_digits16 a b c 48));
  clean = (zero_clean, tt);
  is = λ bytes after rest chars. half_ends k a b c 48 bytes after rest (is_16 (digit_value a) h.2.0) h.2.1 h.2.3 zero_digit (low_of (digit_value a) (digit_value b) (digit_value c) 0 h.2.0 h.2.1 h.2.2 h.2.3 (omega arith)) chars;
}
part_reaches (tail []) t h = absurd h
part_reaches (tail (r ∷ rs)) t h =
    let w = tail_lows (r ∷ rs) in
    record {
      front = w;
      more = w;
      clean = lows_clean (r ∷ rs) h.0;
      is = λ bytes after rest chars. record { own = w; mid = bytes; after = after; within = lows_within (r ∷ rs) h.0; begins = refl; text = refl; chars = chars };
    }

-- `null` as a value
a_null : (limit : ℕ) (levels : List Unclosed) → (c : List ℕ) × (v : Json) × Finishes limit levels value c v
a_null limit levels = let k = closes limit levels Null in (110 ∷ 117 ∷ 108 ∷ 108 ∷ k.0, k.1, (Null, k.0, null_of _ (110 ∷ 117 ∷ 108 ∷ 108 ∷ k.0) Null k.0 refl refl, k.2))

a_colon : (limit : ℕ) (levels : List Unclosed) → (c : List ℕ) × (v : Json) × Finishes limit levels colon c v
a_colon limit levels = let k = a_null limit levels in (58 ∷ k.0, k.1, (k.0, k.2.0, k.2.1, colon_here (58 ∷ k.0) k.0 refl, k.2.2, k.2.3))

pub role_ends : (limit : ℕ) (levels : List Unclosed) (role : Role) (t : List ℕ) → IsRole levels role → (c : List ℕ) × (v : Json) × Ends limit levels role t c v
role_ends limit [] Content t h = closes limit [] (Str t)
role_ends limit (l ∷ ls) Content t h = closes limit (l ∷ ls) (Str t)
role_ends limit [] Name t h = absurd h
role_ends limit (LevelOfList xs ∷ ls) Name t h = absurd h
role_ends limit (LevelOfMap ps name ∷ ls) Name t h = a_colon limit (LevelOfMap ps t ∷ ls)

number_ends_so : (place : Place) → (more : List ℕ) × Completes (Some place) more
number_ends_so Minus = (48 ∷ [], refl)
number_ends_so Nought = ([], refl)
number_ends_so Whole = ([], refl)
number_ends_so Point = (48 ∷ [], refl)
number_ends_so Fraction = ([], refl)
number_ends_so Exponent = (48 ∷ [], refl)
number_ends_so Sign = (48 ∷ [], refl)
number_ends_so Power = ([], refl)

-- Each state can be finished: what the machine has taken is live.
pub finishes : (limit : ℕ) (levels : List Unclosed) (hand : Hand) → IsState levels hand → (c : List ℕ) × (v : Json) × Finishes limit levels hand c v
finishes limit levels value h = a_null limit levels
finishes limit [] first_item h = absurd h
finishes limit (LevelOfMap ps name ∷ ls) first_item h = absurd h
finishes limit (LevelOfList xs ∷ ls) first_item h = let k = closes limit ls (JsonOfList (xs ++ [])) in (93 ∷ k.0, k.1, ([], k.0, items_none _ (93 ∷ k.0) [] k.0 refl refl, k.2))
finishes limit [] first_name h = absurd h
finishes limit (LevelOfList xs ∷ ls) first_name h = absurd h
finishes limit (LevelOfMap ps name ∷ ls) first_name h = let k = closes limit ls (JsonOfMap (merged (ps ++ []))) in (125 ∷ k.0, k.1, ([], k.0, pairs_none _ (125 ∷ k.0) [] k.0 refl refl, k.2))
finishes limit [] next_name h = absurd h
finishes limit (LevelOfList xs ∷ ls) next_name h = absurd h
finishes limit (LevelOfMap ps name ∷ ls) next_name h =
    let k = a_colon limit (LevelOfMap ps [] ∷ ls) in
    (34 ∷ 34 ∷ k.0, k.1, ([], k.2.1, k.2.2, pair_named _ (34 ∷ 34 ∷ k.0) [] k.2.1 k.2.2 (34 ∷ k.0) k.0 k.2.0 refl (ended k.0) k.2.3 k.2.4, k.2.5))
finishes limit levels colon h = a_colon limit levels
finishes limit [] behind h = absurd h
finishes limit (LevelOfList xs ∷ ls) behind h = let k = closes limit ls (JsonOfList (xs ++ [])) in (93 ∷ k.0, k.1, ([], k.0, more_items_done _ (93 ∷ k.0) [] k.0 refl refl, k.2))
finishes limit (LevelOfMap ps name ∷ ls) behind h = let k = closes limit ls (JsonOfMap (merged (ps ++ []))) in (125 ∷ k.0, k.1, ([], k.0, more_pairs_done _ (125 ∷ k.0) [] k.0 refl refl, k.2))
finishes limit [] (done x) h = ([], x, (tt, refl))
finishes limit (l ∷ ls) (done x) h = absurd h
finishes limit levels (word x []) h = absurd h
finishes limit levels (word x (w ∷ ws)) h = let k = closes limit levels x in (w ∷ (ws ++ k.0), k.1, (k.0, refl, k.2))
finishes limit levels (number t place) h =
    let m = number_ends_so place in
    let k = closes limit levels (Num (t ++ m.0)) in
    (m.0 ++ k.0, k.1, (m.0, k.0, refl, m.1, k.2))
finishes limit levels (text role t part) h =
    let e = part_reaches part t h.1 in
    let k = role_ends limit levels role (t ++ (e.more ++ [])) h.0 in
    (e.front ++ (34 ∷ k.0), k.1, (e.more ++ [], k.0, e.is (34 ∷ k.0) [] k.0 (ended k.0), k.2))
