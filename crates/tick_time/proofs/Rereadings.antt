-- A rate's text is read as the rate.
use Rattle.std.proofs.Common.{◌≡◌, ℕ, suc, ◌+◌, ◌*◌, ◌/◌, ◌^◌, ◌<◌, ◌≤◌, ◌≢◌, Bool, true, false, cond, ◌&&◌, not, ℤ, pos, negsuc, ◌*ℤ◌, ◌≤ℤ◌, unsigned_abs, List, [], ◌∷◌, ◌++◌, length, refl, sym, ◌∙◌, ap, subst, arith, ◌⊎◌, inl, inr, IsTrue, nat_lt, slice_index, append-nil}
use Rattle.std.specs.Prelude.{◌==◌, ◌||◌, codes}
use Rattle.std.specs.Char.{digit_value}
use Rattle.std.specs.List.{list_any, Contains}
use Rattle.std.specs.Str.Parse.{AllDigits, digits_value}
use Rattle.std.proofs.lemmas.Bool.Decides.{nat_tests}
use mir.Syntax.{w64}
use mir.Val.{of_z}
use Rattle.std.proofs.lemmas.Int.{ints}
use Rattle.std.proofs.lemmas.Nat.Gcd.{dvd_of_mod-eq-zero}
use Rattle.std.proofs.Math.Nat.{div-mul_cancel, one-le-pow}
use Rattle.tick_time.specs.Numerals.{IsInt, Spells, absent, signed, significant, frac}
use Rattle.tick_time.specs.Rates.{counts, is_rate, is_spelled, is_near, is_near_any, IsLowest, IsSpelledRate, relative, spelled}
use Rattle.tick_time.specs.Texts.{IsDecimalText, ReadsAsRate, relative_text, rate_millionths}
use Rattle.tick_time.proofs.Nears.{near_any_same, counts_each}
use Rattle.tick_time.proofs.LowestTerms.{spelled_parts, spelled_same, nonzero, same_right}

abbrev pub digits_test : List ℕ → Bool
digits_test [] = true
digits_test (c ∷ cs) = nat_lt (digit_value c) 10 && digits_test cs

contains_in : (p : ℕ → Bool) (b : Bool) (x : ℕ) (xs : List ℕ) → p x ≡ b → (b || list_any p xs) ≡ true → (list_any p xs ≡ true → (k : ℕ) × Contains xs k × (p k ≡ true)) → (k : ℕ) × Contains (x ∷ xs) k × (p k ≡ true)
contains_in p true x xs e h more = (x, (0, omega arith, refl), e)
contains_in p false x xs e h more = let m = more h in (m.0, (suc (m.1.0), omega (arith, m.1.1), m.1.2), m.2)

any_contains : (p : ℕ → Bool) (xs : List ℕ) → list_any p xs ≡ true → (k : ℕ) × Contains xs k × (p k ≡ true)
any_contains p [] h = cc
any_contains p (x ∷ xs) h = contains_in p (p x) x xs refl h (any_contains p xs)

or_false : (b : Bool) → IsTrue (b || false) → b ≡ true
or_false true h = refl
or_false false h = cc

-- what a rate's condition says, of a 1001 relative and of the others
pub relative_parts : (n d : ℕ) → IsTrue (is_rate n d) → d ≡ 1001 → (k : ℕ) × Contains counts k × (n ≡ 1000 * k)
unfolding is_rate
relative_parts n d h e =
    let r : IsTrue (is_rate n 1001) = subst (λ x. IsTrue (is_rate n x)) e h in
    let found = any_contains (λ k. n == 1000 * k) counts (or_false _ r) in
    (found.0, found.1, grind (arith, nat_tests, found.2))

pub spelled_given : (n d : ℕ) → IsTrue (is_rate n d) → d ≢ 1001 → (is_spelled n d ≡ true) × (is_near_any n d ≡ false)
unfolding is_rate
spelled_given n d h ne =
    let test : (d == 1001) ≡ false = grind (arith, nat_tests, ne) in
    let rest : IsTrue (is_spelled n d && not (is_near_any n d)) = rw test at h in
    both (is_spelled n d) (is_near_any n d) rest where
      both : (x y : Bool) → IsTrue (x && not y) → (x ≡ true) × (y ≡ false)
      both true true h = cc
      both true false h = (refl, refl)
      both false y h = cc

digits_in : (b : Bool) (c : ℕ) (cs : List ℕ) → nat_lt (digit_value c) 10 ≡ b → (b && digits_test cs) ≡ true → (digits_test cs ≡ true → AllDigits 10 cs) → (digit_value c < 10) × AllDigits 10 cs
digits_in true c cs e h more = (grind (arith, nat_tests, e), more h)
digits_in false c cs e h more = cc

pub digits_from : (ds : List ℕ) → digits_test ds ≡ true → AllDigits 10 ds
digits_from [] h = tt
digits_from (c ∷ cs) h = digits_in (nat_lt (digit_value c) 10) c cs refl h (digits_from cs)

pub int_from : (ds : List ℕ) → 0 < length ds → digits_test ds ≡ true → slice_index ds 0 ≢ 48 → IsInt ds
int_from ds some h lead = record { some = some; all = digits_from ds h; lead = λ e. absurd (lead e) }

-- a text of digits, a point and digits spells the numeral of these parts
pub spells_pointed : (text whole decimals : List ℕ) (d : ℕ) (ds : List ℕ)
    → decimals ≡ d ∷ ds → text ≡ whole ++ (46 ∷ d ∷ ds) → IsInt whole → digits_test decimals ≡ true
    → Spells text (record { neg = false; whole = whole; decimals = decimals; mark = []; down = false; power = [] })
spells_pointed text whole decimals d ds e is int digits = record {
  spelled = is ∙ ap (λ x. whole ++ x) (sym (ap (λ x. frac x ++ []) e ∙ append-nil (46 ∷ d ∷ ds)));
  int = int;
  decimals = digits_from decimals digits;
  exp = absent refl refl refl;
}

-- the text of a 1001 relative, from its digits
relative_reads_in : (n : ℕ) (text whole decimals : List ℕ) (d : ℕ) (ds : List ℕ) (top places : ℕ) (num den : ℤ) → Contains counts n → decimals ≡ d ∷ ds → text ≡ whole ++ (46 ∷ d ∷ ds)
    → IsInt whole → digits_test decimals ≡ true → significant (whole ++ decimals) ≤ 38 → digits_value 10 (whole ++ decimals) * 1 ≡ top → length decimals + 0 ≡ places → is_near top (10 ^ places) n ≡ true
    → unsigned_abs num ≡ 1000 * n → unsigned_abs den ≡ 1001 → ReadsAsRate text num den
relative_reads_in n text whole decimals d ds top places num den in_counts e is int digits few value count near is_num is_den = record {
  number = record { neg = false; whole = whole; decimals = decimals; mark = []; down = false; power = [] };
  spells = spells_pointed text whole decimals d ds e is int digits;
  short = λ long. too_long long;
  gives = record {
    top = top;
    size = ap pos value;
    rate = relative n in_counts (subst (λ k. is_near top (10 ^ k) n ≡ true) (sym count) near) is_num is_den;
  };
} where
  too_long : (38 < significant (whole ++ decimals)) ⊎ (3 < 0) → ⊥
  too_long (inl h) = omega (arith, h, few)
  too_long (inr h) = omega arith

pub relative_reads : (n : ℕ) → Contains counts n → (num den : ℤ) → unsigned_abs num ≡ 1000 * n → unsigned_abs den ≡ 1001 → ReadsAsRate (relative_text (1000 * n)) num den
relative_reads = counts_each (λ n. (num den : ℤ) → unsigned_abs num ≡ 1000 * n → unsigned_abs den ≡ 1001 → ReadsAsRate (relative_text (1000 * n)) num den)
    (λ num den. relative_reads_in 15 _ (codes "14") (codes "985014985014985") _ _ 14985014985014985 15 num den (0, omega arith, refl) refl refl (int_from (codes "14") (omega arith) refl (λ e. omega arith)) refl (omega arith) refl refl refl)
    (λ num den. relative_reads_in 24 _ (codes "23") (codes "976023976023978") _ _ 23976023976023978 15 num den (1, omega arith, refl) refl refl (int_from (codes "23") (omega arith) refl (λ e. omega arith)) refl (omega arith) refl refl refl)
    (λ num den. relative_reads_in 30 _ (codes "29") (codes "97002997002997") _ _ 2997002997002997 14 num den (2, omega arith, refl) refl refl (int_from (codes "29") (omega arith) refl (λ e. omega arith)) refl (omega arith) refl refl refl)
    (λ num den. relative_reads_in 48 _ (codes "47") (codes "952047952047955") _ _ 47952047952047955 15 num den (3, omega arith, refl) refl refl (int_from (codes "47") (omega arith) refl (λ e. omega arith)) refl (omega arith) refl refl refl)
    (λ num den. relative_reads_in 60 _ (codes "59") (codes "94005994005994") _ _ 5994005994005994 14 num den (4, omega arith, refl) refl refl (int_from (codes "59") (omega arith) refl (λ e. omega arith)) refl (omega arith) refl refl refl)
    (λ num den. relative_reads_in 120 _ (codes "119") (codes "88011988011988") _ _ 11988011988011988 14 num den (5, omega arith, refl) refl refl (int_from (codes "119") (omega arith) refl (λ e. omega arith)) refl (omega arith) refl refl refl)

cross_in : (n d x b m e : ℕ) → 1000000 ≡ e * d → m ≡ n * e → x * 1000000 ≡ m * b → n * b ≡ x * d
cross_in n d x b m e places size same =
    let one : n * b * 1000000 ≡ n * b * (e * d) = ap (λ k. n * b * k) places in
    let two : x * 1000000 * d ≡ m * b * d = ap (λ k. k * d) same in
    let three : m * b * d ≡ n * e * b * d = ap (λ k. k * b * d) size in
    same_right (n * b) (x * d) 1000000 (omega arith) (omega arith)

-- the decimal of a rate that is no 1001 relative
pub spelled_reads : (text : List ℕ) (num den : ℤ) → IsDecimalText text (pos (rate_millionths num den)) → IsTrue (is_rate (unsigned_abs num) (unsigned_abs den)) → IsLowest (unsigned_abs num) (unsigned_abs den)
    → unsigned_abs den ≢ 1001 → ReadsAsRate text num den
spelled_reads text num den t given lowest other =
    let parts = spelled_given (unsigned_abs num) (unsigned_abs den) given other in
    let p = spelled_parts (unsigned_abs num) (unsigned_abs den) parts.0 in
    let some = nonzero 1000000 (unsigned_abs den) p.places (omega arith) in
    let places : 1000000 ≡ 1000000 / unsigned_abs den * unsigned_abs den = sym (div-mul_cancel (unsigned_abs den) (dvd_of_mod-eq-zero (unsigned_abs den) p.places)) in
    let n = t.number in
    let top = digits_value 10 (t.number.whole ++ t.number.decimals) * 10 ^ cond t.number.down 0 (digits_value 10 t.number.power) in
    let bottom = 10 ^ (length t.number.decimals + cond t.number.down (digits_value 10 t.number.power) 0) in
    let exact : pos (top * 1000000) ≡ pos (rate_millionths num den * bottom) = subst (λ s. (signed s top *ℤ pos 1000000) ≡ (pos (rate_millionths num den) *ℤ pos bottom)) t.sign t.exact in
    let cross = cross_in (unsigned_abs num) (unsigned_abs den) top bottom (rate_millionths num den) (1000000 / unsigned_abs den) places refl (ap unsigned_abs exact) in
    let self : IsSpelledRate (unsigned_abs num) (unsigned_abs den) (unsigned_abs num) (unsigned_abs den) = record { equal = refl; lowest = lowest; profile = parts.0 } in
    record {
      number = t.number;
      spells = t.spells;
      short = t.short;
      gives = record {
        top = top;
        size = ap (λ s. signed s top) t.sign;
        rate = spelled (sym (near_any_same (unsigned_abs num) (unsigned_abs den) top bottom some (one-le-pow _ 10 (omega arith)) cross) ∙ parts.1)
            (spelled_same (unsigned_abs num) (unsigned_abs den) top bottom (unsigned_abs num) (unsigned_abs den) some cross self);
      };
    }

pub den_is : (den : ℤ) (m : ℕ) → pos 1 ≤ℤ den → of_z w64 den ≡ m → unsigned_abs den ≡ m
den_is (pos k) m some e = e
den_is (negsuc k) m some e = absurd (omega (arith, ints))

pub den_is_not : (den : ℤ) (m : ℕ) → pos 1 ≤ℤ den → (of_z w64 den ≡ m → ⊥) → unsigned_abs den ≢ m
den_is_not (pos k) m some e = e
den_is_not (negsuc k) m some e = absurd (omega (arith, ints))

pub relative_reads_of : (text : List ℕ) (num den : ℤ) → IsTrue (is_rate (unsigned_abs num) (unsigned_abs den)) → unsigned_abs den ≡ 1001 → text ≡ relative_text (unsigned_abs num) → ReadsAsRate text num den
relative_reads_of text num den given e is =
    let r = relative_parts (unsigned_abs num) (unsigned_abs den) given e in
    subst (λ t. ReadsAsRate t num den) (sym (is ∙ ap relative_text r.2)) (relative_reads r.0 r.1 num den r.2 e)
