-- The texts of speeds, rates and values are read as what they were written of.
use Rattle.std.proofs.Common.{◌≡◌, ◌≢◌, ℕ, suc, ◌+◌, ◌*◌, ◌/◌, ◌^◌, ◌<◌, ◌≤◌, Bool, true, false, ◌⊎◌, inl, inr, IsTrue, ℤ, pos, negsuc, ◌*ℤ◌, ◌-ℤ◌, unsigned_abs, List, [], ◌∷◌, ◌++◌, length, refl, sym, ap, subst, ◌∙◌, arith}
use Rattle.std.specs.Prelude.{◌==◌, codes}
use Rattle.std.specs.List.{Contains}
use Rattle.std.specs.Str.Parse.{digits_value}
use Rattle.std.proofs.Math.Nat.{one-le-pow, div-mul_cancel}
use Rattle.std.proofs.lemmas.Bool.Decides.{nat_tests}
use Rattle.std.proofs.lemmas.Int.{ints}
use Rattle.std.proofs.lemmas.Nat.Gcd.{dvd_of_mod-eq-zero}
use borrow.Author.Differences.{up, down}
use Rattle.tick_time.specs.declared.rates.Rate.{Rate}
use Rattle.tick_time.specs.declared.times.Time.{Time}
use Rattle.tick_time.specs.Numerals.{Fraction, Numeral, IsInt, IsSame, signed, significant, fraction}
use Rattle.tick_time.specs.Decimals.{decimal_value, millionths, lowered, IsHalfEven}
use Rattle.tick_time.specs.Rates.{counts, unit, is_rate, is_near, IsLowest, IsSpelledRate, relative, spelled, GivesRate}
use Rattle.tick_time.specs.Texts.{IsDecimalText, is_minus, relative_text, rate_millionths}
use Rattle.tick_time.specs.Times.{IsSpeed}
use Rattle.tick_time.proofs.LowestTerms.{same_right, nonzero, spelled_parts, spelled_same}
use Rattle.tick_time.proofs.Nears.{near_any_same, counts_each}
use Rattle.tick_time.proofs.OneValue.{gives_same}
use Rattle.tick_time.proofs.Rereadings.{digits_test, int_from, relative_parts, spelled_given, spells_pointed}
use Rattle.tick_time.proofs.Readings.{ticks_small}
use Rattle.tick_time.proofs.Units.{unit_positive}
use Rattle.tick_time.proofs.Wholes.{units_of as whole_units}
use Rattle.tick_time.proofs.MillionthsText.{written}
use Rattle.schema_rows.specs.Numerals.{IsSpelled}
use Rattle.schema_write.specs.Texts.{decimal_text, rate_text, value_text}
use Rattle.schema_write.specs.Reread.{ReadsAsMillionths, ReadsAsRate, ReadsAsTime}
use Rattle.schema_write.proofs.Numbers.{speed_small, rate_small, units_small, units_are}
use Rattle.schema_write.proofs.ShortDecimals.{IsDecimalFor, decimal_for}

-- two fractions that are so many millionths are equal
same_both : (v w : ℤ) (b e : ℕ) (x : ℤ) → (v *ℤ pos 1000000) ≡ (x *ℤ pos b) → (w *ℤ pos 1000000) ≡ (x *ℤ pos e) → (v *ℤ pos e) ≡ (w *ℤ pos b)
same_both v w b e x p q =
    let first : up v * 1000000 + down x * b ≡ up x * b + down v * 1000000 = omega (arith, ints) in
    let second : up w * 1000000 + down x * e ≡ up x * e + down w * 1000000 = omega (arith, ints) in
    let one : (up v * 1000000 + down x * b) * e ≡ (up x * b + down v * 1000000) * e = ap (λ n. n * e) first in
    let two : (up w * 1000000 + down x * e) * b ≡ (up x * e + down w * 1000000) * b = ap (λ n. n * b) second in
    let both : (up v * e + down w * b) * 1000000 ≡ (up w * b + down v * e) * 1000000 = omega (arith, one, two) in
    let cross = same_right (up v * e + down w * b) (up w * b + down v * e) 1000000 (omega arith) both in
    omega (arith, ints, cross)

nothing_left : (z : ℤ) → z -ℤ z ≡ pos 0
nothing_left z = omega (arith, ints)

-- a fraction that is so many millionths is rounded to them
exact_is_nearest : (v : Fraction) (n : ℤ) → 1 ≤ v.bottom → IsSame v (record { top = n; bottom = 1000000 }) → IsHalfEven (millionths v) n
exact_is_nearest v n some e =
    let none : (v.top *ℤ pos 1000000) -ℤ (n *ℤ pos v.bottom) ≡ pos 0 = ap (λ z. z -ℤ (n *ℤ pos v.bottom)) e ∙ nothing_left (n *ℤ pos v.bottom) in
    let size : unsigned_abs ((v.top *ℤ pos 1000000) -ℤ (n *ℤ pos v.bottom)) ≡ 0 = ap unsigned_abs none in
    record { near = omega (arith, size, some); even = λ h. absurd (omega (arith, size, some, h)) }

signed_back : (n : ℤ) → signed (is_minus n) (unsigned_abs n * 10 ^ 0) ≡ n
signed_back (pos n) = let one : n * 10 ^ 0 ≡ n = omega arith in ap pos one
signed_back (negsuc n) = let one : suc n * 10 ^ 0 ≡ suc n = omega arith in ap (λ k. signed true k) one

reads_by : (text : List ℕ) (n : ℤ) → IsDecimalText text n → IsDecimalFor (is_minus n) (unsigned_abs n) 6 → ReadsAsMillionths text n
reads_by text n t d =
    let value = decimal_value d.decimal.neg d.decimal.digits d.decimal.exp in
    let exact : IsSame (decimal_value d.decimal.neg d.decimal.digits d.decimal.exp) (record { top = n; bottom = 1000000 }) =
    d.same ∙ ap (λ z. z *ℤ pos (10 ^ lowered d.decimal.exp)) (signed_back n) in
    record {
      decimal = d.decimal;
      spelled = record {
        number = t.number;
        spells = t.spells;
        same = same_both value.top (fraction t.number).top value.bottom (fraction t.number).bottom n exact t.exact;
        short = t.short;
      };
      exact = exact;
      nearest = exact_is_nearest value n (one-le-pow (lowered d.decimal.exp) 10 (omega arith)) exact;
    }

-- the text of so many millionths
pub decimal_reads : (n : ℤ) → unsigned_abs n ≤ 1000000000000000000000000 → ReadsAsMillionths (decimal_text n) n
decimal_reads n small = reads_by (decimal_text n) n (written (decimal_text n) n (unsigned_abs n) refl small refl) (decimal_for (is_minus n) (unsigned_abs n) 6 (omega (arith, small)) (omega arith))

pub speed_reads : (speed : ℤ) → IsSpeed speed → ReadsAsMillionths (decimal_text speed) speed
speed_reads speed h = decimal_reads speed (omega (arith, speed_small speed h))

pub time_reads : (time : Time) → ReadsAsTime (value_text time) time
time_reads time =
    let rate = time.rate in
    let k = unit rate.num rate.den in
    let some = unit_positive rate.num rate.den rate.positive (omega (arith, ints, rate.positive, rate.at_least_one)) rate.small_num in
    let u = whole_units time.ticks k some time.whole in
    let small = units_small time.ticks u.0 k some u.1 in
    let r = decimal_reads u.0 (omega (arith, small, ticks_small time.ticks time.high time.low)) in
    let text : value_text time ≡ decimal_text u.0 = ap decimal_text (units_are time.ticks u.0 k some u.1) in
    record {
      decimal = r.decimal;
      spelled = subst (λ t. IsSpelled t r.decimal) (sym text) r.spelled;
      gives = record { units = u.0; nearest = r.nearest; ticks = u.1; kept = refl };
    }

-- the millionths of a rate that is no 1001 relative give the rate
spelled_gives : (num den : ℤ) → IsTrue (is_rate (unsigned_abs num) (unsigned_abs den)) → IsLowest (unsigned_abs num) (unsigned_abs den) → unsigned_abs den ≢ 1001
    → GivesRate (record { top = pos (rate_millionths num den); bottom = 1000000 }) num den
spelled_gives num den given lowest other =
    let parts = spelled_given (unsigned_abs num) (unsigned_abs den) given other in
    let p = spelled_parts (unsigned_abs num) (unsigned_abs den) parts.0 in
    let some = nonzero 1000000 (unsigned_abs den) p.places (omega arith) in
    let places : 1000000 ≡ 1000000 / unsigned_abs den * unsigned_abs den = sym (div-mul_cancel (unsigned_abs den) (dvd_of_mod-eq-zero (unsigned_abs den) p.places)) in
    let times : unsigned_abs num * 1000000 ≡ unsigned_abs num * (1000000 / unsigned_abs den * unsigned_abs den) = ap (λ n. unsigned_abs num * n) places in
    let cross : unsigned_abs num * 1000000 ≡ rate_millionths num den * unsigned_abs den = omega (arith, times) in
    let self : IsSpelledRate (unsigned_abs num) (unsigned_abs den) (unsigned_abs num) (unsigned_abs den) = record { equal = refl; lowest = lowest; profile = parts.0 } in
    record {
      top = rate_millionths num den;
      size = refl;
      rate = spelled (sym (near_any_same (unsigned_abs num) (unsigned_abs den) (rate_millionths num den) 1000000 some (omega arith) cross) ∙ parts.1)
          (spelled_same (unsigned_abs num) (unsigned_abs den) (rate_millionths num den) 1000000 (unsigned_abs num) (unsigned_abs den) some cross self);
    }

spelled_reads : (rate : Rate) (text : List ℕ) → text ≡ decimal_text (pos (rate_millionths rate.num rate.den)) → unsigned_abs rate.den ≢ 1001 → ReadsAsRate text rate
spelled_reads rate text e other =
    let r = decimal_reads (pos (rate_millionths rate.num rate.den)) (rate_small rate) in
    let value = decimal_value r.decimal.neg r.decimal.digits r.decimal.exp in
    record {
      decimal = r.decimal;
      spelled = subst (λ t. IsSpelled t r.decimal) (sym e) r.spelled;
      gives = gives_same value (record { top = pos (rate_millionths rate.num rate.den); bottom = 1000000 }) rate.num rate.den r.exact
          (one-le-pow (lowered r.decimal.exp) 10 (omega arith)) (omega arith) (spelled_gives rate.num rate.den rate.given rate.lowest other);
    }

-- the text of a 1001 relative, from its digits
relative_in : (n : ℕ) (text whole decimals : List ℕ) (d : ℕ) (ds : List ℕ) (top places : ℕ) (rate : Rate) → Contains counts n → decimals ≡ d ∷ ds → text ≡ whole ++ (46 ∷ d ∷ ds)
    → IsInt whole → digits_test decimals ≡ true → significant (whole ++ decimals) ≤ 38 → digits_value 10 (whole ++ decimals) ≡ top → length decimals ≡ places → top < 100000000000000000000000000000000000000 → places ≤ 38
    → is_near top (10 ^ places) n ≡ true → unsigned_abs rate.num ≡ 1000 * n → unsigned_abs rate.den ≡ 1001 → ReadsAsRate text rate
relative_in n text whole decimals d ds top places rate in_counts e is int digits few value count small short near is_num is_den =
    let number : Numeral = record { neg = false; whole = whole; decimals = decimals; mark = []; down = false; power = [] } in
    let r = decimal_for false top places small short in
    let bare : top * 10 ^ 0 ≡ top = omega arith in
    let zeros : places + 0 ≡ places = omega arith in
    let same : IsSame (decimal_value r.decimal.neg r.decimal.digits r.decimal.exp) (fraction (record { neg = false; whole = whole; decimals = decimals; mark = []; down = false; power = [] })) =
    rw (value, count) r.same in
    let gives : GivesRate (record { top = pos (top * 10 ^ 0); bottom = 10 ^ (places + 0) }) rate.num rate.den =
    rw (bare, zeros) (record { top = top; size = refl; rate = relative n in_counts near is_num is_den }) in
    record {
      decimal = r.decimal;
      spelled = record {
        number = record { neg = false; whole = whole; decimals = decimals; mark = []; down = false; power = [] };
        spells = spells_pointed text whole decimals d ds e is int digits;
        same = same;
        short = λ long. too_long long;
      };
      gives = gives_same (decimal_value r.decimal.neg r.decimal.digits r.decimal.exp) (record { top = pos (top * 10 ^ 0); bottom = 10 ^ (places + 0) }) rate.num rate.den r.same
          (one-le-pow (lowered r.decimal.exp) 10 (omega arith)) (one-le-pow (places + 0) 10 (omega arith)) gives;
    }
  where
    too_long : (38 < significant (whole ++ decimals)) ⊎ (3 < 0) → ⊥
    too_long (inl h) = omega (arith, h, few)
    too_long (inr h) = omega arith

relative_reads : (n : ℕ) → Contains counts n → (rate : Rate) → unsigned_abs rate.num ≡ 1000 * n → unsigned_abs rate.den ≡ 1001 → ReadsAsRate (relative_text (1000 * n)) rate
relative_reads = counts_each (λ n. (rate : Rate) → unsigned_abs rate.num ≡ 1000 * n → unsigned_abs rate.den ≡ 1001 → ReadsAsRate (relative_text (1000 * n)) rate)
    (λ rate. relative_in 15 _ (codes "14") (codes "985014985014985") _ _ 14985014985014985 15 rate (0, omega arith, refl) refl refl (int_from (codes "14") (omega arith) refl (λ e. omega arith)) refl (omega arith) refl refl (omega arith) (omega arith) refl)
    (λ rate. relative_in 24 _ (codes "23") (codes "976023976023978") _ _ 23976023976023978 15 rate (1, omega arith, refl) refl refl (int_from (codes "23") (omega arith) refl (λ e. omega arith)) refl (omega arith) refl refl (omega arith) (omega arith) refl)
    (λ rate. relative_in 30 _ (codes "29") (codes "97002997002997") _ _ 2997002997002997 14 rate (2, omega arith, refl) refl refl (int_from (codes "29") (omega arith) refl (λ e. omega arith)) refl (omega arith) refl refl (omega arith) (omega arith) refl)
    (λ rate. relative_in 48 _ (codes "47") (codes "952047952047955") _ _ 47952047952047955 15 rate (3, omega arith, refl) refl refl (int_from (codes "47") (omega arith) refl (λ e. omega arith)) refl (omega arith) refl refl (omega arith) (omega arith) refl)
    (λ rate. relative_in 60 _ (codes "59") (codes "94005994005994") _ _ 5994005994005994 14 rate (4, omega arith, refl) refl refl (int_from (codes "59") (omega arith) refl (λ e. omega arith)) refl (omega arith) refl refl (omega arith) (omega arith) refl)
    (λ rate. relative_in 120 _ (codes "119") (codes "88011988011988") _ _ 11988011988011988 14 rate (5, omega arith, refl) refl refl (int_from (codes "119") (omega arith) refl (λ e. omega arith)) refl (omega arith) refl refl (omega arith) (omega arith) refl)

relative_of : (rate : Rate) (text : List ℕ) → text ≡ relative_text (unsigned_abs rate.num) → unsigned_abs rate.den ≡ 1001 → ReadsAsRate text rate
relative_of rate text e den =
    let r = relative_parts (unsigned_abs rate.num) (unsigned_abs rate.den) rate.given den in
    subst (λ t. ReadsAsRate t rate) (sym (e ∙ ap relative_text r.2)) (relative_reads r.0 r.1 rate r.2 den)

pub rate_reads : (rate : Rate) → ReadsAsRate (rate_text rate) rate
rate_reads rate = by (unsigned_abs rate.den == 1001) refl
  where
    by : (t : Bool) → (unsigned_abs rate.den == 1001) ≡ t → ReadsAsRate (rate_text rate) rate
    by true e = relative_of rate (rate_text rate) (rw e refl) (grind (arith, nat_tests, e))
    by false e = spelled_reads rate (rate_text rate) (rw e refl) (grind (arith, nat_tests, e))
