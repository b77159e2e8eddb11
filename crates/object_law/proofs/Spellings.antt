-- A text spells at most one number, and so at most one decimal.
use Rattle.std.proofs.Common.{◌≡◌, ◌≢◌, ◌<◌, inl, inr, ℕ, Bool, true, false, cond, ◌+◌, ◌*◌, ◌^◌, List, [], ◌∷◌, ◌++◌, length, refl, sym, ap, subst, ◌∙◌, arith, slice_index}
use Rattle.std.specs.Prelude.{◌==◌, ◌||◌}
use Rattle.std.specs.Str.Parse.{AllDigits, digits_value}
use Rattle.std.proofs.lemmas.Bool.Decides.{nat_tests}
use Rattle.std.proofs.lemmas.Str.Parse.{digit_from_value}
use Rattle.tick_time.specs.Numerals.{Numeral, Spells, Fraction, IsExp, absent, plain, raised, lowered, AreDigits, StopsDigits, IsTooLong, minus, frac, fraction, signed, significant}
use Rattle.tick_time.proofs.Parts.{int_no_minus, exp_stops, exp_no_point, frac_stops}

-- the first of some numbers, and those behind it
abbrev pub first_of_list : List ℕ → ℕ
first_of_list [] = 0
first_of_list (x ∷ xs) = x

abbrev pub behind_first : List ℕ → List ℕ
behind_first [] = []
behind_first (x ∷ xs) = xs

more_same : (x y : ℕ) (xs ys : List ℕ) → x ≡ y → xs ≡ ys → x ∷ xs ≡ y ∷ ys
more_same x y xs ys e h = ap (λ (z : ℕ). z ∷ xs) e ∙ ap (λ (zs : List ℕ). y ∷ zs) h

-- digits, then no digit: the text divides in one way
pub digits_once : (xs ys r s : List ℕ) → AllDigits 10 xs → AllDigits 10 ys → StopsDigits r → StopsDigits s → xs ++ r ≡ ys ++ s → (xs ≡ ys) × (r ≡ s)
digits_once [] [] r s p q stops also e = (refl, e)
digits_once [] (y ∷ ys) r s p q stops also e =
    let no_digit : StopsDigits (y ∷ (ys ++ s)) = subst StopsDigits e stops in absurd (omega (arith, no_digit (omega arith), q.0))
digits_once (x ∷ xs) [] r s p q stops also e =
    let no_digit : StopsDigits (x ∷ (xs ++ r)) = subst StopsDigits (sym e) also in absurd (omega (arith, no_digit (omega arith), p.0))
digits_once (x ∷ xs) (y ∷ ys) r s p q stops also e =
    let below = digits_once xs ys r s p.1 q.1 stops also (ap behind_first e) in (more_same x y xs ys (ap first_of_list e) below.0, below.1)

signs_once : (n m : Bool) (r s : List ℕ) → slice_index r 0 ≢ 45 → slice_index s 0 ≢ 45 → minus n ++ r ≡ minus m ++ s → (n ≡ m) × (r ≡ s)
signs_once true true r s p q e = (refl, ap behind_first e)
signs_once false false r s p q e = (refl, e)
signs_once true false r s p q e = absurd (q (ap (λ (l : List ℕ). slice_index l 0) (sym e)))
signs_once false true r s p q e = absurd (p (ap (λ (l : List ℕ). slice_index l 0) e))

decimals_once : (xs ys r s : List ℕ) → AllDigits 10 xs → AllDigits 10 ys → StopsDigits r → StopsDigits s → slice_index r 0 ≢ 46 → slice_index s 0 ≢ 46
    → frac xs ++ r ≡ frac ys ++ s → (xs ≡ ys) × (r ≡ s)
decimals_once [] [] r s p q stops also no_point nor_there e = (refl, e)
decimals_once [] (y ∷ ys) r s p q stops also no_point nor_there e = absurd (no_point (ap (λ (l : List ℕ). slice_index l 0) e))
decimals_once (x ∷ xs) [] r s p q stops also no_point nor_there e = absurd (nor_there (ap (λ (l : List ℕ). slice_index l 0) (sym e)))
decimals_once (x ∷ xs) (y ∷ ys) r s p q stops also no_point nor_there e = digits_once (x ∷ xs) (y ∷ ys) r s p q stops also (ap behind_first e)

-- whether an exponent's text divides, and its digits
abbrev is_down : List ℕ → Bool
is_down text = first_of_list (behind_first text) == 45

abbrev is_sign : ℕ → Bool
is_sign c = c == 45 || c == 43

abbrev power_by : Bool → List ℕ → List ℕ
power_by true rest = behind_first rest
power_by false rest = rest

abbrev power_in : List ℕ → List ℕ
power_in text = power_by (is_sign (first_of_list (behind_first text))) (behind_first text)

digit_is_no_sign : (power : List ℕ) → AreDigits power → (is_sign (first_of_list power) ≡ false) × ((first_of_list power == 45) ≡ false)
digit_is_no_sign [] h = absurd (omega (arith, h.some))
digit_is_no_sign (c ∷ cs) h =
    let d = digit_from_value c h.all.0 in
    let minus_not : (c == 45) ≡ false = grind (arith, nat_tests, d) in
    let plus_not : (c == 43) ≡ false = grind (arith, nat_tests, d) in (rw (minus_not, plus_not) refl, minus_not)

exp_read : (mark power text : List ℕ) (down : Bool) → IsExp mark down power → text ≡ mark ++ power → (down ≡ is_down text) × (power ≡ power_in text)
exp_read mark power text down (absent m d p) e = rw (e, m, d, p) (refl, refl)
exp_read mark power text down (plain letter is m d h) e =
    let t : text ≡ letter ∷ power = e ∙ ap (λ (l : List ℕ). l ++ power) m in
    let n = digit_is_no_sign power h in rw t (d ∙ sym n.1, rw n.0 refl)
exp_read mark power text down (raised letter is m d h) e =
    let t : text ≡ letter ∷ 43 ∷ power = e ∙ ap (λ (l : List ℕ). l ++ power) m in rw t (d, refl)
exp_read mark power text down (lowered letter is m d h) e =
    let t : text ≡ letter ∷ 45 ∷ power = e ∙ ap (λ (l : List ℕ). l ++ power) m in rw t (d, refl)

-- the parts that a number's value depends on
pub record HasParts (n m : Numeral) : Type 0 where
  pub neg : n.neg ≡ m.neg
  pub whole : n.whole ≡ m.whole
  pub decimals : n.decimals ≡ m.decimals
  pub down : n.down ≡ m.down
  pub power : n.power ≡ m.power

pub parts_once : (text : List ℕ) (n m : Numeral) → Spells text n → Spells text m → HasParts n m
parts_once text n m p q =
    let sign = signs_once n.neg m.neg (n.whole ++ (frac n.decimals ++ (n.mark ++ n.power))) (m.whole ++ (frac m.decimals ++ (m.mark ++ m.power)))
    (int_no_minus _ _ p.int) (int_no_minus _ _ q.int) (sym p.spelled ∙ q.spelled) in
    let whole = digits_once n.whole m.whole (frac n.decimals ++ (n.mark ++ n.power)) (frac m.decimals ++ (m.mark ++ m.power)) p.int.all q.int.all
    (frac_stops _ _ (exp_stops _ _ _ p.exp)) (frac_stops _ _ (exp_stops _ _ _ q.exp)) sign.1 in
    let decimals = decimals_once n.decimals m.decimals (n.mark ++ n.power) (m.mark ++ m.power) p.decimals q.decimals (exp_stops _ _ _ p.exp) (exp_stops _ _ _ q.exp)
    (exp_no_point _ _ _ p.exp) (exp_no_point _ _ _ q.exp) whole.1 in
    let here = exp_read n.mark n.power (n.mark ++ n.power) n.down p.exp refl in
    let there = exp_read m.mark m.power (n.mark ++ n.power) m.down q.exp decimals.1 in
    record { neg = sign.0; whole = whole.0; decimals = decimals.0; down = here.0 ∙ sym there.0; power = here.1 ∙ sym there.1 }

abbrev fraction_by : Bool → List ℕ → List ℕ → Bool → List ℕ → Fraction
fraction_by neg whole decimals down power = record {
  top = signed neg (digits_value 10 (whole ++ decimals) * 10 ^ cond down 0 (digits_value 10 power));
  bottom = 10 ^ (length decimals + cond down (digits_value 10 power) 0);
}

pub fraction_once : (n m : Numeral) → HasParts n m → fraction n ≡ fraction m
fraction_once n m h =
    ap (λ (b : Bool). fraction_by b n.whole n.decimals n.down n.power) h.neg
    ∙ ap (λ (l : List ℕ). fraction_by m.neg l n.decimals n.down n.power) h.whole
    ∙ ap (λ (l : List ℕ). fraction_by m.neg m.whole l n.down n.power) h.decimals
    ∙ ap (λ (b : Bool). fraction_by m.neg m.whole m.decimals b n.power) h.down
    ∙ ap (λ (l : List ℕ). fraction_by m.neg m.whole m.decimals m.down l) h.power

pub long_same : (n m : Numeral) → HasParts n m → IsTooLong n → IsTooLong m
long_same n m h (inl e) = inl (subst (λ (l : List ℕ). 38 < significant l) (ap (λ (l : List ℕ). l ++ n.decimals) h.whole ∙ ap (λ (l : List ℕ). m.whole ++ l) h.decimals) e)
long_same n m h (inr e) = inr (subst (λ (l : List ℕ). 3 < length l) h.power e)
