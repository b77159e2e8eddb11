-- Where the digits at a text's front end, and what more digits do.
use Rattle.std.proofs.Common.{◌≡◌, ℕ, ◌+◌, ◌<◌, ◌≤◌, ◌≢◌, Bool, true, false, List, [], ◌∷◌, ◌++◌, length, refl, sym, ◌∙◌, ap, arith, take, drop, get_or, append_assoc, ◌⊎◌, inl, inr}
use Rattle.std.specs.Prelude.{◌==◌}
use Rattle.std.specs.Char.{digit_value, is_ascii_digit}
use Rattle.std.specs.List.{prefix_len}
use Rattle.std.specs.Str.Parse.{AllDigits, digits_value}
use Rattle.std.proofs.lemmas.Bool.Decides.{nat_tests}
use Rattle.std.proofs.lemmas.List.{take_more, take-append-drop, append-nil}
use Rattle.std.proofs.lemmas.Str.{digit_value_digit}
use Rattle.std.proofs.lemmas.Str.Parse.{digit_from_value}
use Rattle.std.proofs.lemmas.Int.Digits.{digits_value-lt}
use Rattle.std.proofs.Math.Nat.{pow-le-pow_right}
pub use Rattle.limits.proofs.ListLemmas.{count-none_or_more}
use Rattle.tick_time.specs.Numerals.{after_zeros, significant, StopsDigits}
use Rattle.tick_time.proofs.Pushes.{push, significant-le}

pub digit_test : (c : ℕ) → digit_value c < 10 → is_ascii_digit c ≡ true
digit_test c small = let r = digit_from_value c small in grind (arith, nat_tests)

other_test : (b : Bool) (c : ℕ) → is_ascii_digit c ≡ b → 10 ≤ digit_value c → b ≡ false
other_test false c e large = refl
other_test true c e large = let d = digit_value_digit c (grind (arith, nat_tests)) in grind (arith, nat_tests)

pub front_digits : (digits rest : List ℕ) → AllDigits 10 digits → StopsDigits rest → prefix_len is_ascii_digit (digits ++ rest) ≡ length digits
front_digits [] [] all stops = refl
front_digits [] (c ∷ cs) all stops = rw (other_test (is_ascii_digit c) c refl (stops (omega arith))) refl
front_digits (d ∷ ds) rest all stops = rw (digit_test d all.0) (omega (arith, front_digits ds rest all.1 stops))

one_more : (b : Bool) (xs : List ℕ) (y : ℕ) → (y == 48) ≡ b → (length (after_zeros xs) ≡ 0) ⊎ (0 < length (after_zeros xs)) → significant xs ≤ significant (xs ++ (y ∷ []))
one_more true xs y e (inl none) = omega (arith, significant-le xs)
one_more true xs y e (inr some) = let is : y ≡ 48 = grind (arith, nat_tests) in omega (arith, ((push xs y).zero_behind is some).1)
one_more false xs y e _ = let ne : y ≢ 48 = grind (arith, nat_tests) in omega (arith, ((push xs y).other ne).1, significant-le xs)

-- more digits leave no fewer significant ones
pub significant_more : (xs ys : List ℕ) → significant xs ≤ significant (xs ++ ys)
significant_more xs [] = rw append-nil (omega arith)
significant_more xs (y ∷ ys) =
    let e : xs ++ (y ∷ ys) ≡ (xs ++ (y ∷ [])) ++ ys = sym (append_assoc xs (y ∷ []) ys) in
    rw e (omega (arith, significant_more (xs ++ (y ∷ [])) ys, one_more (y == 48) xs y refl (count-none_or_more (length (after_zeros xs)))))

pub front_long : (read ds : List ℕ) (i : ℕ) → i < length ds → 38 < significant ((read ++ take i ds) ++ (get_or ds i 0 ∷ [])) → 38 < significant (read ++ ds)
front_long read ds i lt long =
    let front : (read ++ take i ds) ++ (get_or ds i 0 ∷ []) ≡ read ++ take (i + 1) ds = append_assoc read (take i ds) (get_or ds i 0 ∷ []) ∙ ap (λ x. read ++ x) (sym (take_more ds i 0 lt)) in
    let whole : (read ++ take (i + 1) ds) ++ drop (i + 1) ds ≡ read ++ ds = append_assoc read (take (i + 1) ds) (drop (i + 1) ds) ∙ ap (λ x. read ++ x) (take-append-drop (i + 1) ds) in
    omega (arith, ap significant front, ap significant whole, significant_more (read ++ take (i + 1) ds) (drop (i + 1) ds), long)

-- a number of at most three digits is below a thousand
pub below_thousand : (digits : List ℕ) → AllDigits 10 digits → length digits ≤ 3 → digits_value 10 digits < 1000
below_thousand digits all few = omega (arith, digits_value-lt 10 digits all, pow-le-pow_right {n = 10} (omega arith) {i = length digits} {j = 3} few)
