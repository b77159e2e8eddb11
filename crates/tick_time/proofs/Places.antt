-- The digits behind the point.
use Rattle.std.proofs.Common.{◌≡◌, ℕ, zero, suc, ◌+◌, ◌-◌, ◌*◌, ◌/◌, ◌%◌, ◌^◌, ◌<◌, ◌≤◌, ◌≢◌, Bool, true, false, cond, List, [], ◌∷◌, ◌++◌, length, refl, sym, ◌∙◌, ap, arith, add-one, append_assoc, slice_index}
use Rattle.std.specs.Prelude.{◌==◌}
use Rattle.std.proofs.lemmas.Bool.Decides.{nat_tests}
use Rattle.std.proofs.lemmas.List.{append-nil}
use Rattle.std.specs.Char.{digit_value}
use Rattle.std.specs.Str.Parse.{AllDigits, digits_value, digits_value_after}
use Rattle.std.proofs.lemmas.Grind.{pow_more}
use Rattle.std.proofs.lemmas.Str.{digit_value_digit}
use Rattle.std.proofs.Math.Nat.{add-mul-mod_self_right, mul-mod_left}
use Rattle.tick_time.specs.Texts.{decimals_of}

pub next_decimal : (k left rest : ℕ) (text : List ℕ) → left ≡ suc k → rest % 100000 * 10 ≢ 0 → (text ++ ((48 + rest / 100000) ∷ [])) ++ decimals_of k (rest % 100000 * 10) ≡ text ++ decimals_of left rest
unfolding decimals_of
next_decimal k left rest text e more =
    let test : (rest % 100000 * 10 == 0) ≡ false = grind (arith, nat_tests, more) in
    rw (e, test) (append_assoc text ((48 + rest / 100000) ∷ []) (decimals_of k (rest % 100000 * 10)))

pub last_decimal : (k left rest : ℕ) (text : List ℕ) → left ≡ suc k → rest % 100000 * 10 ≡ 0 → text ++ ((48 + rest / 100000) ∷ []) ≡ text ++ decimals_of left rest
unfolding decimals_of
last_decimal k left rest text e none =
    let test : (rest % 100000 * 10 == 0) ≡ true = grind (arith, nat_tests, none) in
    rw (e, test) refl

-- digits in front of others
pub value_after : (n : ℕ) (ds : List ℕ) → digits_value_after 10 n ds ≡ n * 10 ^ length ds + digits_value 10 ds
value_after n [] = omega arith
value_after n (d ∷ ds) =
    let p : 10 ^ suc (length ds) ≡ 10 ^ length ds * 10 = ap (λ k. 10 ^ k) (sym (add-one (length ds))) ∙ pow_more 10 (length ds) in
    let here : digits_value_after 10 (n * 10 + digit_value d) ds ≡ (n * 10 + digit_value d) * 10 ^ length ds + digits_value 10 ds = value_after (n * 10 + digit_value d) ds in
    let there : digits_value_after 10 (0 * 10 + digit_value d) ds ≡ (0 * 10 + digit_value d) * 10 ^ length ds + digits_value 10 ds = value_after (0 * 10 + digit_value d) ds in
    rw p (omega (arith, here, there))

after_append : (n : ℕ) (xs ys : List ℕ) → digits_value_after 10 n (xs ++ ys) ≡ digits_value_after 10 (digits_value_after 10 n xs) ys
after_append n [] ys = refl
after_append n (x ∷ xs) ys = after_append (n * 10 + digit_value x) xs ys

pub value-append : (xs ys : List ℕ) → digits_value 10 (xs ++ ys) ≡ digits_value 10 xs * 10 ^ length ys + digits_value 10 ys
value-append xs ys = after_append 0 xs ys ∙ value_after (digits_value 10 xs) ys

-- what the digits of millionths are: k places are enough
pub record Places (k rest : ℕ) (ds : List ℕ) : Type 0 where
  pub digits : AllDigits 10 ds
  pub some : 0 < length ds
  pub most : length ds ≤ k
  pub value : digits_value 10 ds * 1000000 ≡ rest * 10 ^ length ds
  pub last : rest ≢ 0 → slice_index ds (length ds - 1) ≢ 48

pub digit_is : (d : ℕ) → d < 10 → digit_value (48 + d) ≡ d
digit_is d small = omega (arith, digit_value_digit (48 + d) (omega arith, omega arith))

pub last_cons : (c : ℕ) (ds : List ℕ) → 0 < length ds → slice_index (c ∷ ds) (length (c ∷ ds) - 1) ≡ slice_index ds (length ds - 1)
last_cons c [] some = absurd (omega arith)
last_cons c (x ∷ xs) some =
    let e : suc (suc (length xs)) - 1 ≡ suc (length xs) = omega arith in
    let f : suc (length xs) - 1 ≡ length xs = omega arith in rw (e, f) refl

value_in : (q r v l dv x : ℕ) → dv ≡ q → x ≡ (0 * 10 + dv) * l + v → v * 1000000 ≡ r * 10 * l → x * 1000000 ≡ (100000 * q + r) * (l * 10)
value_in q r v l dv x e f g = rw (f, e) (omega (arith, g))

places_in : (k rest : ℕ) (b : Bool) → (rest % 100000 * 10 == 0) ≡ b → rest < 1000000
    → (rest % 100000 * 10 ≢ 0 → Places k (rest % 100000 * 10) (decimals_of k (rest % 100000 * 10))) → Places (suc k) rest ((48 + rest / 100000) ∷ cond b [] (decimals_of k (rest % 100000 * 10)))
places_in k rest true test small more =
    let none : rest % 100000 * 10 ≡ 0 = grind (arith, nat_tests, test) in
    let d = digit_is (rest / 100000) (omega arith) in
    record {
      digits = (omega arith, tt);
      some = omega arith;
      most = omega arith;
      value = omega arith;
      last = λ ne e. omega arith;
    }
places_in k rest false test small more =
    let some : rest % 100000 * 10 ≢ 0 = grind (arith, nat_tests, test) in
    let d = digit_is (rest / 100000) (omega arith) in
    let p = more some in
    let parts : rest ≡ 100000 * (rest / 100000) + rest % 100000 = omega arith in
    let power : 10 ^ suc (length (decimals_of k (rest % 100000 * 10))) ≡ 10 ^ length (decimals_of k (rest % 100000 * 10)) * 10 = ap (λ k. 10 ^ k) (sym (add-one (length (decimals_of k (rest % 100000 * 10))))) ∙ pow_more 10 (length (decimals_of k (rest % 100000 * 10))) in
    record {
      digits = (omega arith, p.digits);
      some = omega arith;
      most = omega (arith, p.most);
      value =
          value_in (rest / 100000) (rest % 100000) (digits_value 10 (decimals_of k (rest % 100000 * 10))) (10 ^ length (decimals_of k (rest % 100000 * 10))) (digit_value (48 + rest / 100000)) _ d
          (value_after (0 * 10 + digit_value (48 + rest / 100000)) (decimals_of k (rest % 100000 * 10))) p.value
          ∙ ap (λ n. n * (10 ^ length (decimals_of k (rest % 100000 * 10)) * 10)) (sym parts) ∙ ap (λ n. rest * n) (sym power);
      last = λ ne e. p.last some (sym (last_cons (48 + rest / 100000) (decimals_of k (rest % 100000 * 10)) p.some) ∙ e);
    }

fits_next : (k rest : ℕ) → (rest * 10 ^ suc k) % 1000000 ≡ 0 → (rest % 100000 * 10 * 10 ^ k) % 1000000 ≡ 0
fits_next k rest fits =
    let power : 10 ^ suc k ≡ 10 ^ k * 10 = ap (λ k. 10 ^ k) (sym (add-one k)) ∙ pow_more 10 k in
    let parts : rest * (10 ^ k * 10) ≡ (100000 * (rest / 100000) + rest % 100000) * (10 ^ k * 10) = ap (λ n. n * (10 ^ k * 10)) (omega arith) in
    let whole : rest * 10 ^ suc k ≡ rest % 100000 * 10 * 10 ^ k + rest / 100000 * 10 ^ k * 1000000 = rw power (omega (arith, parts)) in
    sym (add-mul-mod_self_right (rest % 100000 * 10 * 10 ^ k) (rest / 100000 * 10 ^ k) 1000000) ∙ ap (λ n. n % 1000000) (sym whole) ∙ fits

places_some : (k rest : ℕ) → rest < 1000000 → (rest * 10 ^ k) % 1000000 ≡ 0 → rest ≢ 0 → Places k rest (decimals_of k rest)
unfolding decimals_of
places_some zero rest small fits some = absurd (some (omega arith))
places_some (suc k) rest small fits some = places_in k rest (rest % 100000 * 10 == 0) refl small (places_some k (rest % 100000 * 10) (omega arith) (fits_next k rest fits))

pub places_six : (rest : ℕ) → rest < 1000000 → Places 6 rest (decimals_of 6 rest)
unfolding decimals_of
places_six rest small = places_in 5 rest (rest % 100000 * 10 == 0) refl small (places_some 5 (rest % 100000 * 10) (omega arith) (fits_next 5 rest (mul-mod_left rest 1000000)))

-- the digits of nothing are one 0
pub places_none : decimals_of 6 0 ≡ 48 ∷ []
unfolding decimals_of
places_none = refl

pub no_decimals : (left rest : ℕ) (text : List ℕ) → left ≡ 0 → text ≡ text ++ decimals_of left rest
unfolding decimals_of
no_decimals left rest text e = rw (e, append-nil) refl
