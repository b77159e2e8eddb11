-- One more digit behind those read so far.
use Rattle.std.proofs.Common.{◌≡◌, ℕ, zero, suc, ◌+◌, ◌*◌, ◌-◌, ◌^◌, ◌%◌, ◌<◌, ◌≤◌, ◌≢◌, Bool, true, false, cond, List, [], ◌∷◌, ◌++◌, length, refl, sym, ◌∙◌, ap, arith, add-one, reverse, length-append, ◌⊎◌, inl, inr}
use Rattle.std.specs.Prelude.{◌==◌}
use Rattle.std.specs.Char.{digit_value}
use Rattle.std.specs.Str.Parse.{digits_value}
use Rattle.std.proofs.lemmas.Grind.{pow_more}
use Rattle.std.proofs.lemmas.Bool.Decides.{nat_tests}
use Rattle.std.proofs.lemmas.Int.Digits.{digits_value_push}
use Rattle.std.proofs.lemmas.List.{reverse-append, length-reverse}
use Rattle.std.proofs.lemmas.Nat.{pow-add, mod-mul-add}
use Rattle.std.proofs.lemmas.Str.{digit_value_digit}
use Rattle.std.proofs.Math.Nat.{pow-le-pow_right, mul-le-mul_right}
use Rattle.tick_time.specs.Numerals.{after_zeros, significant}
use Rattle.tick_time.specs.Tallies.{Tallies}

-- a digit that is not 0 stays
pub after_zeros-other : (c : ℕ) (ds : List ℕ) → c ≢ 48 → after_zeros (c ∷ ds) ≡ c ∷ ds
after_zeros-other c ds ne = let test : (c == 48) ≡ false = grind (arith, nat_tests) in rw test

after_in : (b : Bool) (d : ℕ) (ds es : List ℕ) → 0 < length (cond b (after_zeros ds) (d ∷ ds)) → (0 < length (after_zeros ds) → after_zeros (ds ++ es) ≡ after_zeros ds ++ es)
    → cond b (after_zeros (ds ++ es)) (d ∷ (ds ++ es)) ≡ cond b (after_zeros ds) (d ∷ ds) ++ es
after_in true d ds es some more = more some
after_in false d ds es some more = refl

pub after_zeros-some : (ds es : List ℕ) → 0 < length (after_zeros ds) → after_zeros (ds ++ es) ≡ after_zeros ds ++ es
after_zeros-some [] es some = absurd (omega arith)
after_zeros-some (d ∷ ds) es some = after_in (d == 48) d ds es some (after_zeros-some ds es)

none_in : (b : Bool) (d : ℕ) (ds es : List ℕ) → length (cond b (after_zeros ds) (d ∷ ds)) ≡ 0 → (length (after_zeros ds) ≡ 0 → after_zeros (ds ++ es) ≡ after_zeros es)
    → cond b (after_zeros (ds ++ es)) (d ∷ (ds ++ es)) ≡ after_zeros es
none_in true d ds es none more = more none
none_in false d ds es none more = absurd (omega arith)

pub after_zeros-none : (ds es : List ℕ) → length (after_zeros ds) ≡ 0 → after_zeros (ds ++ es) ≡ after_zeros es
after_zeros-none [] es none = refl
after_zeros-none (d ∷ ds) es none = none_in (d == 48) d ds es none (after_zeros-none ds es)

shorter_in : (b : Bool) (d : ℕ) (ds : List ℕ) → length (after_zeros ds) ≤ length ds → length (cond b (after_zeros ds) (d ∷ ds)) ≤ length ds + 1
shorter_in true d ds le = omega arith
shorter_in false d ds le = omega arith

pub after_zeros-le : (ds : List ℕ) → length (after_zeros ds) ≤ length ds
after_zeros-le [] = omega arith
after_zeros-le (d ∷ ds) = omega (arith, shorter_in (d == 48) d ds (after_zeros-le ds))

pub significant-le : (ds : List ℕ) → significant ds ≤ length (after_zeros ds)
significant-le ds = omega (arith, after_zeros-le (reverse (after_zeros ds)), length-reverse (after_zeros ds))

-- what one more digit does, where some digit was not 0 and where none was
pub record Push (ds : List ℕ) (c : ℕ) : Type 0 where
  pub value : digits_value 10 (ds ++ (c ∷ [])) ≡ digits_value 10 ds * 10 + digit_value c
  pub zero_first : c ≡ 48 → length (after_zeros ds) ≡ 0 → (length (after_zeros (ds ++ (c ∷ []))) ≡ 0) × (significant (ds ++ (c ∷ [])) ≡ 0)
  pub zero_behind : c ≡ 48 → 0 < length (after_zeros ds) → (length (after_zeros (ds ++ (c ∷ []))) ≡ length (after_zeros ds) + 1) × (significant (ds ++ (c ∷ [])) ≡ significant ds)
  pub other : c ≢ 48 → (length (after_zeros (ds ++ (c ∷ []))) ≡ length (after_zeros ds) + 1) × (significant (ds ++ (c ∷ [])) ≡ length (after_zeros ds) + 1)

some_or_none : (n : ℕ) → (n ≡ 0) ⊎ (0 < n)
some_or_none zero = inl refl
some_or_none (suc n) = inr (omega arith)

zero_behind_in : (ds : List ℕ) → 0 < length (after_zeros ds) → (length (after_zeros (ds ++ (48 ∷ []))) ≡ length (after_zeros ds) + 1) × (significant (ds ++ (48 ∷ [])) ≡ significant ds)
zero_behind_in ds some =
    let e = after_zeros-some ds (48 ∷ []) some in (
      ap length e ∙ length-append (after_zeros ds) (48 ∷ []),
      ap (λ (xs : List ℕ). length (after_zeros (reverse xs))) e ∙ ap (λ (xs : List ℕ). length (after_zeros xs)) (reverse-append (after_zeros ds) (48 ∷ [])),
    )

other_in : (ds : List ℕ) (c : ℕ) → c ≢ 48 → (length (after_zeros ds) ≡ 0) ⊎ (0 < length (after_zeros ds))
    → (length (after_zeros (ds ++ (c ∷ []))) ≡ length (after_zeros ds) + 1) × (significant (ds ++ (c ∷ [])) ≡ length (after_zeros ds) + 1)
other_in ds c ne (inl none) =
    let e : after_zeros (ds ++ (c ∷ [])) ≡ c ∷ [] = after_zeros-none ds (c ∷ []) none ∙ after_zeros-other c [] ne in
    let one : length (after_zeros ds) + 1 ≡ 1 = omega arith in (
      ap length e ∙ sym one,
      ap (λ (xs : List ℕ). length (after_zeros (reverse xs))) e ∙ ap length (after_zeros-other c [] ne) ∙ sym one,
    )
other_in ds c ne (inr some) =
    let e = after_zeros-some ds (c ∷ []) some in (
      ap length e ∙ length-append (after_zeros ds) (c ∷ []),
      ap (λ (xs : List ℕ). length (after_zeros (reverse xs))) e ∙ ap (λ (xs : List ℕ). length (after_zeros xs)) (reverse-append (after_zeros ds) (c ∷ [])) ∙ ap length (after_zeros-other c (reverse (after_zeros ds)) ne) ∙ omega (arith, length-reverse (after_zeros ds)),
    )

zero_first_in : (ds : List ℕ) → length (after_zeros ds) ≡ 0 → (length (after_zeros (ds ++ (48 ∷ []))) ≡ 0) × (significant (ds ++ (48 ∷ [])) ≡ 0)
zero_first_in ds none =
    let e : after_zeros (ds ++ (48 ∷ [])) ≡ [] = after_zeros-none ds (48 ∷ []) none in (ap length e, ap (λ (xs : List ℕ). length (after_zeros (reverse xs))) e)

pub push : (ds : List ℕ) (c : ℕ) → Push ds c
push ds c = record {
  value = digits_value_push 10 ds c;
  zero_first = λ is none. rw is (zero_first_in ds none);
  zero_behind = λ is some. rw is (zero_behind_in ds some);
  other = λ ne. other_in ds c ne (some_or_none (length (after_zeros ds)));
}

-- digits, and one more behind a power of ten
pub joined_below : (digits count more d : ℕ) → digits < 10 ^ count → 1 ≤ more → d < 10 → digits * 10 ^ more + d < 10 ^ (count + more)
joined_below digits count more d below some small =
    let ten : 10 ≤ 10 ^ more = pow-le-pow_right {n = 10} (omega arith) {i = 1} {j = more} some in
    let all : (digits + 1) * 10 ^ more ≤ 10 ^ count * 10 ^ more = mul-le-mul_right (10 ^ more) (omega arith) in
    omega (arith, pow-add 10 count more)

pub joined_last : (digits more d : ℕ) → 1 ≤ more → d < 10 → (digits * 10 ^ more + d) % 10 ≡ d
joined_last digits (suc more) d some small =
    let power : 10 ^ suc more ≡ 10 ^ more * 10 = ap (λ k. 10 ^ k) (sym (add-one more)) ∙ pow_more 10 more in
    let e : digits * 10 ^ suc more + d ≡ digits * 10 ^ more * 10 + d = rw power (omega arith) in rw e (mod-mul-add (digits * 10 ^ more) 10 d small)
joined_last digits zero d some small = absurd (omega arith)

pub power_fits : (k : ℕ) → k ≤ 38 → 10 ^ k ≤ 100000000000000000000000000000000000000
power_fits k le = pow-le-pow_right {n = 10} (omega arith) {i = k} {j = 38} le

-- a digit's code and its value
pub value_of_digit : (c : ℕ) → 48 ≤ c → c ≤ 57 → digit_value c + 48 ≡ c
value_of_digit c low high = digit_value_digit c (low, high)

pub joined_fits : (digits count more d : ℕ) → digits < 10 ^ count → count + more ≤ 38 → 1 ≤ more → d < 10 → digits * 10 ^ more + d < 100000000000000000000000000000000000000
joined_fits digits count more d below few some small = omega (arith, joined_below digits count more d below some small, power_fits (count + more) few)

-- what is kept after one more zero
pub after_zero : (digits count behind next c : ℕ) (read : List ℕ) → Tallies digits count behind read → c ≡ 48 → digits < 10 ^ count → (count ≡ 0 → behind ≡ 0)
    → (count ≡ 0 → next ≡ 0) → (0 < count → next ≡ behind + 1) → Tallies digits count next (read ++ (c ∷ []))
after_zero digits zero behind next c read t is below bare none some =
    let p = (push read c).zero_first is (omega (arith, t.behind, bare refl)) in
    let nothing : digits ≡ 0 = omega arith in
    let at : digit_value c ≡ 0 = ap digit_value is in
    record {
      value = (push read c).value ∙ rw (nothing, at, none refl) (omega (arith, rw nothing at t.value));
      significant_is = p.1;
      behind = omega (arith, p.0, none refl);
    }
after_zero digits (suc count) behind next c read t is below bare none some =
    let p = (push read c).zero_behind is (omega (arith, t.behind)) in
    let at : digit_value c ≡ 0 = ap digit_value is in
    record {
      value = (push read c).value ∙ rw (at, some (omega arith), t.value, pow_more 10 behind) (omega arith);
      significant_is = p.1 ∙ t.significant_is;
      behind = omega (arith, p.0, t.behind, some (omega arith));
    }

pub after_other : (digits count behind joined c : ℕ) (read : List ℕ) → Tallies digits count behind read → c ≢ 48 → 48 ≤ c → c ≤ 57 → joined ≡ digits * 10 ^ (behind + 1) + (c - 48)
    → Tallies joined (count + (behind + 1)) 0 (read ++ (c ∷ []))
after_other digits count behind joined c read t ne low high is =
    let p = (push read c).other ne in
    let at : digit_value c ≡ c - 48 = omega (arith, value_of_digit c low high) in
    record {
      value = (push read c).value ∙ rw (at, is, t.value, pow_more 10 behind) (omega arith);
      significant_is = p.1 ∙ omega (arith, t.behind);
      behind = omega (arith, p.0, t.behind);
    }

pub after_long : (digits count behind c : ℕ) (read : List ℕ) → Tallies digits count behind read → c ≢ 48 → 38 < count + (behind + 1) → 38 < significant (read ++ (c ∷ []))
after_long digits count behind c read t ne long = omega (arith, ((push read c).other ne).1, t.behind)

pub ruleset joins = (joined_below, joined_last, power_fits)

-- digits whose last is 0 are none
pub last_digit : (digits count : ℕ) → digits < 10 ^ count → (digits % 10 ≡ 0 → count ≡ 0) → digits % 10 ≡ 0 → digits ≡ 0
last_digit digits zero below last h = omega arith
last_digit digits (suc count) below last h = absurd (omega (arith, last h))
