-- The text of millionths is a number of JSON, and stands for them exactly.
use Rattle.std.proofs.Common.{◌≡◌, ℕ, zero, suc, ◌+◌, ◌-◌, ◌*◌, ◌/◌, ◌%◌, ◌^◌, ◌<◌, ◌≤◌, Bool, false, ℤ, pos, negsuc, ◌*ℤ◌, unsigned_abs, List, [], ◌∷◌, ◌++◌, length, refl, sym, ◌∙◌, ap, arith, append_assoc, length-append, slice_index, decimal, ◌⊎◌, inl, inr}
use Rattle.std.proofs.lemmas.List.{append-nil}
use Rattle.std.proofs.lemmas.Fmt.{decimal_is_IsNumeral_wide, first_decimal, decimal_digit, length-decimal-le_wide}
use Rattle.std.specs.Str.Parse.{digits_value}
use Rattle.tick_time.specs.Numerals.{IsInt, absent, minus, frac, signed, significant}
use Rattle.tick_time.proofs.Pushes.{significant-le, after_zeros-le}
use Rattle.tick_time.specs.Texts.{IsDecimalText, is_minus, decimals_of}
use Rattle.tick_time.proofs.Fractions.{signed-mul}
use Rattle.tick_time.proofs.Places.{Places, places_six, places_none, value-append}

lead : (w : ℕ) → w ≤ 1000000000000000000 → slice_index (decimal w) 0 ≡ 48 → length (decimal w) ≡ 1
lead zero small h = ap length (decimal_digit 0 (omega arith))
lead (suc w) small h = absurd (omega (arith, first_decimal (suc w) (omega arith) (omega arith)))

int : (w : ℕ) → w ≤ 1000000000000000000 → IsInt (decimal w)
int w small = let d = decimal_is_IsNumeral_wide w (omega arith) in record { some = d.0.0; all = d.0.1; lead = lead w small }

frac_some : (ds : List ℕ) → 0 < length ds → frac ds ≡ 46 ∷ ds
frac_some [] some = absurd (omega arith)
frac_some (d ∷ ds) some = refl

pub signed_back : (n : ℤ) → signed (is_minus n) (unsigned_abs n) ≡ n
signed_back (pos n) = refl
signed_back (negsuc n) = refl

size_in : (w f x v l : ℕ) → x ≡ w * l + v → v * 1000000 ≡ f * l → x * 1 * 1000000 ≡ (w * 1000000 + f) * l
size_in w f x v l e g = rw e (omega (arith, g))

exact_in : (neg : Bool) (size w f : ℕ) (ds : List ℕ) → size ≡ w * 1000000 + f → w ≤ 1000000000000000000 → Places 6 f ds
    → (signed neg (digits_value 10 (decimal w ++ ds) * 1) *ℤ pos 1000000) ≡ (signed neg size *ℤ pos (10 ^ (length ds + 0)))
exact_in neg size w f ds e small p =
    let whole : digits_value 10 (decimal w) ≡ w = (decimal_is_IsNumeral_wide w (omega arith)).1 in
    let all : digits_value 10 (decimal w ++ ds) ≡ w * 10 ^ length ds + digits_value 10 ds = value-append (decimal w) ds ∙ ap (λ n. n * 10 ^ length ds + digits_value 10 ds) whole in
    let zeros : length ds + 0 ≡ length ds = omega arith in
    signed-mul neg (digits_value 10 (decimal w ++ ds) * 1) 1000000
    ∙ ap (signed neg) (size_in w f (digits_value 10 (decimal w ++ ds)) (digits_value 10 ds) (10 ^ length ds) all p.value ∙ ap (λ n. n * 10 ^ length ds) (sym e) ∙ ap (λ k. size * 10 ^ k) (sym zeros))
    ∙ sym (signed-mul neg size (10 ^ (length ds + 0)))

last_in : (f : ℕ) → f < 1000000 → slice_index (decimals_of 6 f) (length (decimals_of 6 f) - 1) ≡ 48 → length (decimals_of 6 f) ≡ 1
last_in zero small h = ap length places_none
last_in (suc f) small h = absurd ((places_six (suc f) small).last (λ e. omega arith) h)

joined : (text start whole : List ℕ) (ds : List ℕ) → 0 < length ds → text ≡ ((start ++ whole) ++ (46 ∷ [])) ++ ds → text ≡ start ++ (whole ++ (frac ds ++ ([] ++ [])))
joined text start whole ds some e =
    e ∙ append_assoc (start ++ whole) (46 ∷ []) ds ∙ append_assoc start whole (46 ∷ ds) ∙ ap (λ x. start ++ (whole ++ x)) (sym (append-nil (46 ∷ ds)) ∙ ap (λ x. x ++ []) (sym (frac_some ds some)))

short : (w : ℕ) (ds : List ℕ) → w ≤ 1000000000000000000 → length ds ≤ 6 → (38 < significant (decimal w ++ ds)) ⊎ (3 < 0) → ⊥
short w ds small few (inl long) =
    omega (arith, long, significant-le (decimal w ++ ds), after_zeros-le (decimal w ++ ds), length-append (decimal w) ds, length-decimal-le_wide 19 w (omega arith) (omega arith) (omega arith))
short w ds small few (inr long) = omega arith

pub written : (text : List ℕ) (n : ℤ) (size : ℕ) → size ≡ unsigned_abs n → size ≤ 1000000000000000000000000
    → text ≡ ((minus (is_minus n) ++ decimal (size / 1000000)) ++ (46 ∷ [])) ++ decimals_of 6 (size % 1000000) → IsDecimalText text n
written text n size e small is =
    let p = places_six (size % 1000000) (omega arith) in
    let exact = exact_in (is_minus n) size (size / 1000000) (size % 1000000) (decimals_of 6 (size % 1000000)) (omega arith) (omega arith) p in
    record {
      number = record { neg = is_minus n; whole = decimal (size / 1000000); decimals = decimals_of 6 (size % 1000000); mark = []; down = false; power = [] };
      spells = record {
        spelled = joined text (minus (is_minus n)) (decimal (size / 1000000)) (decimals_of 6 (size % 1000000)) p.some is;
        int = int (size / 1000000) (omega arith);
        decimals = p.digits;
        exp = absent refl refl refl;
      };
      exact = exact ∙ ap (λ z. z *ℤ pos (10 ^ (length (decimals_of 6 (size % 1000000)) + 0))) (ap (signed (is_minus n)) e ∙ signed_back n);
      plain = refl;
      some = p.some;
      last = last_in (size % 1000000) (omega arith);
      sign = refl;
      short = short (size / 1000000) (decimals_of 6 (size % 1000000)) (omega arith) p.most;
    }
