-- A number of millionths has one decimal without final zeros.
use Rattle.std.proofs.Common.{◌≡◌, ◌≢◌, ℕ, suc, ◌+◌, ◌-◌, ◌*◌, ◌^◌, ◌<◌, ◌≤◌, Bool, false, cond, ℤ, pos, ◌*ℤ◌, unsigned_abs, List, [], ◌∷◌, ◌++◌, length, refl, sym, ap, ap₂, ◌∙◌, arith, add-one, slice_index, decimal}
use Rattle.std.proofs.Math.Nat.{mul-le-mul_right, le_of_mul-le-mul_right}
use Rattle.std.proofs.lemmas.Bool.Decides.{nat_tests}
use Rattle.std.proofs.lemmas.Fmt.{decimal-digits_value}
use Rattle.std.proofs.lemmas.Grind.{pow_more}
use Rattle.std.proofs.lemmas.Int.Digits.{digits_value-lt}
use Rattle.std.proofs.lemmas.Str.Parse.{numerals_by_value, tells_digits}
use Rattle.std.specs.Char.{digit_value}
use Rattle.std.specs.Str.Parse.{AllDigits, digits_value}
use Rattle.tick_time.specs.Numerals.{IsInt, IsExp, absent, plain, raised, lowered, minus, frac, signed}
use Rattle.tick_time.specs.Texts.{IsDecimalText, is_minus}
use Rattle.tick_time.proofs.Fractions.{signed-mul}
use Rattle.tick_time.proofs.Halves.{abs-signed}
use Rattle.tick_time.proofs.Places.{last_cons, value-append, value_after}
use Rattle.tick_time.proofs.MillionthsText.{signed_back, written}
use Rattle.schema_write.specs.Texts.{decimal_text}

-- the whole parts of two equal fractions aren't one below the other
not_less : (d e x y a b : ℕ) → a < x → b < y → (d * x + a) * y ≡ (e * y + b) * x → d < e → ⊥
not_less d e x y a b p q h less =
    let ha : (a + 1) * y ≤ x * y = mul-le-mul_right y (omega arith) in
    let hd : (d + 1) * (x * y) ≤ e * (x * y) = mul-le-mul_right (x * y) (omega arith) in
    omega (arith, ha, hd, h)

-- two equal fractions have equal whole parts
heads : (d e x y a b : ℕ) → a < x → b < y → (d * x + a) * y ≡ (e * y + b) * x → d ≡ e
heads d e x y a b p q h =
    let up = not_less d e x y a b p q h in
    let down = not_less e d y x b a q p (sym h) in
    omega (arith, up, down)

-- and equal rests
tails : (d e x y a b : ℕ) → d ≡ e → (d * x + a) * y ≡ (e * y + b) * x → a * y ≡ b * x
tails d e x y a b same h =
    let p : d * (x * y) ≡ e * (x * y) = ap (λ n. n * (x * y)) same in
    omega (arith, h, p)

value-cons : (d : ℕ) (ds : List ℕ) → digits_value 10 (d ∷ ds) ≡ digit_value d * 10 ^ length ds + digits_value 10 ds
value-cons d ds = let e : 0 * 10 + digit_value d ≡ digit_value d = omega arith in value_after (0 * 10 + digit_value d) ds ∙ ap (λ n. n * 10 ^ length ds + digits_value 10 ds) e

power-cons : (n : ℕ) → 10 ^ suc n ≡ 10 ^ n * 10
power-cons n = ap (λ k. 10 ^ k) (sym (add-one n)) ∙ pow_more 10 n

-- a digit by its value
digit_of : (d e : ℕ) → digit_value d < 10 → digit_value e < 10 → digit_value d ≡ digit_value e → d ≡ e
digit_of d e p q h = grind (arith, nat_tests)

-- the last digit isn't 0, where there is one
abbrev Ends : List ℕ → Type 0
Ends ds = 0 < length ds → slice_index ds (length ds - 1) ≢ 48

ends_behind : (c : ℕ) (ds : List ℕ) → Ends (c ∷ ds) → Ends ds
ends_behind c ds h some e = h (omega arith) (last_cons c ds some ∙ e)

-- digits of the value 0 end with 0
zero_last : (ds : List ℕ) → AllDigits 10 ds → digits_value 10 ds ≡ 0 → 0 < length ds → slice_index ds (length ds - 1) ≡ 48
zero_last [] all none some = absurd (omega arith)
zero_last (d ∷ []) all none some =
    let e = value-cons d [] in
    let z : digit_value d ≡ 0 = omega (arith, e, none) in digit_of d 48 all.0 (omega arith) z
zero_last (d ∷ (c ∷ cs)) all none some =
    let e = value-cons d (c ∷ cs) in
    last_cons d (c ∷ cs) (omega arith) ∙ zero_last (c ∷ cs) all.1 (omega (arith, e, none)) (omega arith)

-- the digits of equal fractions begin alike
same_digits : (d e : ℕ) (ds es : List ℕ) → digit_value d < 10 → digit_value e < 10 → AllDigits 10 ds → AllDigits 10 es
    → digits_value 10 (d ∷ ds) * 10 ^ suc (length es) ≡ digits_value 10 (e ∷ es) * 10 ^ suc (length ds)
    → (d ≡ e) × (digits_value 10 ds * 10 ^ length es ≡ digits_value 10 es * 10 ^ length ds)
same_digits d e ds es p q all more h =
    let x = 10 ^ length ds in
    let y = 10 ^ length es in
    let hd = value-cons d ds in
    let he = value-cons e es in
    let raised : (digit_value d * x + digits_value 10 ds) * (y * 10) ≡ (digit_value e * y + digits_value 10 es) * (x * 10) =
    ap₂ (λ m n. m * n) (sym hd) (sym (power-cons (length es))) ∙ h ∙ ap₂ (λ m n. m * n) he (power-cons (length ds)) in
    let here : (digit_value d * x + digits_value 10 ds) * y ≡ (digit_value e * y + digits_value 10 es) * x = omega (arith, raised) in
    let same = heads (digit_value d) (digit_value e) x y (digits_value 10 ds) (digits_value 10 es) (digits_value-lt 10 ds all) (digits_value-lt 10 es more) here in
    (digit_of d e p q same, tails (digit_value d) (digit_value e) x y (digits_value 10 ds) (digits_value 10 es) same here)

-- decimals of equal fractions, without final zeros
same_behind : (ds es : List ℕ) → AllDigits 10 ds → AllDigits 10 es → Ends ds → Ends es → digits_value 10 ds * 10 ^ length es ≡ digits_value 10 es * 10 ^ length ds → ds ≡ es
same_behind [] [] all more p q h = refl
same_behind [] (e ∷ es) all more p q h =
    let none : digits_value 10 (e ∷ es) ≡ 0 = omega (arith, h) in
    absurd (q (omega arith) (zero_last (e ∷ es) more none (omega arith)))
same_behind (d ∷ ds) [] all more p q h =
    let none : digits_value 10 (d ∷ ds) ≡ 0 = omega (arith, h) in
    absurd (p (omega arith) (zero_last (d ∷ ds) all none (omega arith)))
same_behind (d ∷ ds) (e ∷ es) all more p q h =
    let s = same_digits d e ds es all.0 more.0 all.1 more.1 h in
    ap₂ (λ c cs. c ∷ cs) s.0 (same_behind ds es all.1 more.1 (ends_behind d ds p) (ends_behind e es q) s.1)

-- at least one decimal, and a final 0 only alone
pub record IsPlain (ds : List ℕ) : Type 0 where
  pub some : 0 < length ds
  pub all : AllDigits 10 ds
  pub last : slice_index ds (length ds - 1) ≡ 48 → length ds ≡ 1

plain_behind : (d : ℕ) (ds : List ℕ) → IsPlain (d ∷ ds) → Ends ds
plain_behind d ds p some e = absurd (let one = p.last (last_cons d ds some ∙ e) in omega (arith, one))

same_plain : (ds es : List ℕ) → IsPlain ds → IsPlain es → digits_value 10 ds * 10 ^ length es ≡ digits_value 10 es * 10 ^ length ds → ds ≡ es
same_plain [] es p q h = absurd (let k = p.some in omega arith)
same_plain (d ∷ ds) [] p q h = absurd (let k = q.some in omega arith)
same_plain (d ∷ ds) (e ∷ es) p q h =
    let s = same_digits d e ds es p.all.0 q.all.0 p.all.1 q.all.1 h in
    ap₂ (λ c cs. c ∷ cs) s.0 (same_behind ds es p.all.1 q.all.1 (plain_behind d ds p) (plain_behind e es q) s.1)

-- the parts of so many millionths
pub record IsParts (m : ℕ) (whole ds : List ℕ) : Type 0 where
  pub int : IsInt whole
  pub plain : IsPlain ds
  pub value : digits_value 10 (whole ++ ds) * 1000000 ≡ m * 10 ^ length ds

value_in : (m : ℕ) (whole ds : List ℕ) → IsParts m whole ds → (digits_value 10 whole * 10 ^ length ds + digits_value 10 ds) * 1000000 ≡ m * 10 ^ length ds
value_in m whole ds p = ap (λ n. n * 1000000) (sym (value-append whole ds)) ∙ p.value

whole_small : (m : ℕ) (whole ds : List ℕ) → IsParts m whole ds → m ≤ 1000000000000000000000000 → digits_value 10 whole < 2 ^ 64
whole_small m whole ds p small =
    let x = 10 ^ length ds in
    let below = digits_value-lt 10 ds p.plain.all in
    let v = value_in m whole ds p in
    let most : digits_value 10 whole * 1000000 * x ≤ m * x = omega (arith, v) in
    let bound = le_of_mul-le-mul_right most (omega (arith, below)) in
    omega (arith, bound, small)

whole_is : (m : ℕ) (whole ds : List ℕ) → IsParts m whole ds → m ≤ 1000000000000000000000000 → decimal (digits_value 10 whole) ≡ whole
whole_is m whole ds p small =
    decimal-digits_value (numerals_by_value (AllDigits 10) tells_digits) whole p.int.all p.int.some p.int.lead (whole_small m whole ds p small)

-- the parts are one
pub same_parts : (m : ℕ) (whole ds other es : List ℕ) → IsParts m whole ds → IsParts m other es → m ≤ 1000000000000000000000000 → (whole ≡ other) × (ds ≡ es)
same_parts m whole ds other es p q small =
    let x = 10 ^ length ds in
    let y = 10 ^ length es in
    let a = ap (λ n. n * y) (value_in m whole ds p) in
    let b = ap (λ n. n * x) (value_in m other es q) in
    let h : (digits_value 10 whole * x + digits_value 10 ds) * y ≡ (digits_value 10 other * y + digits_value 10 es) * x = omega (arith, a, b) in
    let same = heads (digits_value 10 whole) (digits_value 10 other) x y (digits_value 10 ds) (digits_value 10 es) (digits_value-lt 10 ds p.plain.all) (digits_value-lt 10 es q.plain.all) h in
    let rest = tails (digits_value 10 whole) (digits_value 10 other) x y (digits_value 10 ds) (digits_value 10 es) same h in
    (sym (whole_is m whole ds p small) ∙ ap decimal same ∙ whole_is m other es q small, same_plain ds es p.plain q.plain rest)

pub abs-mul : (n : ℤ) (k : ℕ) → unsigned_abs (n *ℤ pos k) ≡ unsigned_abs n * k
abs-mul n k =
    ap (λ z. unsigned_abs (z *ℤ pos k)) (sym (signed_back n)) ∙ ap unsigned_abs (signed-mul (is_minus n) (unsigned_abs n) k) ∙ abs-signed (is_minus n) (unsigned_abs n * k)

-- no exponent: the mark is empty
no_power : (mark : List ℕ) (down : Bool) (power : List ℕ) → mark ≡ [] → IsExp mark down power → (down ≡ false) × (power ≡ [])
no_power mark down power e (absent m d p) = (d, p)
no_power mark down power e (plain letter l m d p) = absurd (cc (sym e ∙ m))
no_power mark down power e (raised letter l m d p) = absurd (cc (sym e ∙ m))
no_power mark down power e (lowered letter l m d p) = absurd (cc (sym e ∙ m))

-- the size of a number without an exponent
size_of : (n : ℤ) (neg : Bool) (x places : ℕ) (down : Bool) (power : List ℕ) → down ≡ false → power ≡ []
    → (signed neg (x * 10 ^ cond down 0 (digits_value 10 power)) *ℤ pos 1000000) ≡ (n *ℤ pos (10 ^ (places + cond down (digits_value 10 power) 0)))
    → x * 1000000 ≡ unsigned_abs n * 10 ^ places
size_of n neg x places down power d p h =
    let e = rw (d, p) at h in
    let one : x * 10 ^ 0 ≡ x = omega arith in
    let zeros : places + 0 ≡ places = omega arith in
    let left : unsigned_abs (signed neg (x * 10 ^ 0) *ℤ pos 1000000) ≡ x * 1000000 =
    abs-mul (signed neg (x * 10 ^ 0)) 1000000 ∙ ap (λ k. k * 1000000) (abs-signed neg (x * 10 ^ 0) ∙ one) in
    let right : unsigned_abs (n *ℤ pos (10 ^ (places + 0))) ≡ unsigned_abs n * 10 ^ places = abs-mul n (10 ^ (places + 0)) ∙ ap (λ k. unsigned_abs n * 10 ^ k) zeros in
    sym left ∙ ap unsigned_abs e ∙ right

-- the parts of a text of so many millionths
parts_of : (text : List ℕ) (n : ℤ) (t : IsDecimalText text n) → IsParts (unsigned_abs n) t.number.whole t.number.decimals
parts_of text n t =
    let bare = no_power t.number.mark t.number.down t.number.power t.plain t.spells.exp in
    record {
      int = t.spells.int;
      plain = record { some = t.some; all = t.spells.decimals; last = t.last };
      value = size_of n t.number.neg (digits_value 10 (t.number.whole ++ t.number.decimals)) (length t.number.decimals) t.number.down t.number.power bare.0 bare.1 t.exact;
    }

-- the text, by its parts
spelled_of : (text : List ℕ) (n : ℤ) (t : IsDecimalText text n) → text ≡ minus (is_minus n) ++ (t.number.whole ++ (frac t.number.decimals ++ ([] ++ [])))
spelled_of text n t =
    let bare = no_power t.number.mark t.number.down t.number.power t.plain t.spells.exp in
    t.spells.spelled
    ∙ ap (λ s. minus s ++ (t.number.whole ++ (frac t.number.decimals ++ (t.number.mark ++ t.number.power)))) t.sign
    ∙ ap₂ (λ m p. minus (is_minus n) ++ (t.number.whole ++ (frac t.number.decimals ++ (m ++ p)))) t.plain bare.1

-- two texts of so many millionths are one
one_text : (a b : List ℕ) (n : ℤ) → unsigned_abs n ≤ 1000000000000000000000000 → IsDecimalText a n → IsDecimalText b n → a ≡ b
one_text a b n small s t =
    let p = same_parts (unsigned_abs n) s.number.whole s.number.decimals t.number.whole t.number.decimals (parts_of a n s) (parts_of b n t) small in
    spelled_of a n s ∙ ap₂ (λ w d. minus (is_minus n) ++ (w ++ (frac d ++ ([] ++ [])))) p.0 p.1 ∙ sym (spelled_of b n t)

-- the text of so many millionths
pub decimal_is : (text : List ℕ) (n : ℤ) → unsigned_abs n ≤ 1000000000000000000000000 → IsDecimalText text n → text ≡ decimal_text n
decimal_is text n small t = one_text text (decimal_text n) n small t (written (decimal_text n) n (unsigned_abs n) refl small refl)
