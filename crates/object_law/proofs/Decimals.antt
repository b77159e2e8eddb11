-- A text spells at most one decimal, and isn't also too long.
use Rattle.std.proofs.Common.{◌≡◌, ◌<◌, ◌≤◌, ◌⊎◌, inl, inr, ℕ, zero, suc, ◌+◌, ◌*◌, ◌^◌, ◌%◌, Bool, true, false, ℤ, pos, negsuc, ◌*ℤ◌, ◌-ℤ◌, ◌≤ℤ◌, unsigned_abs, List, refl, sym, ap, subst, ◌∙◌, arith}
use lib.IntN.{neg_ℤ}
use Rattle.std.proofs.lemmas.Int.{ints, unsigned_abs-mul}
use Rattle.std.proofs.lemmas.Nat.{pow-add}
use Rattle.std.proofs.Math.Nat.{one-le-pow}
use Rattle.std.proofs.Props.{props}
use Rattle.tick_time.specs.Numerals.{Fraction, IsSame, fraction, signed}
use Rattle.tick_time.specs.Decimals.{raised, lowered}
use Rattle.tick_time.specs.declared.decimals.Decimal.{Decimal}
use Rattle.tick_time.proofs.Fractions.{signed-mul}
use Rattle.tick_time.specs.Texts.{is_minus}
use Rattle.tick_time.proofs.Halves.{abs-signed}
use Rattle.tick_time.proofs.LowestTerms.{same_right}
use Rattle.schema_rows.specs.Numerals.{IsSpelled, IsLong, value_of_decimal}
use Rattle.object_law.proofs.Spellings.{parts_once, fraction_once, long_same}

pub not_long : (text : List ℕ) (d : Decimal) → IsSpelled text d → IsLong text → ⊥
not_long text d p q = p.short (long_same q.number p.number (parts_once text q.number p.number q.spells p.spells) q.long)

one_more : (a : ℕ) → suc a ≡ a + 1
one_more a = omega arith

power_more : (a : ℕ) → 10 ^ suc a ≡ 10 ^ a * 10
power_more a = ap (λ (k : ℕ). 10 ^ k) (one_more a) ∙ pow-add 10 a 1

-- a number whose last digit isn't 0, times a power of ten
power_in : (d e a b : ℕ) → (d % 10 ≡ 0 → ⊥) → (e % 10 ≡ 0 → ⊥) → d * 10 ^ a ≡ e * 10 ^ b → (d ≡ e) × (a ≡ b)
power_in d e zero zero p q h = (omega (arith, h), refl)
power_in d e zero (suc b) p q h =
    let tens : d ≡ (e * 10 ^ b) * 10 = omega (arith, h, ap (λ (x : ℕ). e * x) (power_more b)) in absurd (p (omega (arith, tens)))
power_in d e (suc a) zero p q h =
    let tens : e ≡ (d * 10 ^ a) * 10 = omega (arith, h, ap (λ (x : ℕ). d * x) (power_more a)) in absurd (q (omega (arith, tens)))
power_in d e (suc a) (suc b) p q h =
    let less : d * 10 ^ a ≡ e * 10 ^ b = omega (arith, h, ap (λ (x : ℕ). d * x) (power_more a), ap (λ (x : ℕ). e * x) (power_more b)) in
    let below = power_in d e a b p q less in (below.0, ap suc below.1)

exponent_in : (x y : ℤ) → raised x + lowered y ≡ raised y + lowered x → x ≡ y
exponent_in (pos m) (pos n) e = omega (arith, ints, e)
exponent_in (pos m) (negsuc n) e = absurd (omega (arith, e))
exponent_in (negsuc m) (pos n) e = absurd (omega (arith, e))
exponent_in (negsuc m) (negsuc n) e = omega (arith, ints, e)

-- the sizes of two fractions that are the same as a third one
cross_in : (d e n db eb nb : ℕ) → 1 ≤ nb → d * nb ≡ n * db → e * nb ≡ n * eb → d * eb ≡ e * db
cross_in d e n db eb nb some p q =
    let both : d * eb * nb ≡ e * db * nb = omega (arith, ap (λ (x : ℕ). x * eb) p, ap (λ (x : ℕ). x * db) q) in same_right (d * eb) (e * db) nb some both

size_in : (neg : Bool) (d db : ℕ) (n : Fraction) → IsSame (record { top = signed neg d; bottom = db }) n → d * n.bottom ≡ unsigned_abs n.top * db
size_in neg d db n same =
    sym (ap (λ (x : ℕ). x * n.bottom) (abs-signed neg d)) ∙ sym (unsigned_abs-mul (signed neg d) (pos n.bottom)) ∙ ap unsigned_abs same ∙ unsigned_abs-mul n.top (pos db)

sign_in : (neg : Bool) (x b : ℕ) (n : ℤ) → 1 ≤ x → signed neg x ≡ n *ℤ pos b → neg ≡ is_minus n
sign_in false x b (pos k) some e = refl
sign_in true x b (pos k) some e = absurd (omega (arith, ints, e))
sign_in false x b (negsuc k) some e = absurd (minus_in (suc k * b) (omega (arith, ints, e))) where
  minus_in : (y : ℕ) → pos x ≡ neg_ℤ (pos y) → ⊥
  minus_in y e = omega (arith, ints, e, some)
sign_in true x b (negsuc k) some e = refl

-- a decimal by its fields and what is known of them
abbrev Facts : Bool → ℕ → ℤ → Type 0
Facts neg digits exp = (digits < 100000000000000000000000000000000000000) × (digits % 10 ≡ 0 → digits ≡ 0) × (digits ≡ 0 → exp ≡ pos 0) × (digits ≡ 0 → neg ≡ false)
    × ((pos 0 -ℤ pos 147573952589676412928) ≤ℤ exp) × (exp ≤ℤ pos 147573952589676412928)

abbrev built : (neg : Bool) (digits : ℕ) (exp : ℤ) → Facts neg digits exp → Decimal
built neg digits exp f = record { neg = neg; digits = digits; exp = exp; short = f.0; last = f.1; plain_zero = f.2; unsigned_zero = f.3; low = f.4; high = f.5 }

abbrev facts : (d : Decimal) → Facts d.neg d.digits d.exp
facts d = (d.short, d.last, d.plain_zero, d.unsigned_zero, d.low, d.high)

Facts-prop : (neg : Bool) (digits : ℕ) (exp : ℤ) → IsProp (Facts neg digits exp)
Facts-prop neg digits exp = hlevel props

same_built : (s : Bool) (d : ℕ) (x : ℤ) (t : Bool) (e : ℕ) (y : ℤ) (p : Facts s d x) (q : Facts t e y) → s ≡ t → d ≡ e → x ≡ y → built s d x p ≡ built t e y q
same_built s d x t e y p q h k l =
    subst (λ a. (f : Facts a e y) → built s d x p ≡ built a e y f) h
    (subst (λ b. (f : Facts s b y) → built s d x p ≡ built s b y f) k
    (subst (λ c. (f : Facts s d c) → built s d x p ≡ built s d c f) l (λ f. ap (built s d x) (Facts-prop s d x p f)))) q

same_decimal : (d e : Decimal) → d.neg ≡ e.neg → d.digits ≡ e.digits → d.exp ≡ e.exp → d ≡ e
same_decimal d e h k l = same_built d.neg d.digits d.exp e.neg e.digits e.exp (facts d) (facts e) h k l

none_or_some : (n : ℕ) → (n ≡ 0) ⊎ (1 ≤ n)
none_or_some zero = inl refl
none_or_some (suc n) = inr (omega arith)

zero_product : (d x : ℕ) → 1 ≤ x → d * x ≡ 0 → d ≡ 0
zero_product zero x some e = refl
zero_product (suc d) x some e = absurd (omega (arith, e))

powers : (a b : ℕ) → 10 ^ a * 10 ^ b ≡ 10 ^ (a + b)
powers a b = sym (pow-add 10 a b)

some_power : (a : ℕ) → 1 ≤ 10 ^ a
some_power a = one-le-pow a 10 (omega arith)

-- two decimals of the same fraction as a third one
values_cross : (d e : Decimal) (n : Fraction) → 1 ≤ n.bottom → IsSame (value_of_decimal d) n → IsSame (value_of_decimal e) n
    → d.digits * 10 ^ (raised d.exp + lowered e.exp) ≡ e.digits * 10 ^ (raised e.exp + lowered d.exp)
values_cross d e n some p q =
    let here = size_in d.neg (d.digits * 10 ^ raised d.exp) (10 ^ lowered d.exp) n p in
    let there = size_in e.neg (e.digits * 10 ^ raised e.exp) (10 ^ lowered e.exp) n q in
    let cross = cross_in (d.digits * 10 ^ raised d.exp) (e.digits * 10 ^ raised e.exp) (unsigned_abs n.top) (10 ^ lowered d.exp) (10 ^ lowered e.exp) n.bottom some here there in
    omega (arith, cross, ap (λ (x : ℕ). d.digits * x) (powers (raised d.exp) (lowered e.exp)), ap (λ (x : ℕ). e.digits * x) (powers (raised e.exp) (lowered d.exp)))

value_sign : (d : Decimal) (n : Fraction) → 1 ≤ n.bottom → 1 ≤ d.digits → IsSame (value_of_decimal d) n → d.neg ≡ is_minus n.top
value_sign d n some digits same =
    sign_in d.neg (d.digits * 10 ^ raised d.exp * n.bottom) (10 ^ lowered d.exp) n.top (product_some (d.digits * 10 ^ raised d.exp) n.bottom (product_some d.digits (10 ^ raised d.exp) digits (some_power (raised d.exp))) some)
    (sym (signed-mul d.neg (d.digits * 10 ^ raised d.exp) n.bottom) ∙ same) where
      product_some : (x y : ℕ) → 1 ≤ x → 1 ≤ y → 1 ≤ x * y
      product_some zero y p q = absurd (omega (arith, p))
      product_some (suc x) y p q = omega (arith, q)

same_values : (d e : Decimal) (n : Fraction) → 1 ≤ n.bottom → IsSame (value_of_decimal d) n → IsSame (value_of_decimal e) n → d ≡ e
same_values d e n some p q = by (none_or_some d.digits) (none_or_some e.digits) where
  cross : d.digits * 10 ^ (raised d.exp + lowered e.exp) ≡ e.digits * 10 ^ (raised e.exp + lowered d.exp)
  cross = values_cross d e n some p q

  by : (d.digits ≡ 0) ⊎ (1 ≤ d.digits) → (e.digits ≡ 0) ⊎ (1 ≤ e.digits) → d ≡ e
  by (inl x) (inl y) = same_decimal d e (d.unsigned_zero x ∙ sym (e.unsigned_zero y)) (x ∙ sym y) (d.plain_zero x ∙ sym (e.plain_zero y))
  by (inl x) (inr y) =
      let none : e.digits * 10 ^ (raised e.exp + lowered d.exp) ≡ 0 = sym cross ∙ ap (λ (k : ℕ). k * 10 ^ (raised d.exp + lowered e.exp)) x ∙ omega arith in
      absurd (omega (arith, y, zero_product e.digits _ (some_power _) none))
  by (inr x) (inl y) =
      let none : d.digits * 10 ^ (raised d.exp + lowered e.exp) ≡ 0 = cross ∙ ap (λ (k : ℕ). k * 10 ^ (raised e.exp + lowered d.exp)) y ∙ omega arith in
      absurd (omega (arith, x, zero_product d.digits _ (some_power _) none))
  by (inr x) (inr y) =
      let same = power_in d.digits e.digits (raised d.exp + lowered e.exp) (raised e.exp + lowered d.exp) (λ z. omega (arith, x, d.last z)) (λ z. omega (arith, y, e.last z)) cross in
      same_decimal d e (value_sign d n some x p ∙ sym (value_sign e n some y q)) same.0 (exponent_in d.exp e.exp same.1)

pub decimal_once : (text : List ℕ) (d e : Decimal) → IsSpelled text d → IsSpelled text e → d ≡ e
decimal_once text d e p q =
    let number = fraction_once q.number p.number (parts_once text q.number p.number q.spells p.spells) in
    same_values d e (fraction p.number) (some_power _) p.same (subst (λ (f : Fraction). IsSame (value_of_decimal e) f) number q.same)
