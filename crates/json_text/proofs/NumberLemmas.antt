-- Numerals byte by byte.
use Rattle.std.proofs.Common.{◌≡◌, ℕ, ◌≤◌, List, [], ◌∷◌, ◌++◌, Option, Some, None, Bool, true, false, refl, sym, ap, ◌∙◌, arith, cond, subst, ◌⊎◌, inl, inr, ◌||◌}
use Rattle.std.proofs.lemmas.Bool.Decides.{nat_tests}
use Rattle.std.specs.Prelude.{◌==◌}
use Rattle.std.specs.Char.{is_ascii_digit}
use Rattle.json_text.specs.Numeral.{AreDigits, SomeDigits, IsWhole, IsFraction, IsSigned, IsExponent, IsMinus, IsJsonNumeral}
use Rattle.json_text.specs.State.Machine.{next_place, behind_whole, ends}
use Rattle.json_text.specs.declared.state.Place.{Place}
use Rattle.json_text.specs.declared.state.Place.TheVariants.{Minus, Nought, Whole, Point, Fraction, Exponent, Sign, Power}
use Rattle.json_text.proofs.Basics.{is_byte, is_other, other_is}
use Rattle.json_text.proofs.Finishes.{Completes}

-- the place that the first byte of a numeral leads to
abbrev pub first_place : ℕ → Option Place
first_place b = cond (b == 45) (Some Minus) (cond (b == 48) (Some Nought) (cond (is_ascii_digit b) (Some Whole) None))

-- a place that is known
went : (o p : Option Place) (bs : List ℕ) → o ≡ p → Completes p bs → Completes o bs
went o p bs e h = subst (λ x. Completes x bs) (sym e) h

not_digit : (b : ℕ) → (b ≡ 46) ⊎ ((b ≡ 101) ⊎ (b ≡ 69)) → is_ascii_digit b ≡ false
not_digit b (inl e) = ap is_ascii_digit e
not_digit b (inr (inl e)) = ap is_ascii_digit e
not_digit b (inr (inr e)) = ap is_ascii_digit e

-- ---- a numeral completes the machine
power_to : (bs : List ℕ) → AreDigits bs → Completes (Some Power) bs
power_to [] h = refl
power_to (b ∷ bs) h = went (next_place Power b) (Some Power) bs (rw h.0 refl) (power_to bs h.1)

signed_to : (bs : List ℕ) → IsSigned bs → Completes (Some Exponent) bs
signed_to [] h = absurd h
signed_to (b ∷ bs) (inl h) = went (next_place Exponent b) (Some Power) bs (rw h.0 refl) (power_to bs h.1)
signed_to (b ∷ []) (inr h) = absurd h.1
signed_to (b ∷ d ∷ bs) (inr h) =
    went (next_place Exponent b) (Some Sign) (d ∷ bs) (sign h.0) (went (next_place Sign d) (Some Power) bs (rw h.1.0 refl) (power_to bs h.1.1))
  where
    sign : (b ≡ 43) ⊎ (b ≡ 45) → next_place Exponent b ≡ Some Sign
    sign (inl e) = ap (next_place Exponent) e
    sign (inr e) = ap (next_place Exponent) e

exponent_at : (place : Place) → ends place ≡ true → ((b : ℕ) → (b ≡ 101) ⊎ (b ≡ 69) → next_place place b ≡ Some Exponent) → (bs : List ℕ) → IsExponent bs → Completes (Some place) bs
exponent_at place e f [] h = e
exponent_at place e f (b ∷ bs) h = went (next_place place b) (Some Exponent) bs (f b h.0) (signed_to bs h.1)

to_exponent : (place : Place) → (next_place place 101 ≡ Some Exponent) × (next_place place 69 ≡ Some Exponent) → (b : ℕ) → (b ≡ 101) ⊎ (b ≡ 69) → next_place place b ≡ Some Exponent
to_exponent place f b (inl e) = ap (next_place place) e ∙ f.0
to_exponent place f b (inr e) = ap (next_place place) e ∙ f.1

fraction_digits : (ds es : List ℕ) → AreDigits ds → IsExponent es → Completes (Some Fraction) (ds ++ es)
fraction_digits [] es h k = exponent_at Fraction refl (to_exponent Fraction (refl, refl)) es k
fraction_digits (d ∷ ds) es h k = went (next_place Fraction d) (Some Fraction) (ds ++ es) (rw h.0 refl) (fraction_digits ds es h.1 k)

fraction_at : (place : Place) → ends place ≡ true → (next_place place 46 ≡ Some Point) × (next_place place 101 ≡ Some Exponent) × (next_place place 69 ≡ Some Exponent)
    → (fs es : List ℕ) → IsFraction fs → IsExponent es → Completes (Some place) (fs ++ es)
fraction_at place e f [] es h k = exponent_at place e (to_exponent place (f.1, f.2)) es k
fraction_at place e f (b ∷ []) es h k = absurd h.1
fraction_at place e f (b ∷ d ∷ fs) es h k =
    went (next_place place b) (Some Point) (d ∷ (fs ++ es)) (ap (next_place place) h.0 ∙ f.0) (went (next_place Point d) (Some Fraction) (fs ++ es) (rw h.1.0 refl) (fraction_digits fs es h.1.1 k))

whole_digits : (ds fs es : List ℕ) → AreDigits ds → IsFraction fs → IsExponent es → Completes (Some Whole) (ds ++ (fs ++ es))
whole_digits [] fs es h f k = fraction_at Whole refl (refl, refl, refl) fs es f k
whole_digits (d ∷ ds) fs es h f k = went (next_place Whole d) (Some Whole) (ds ++ (fs ++ es)) (rw h.0 refl) (whole_digits ds fs es h.1 f k)

digit_from : (b : ℕ) → 49 ≤ b → b ≤ 57 → is_ascii_digit b ≡ true
digit_from b l h = grind (arith, nat_tests)

-- the whole part, from any place where it may stand
whole_to : (o : ℕ → Option Place) → (o 48 ≡ Some Nought) → ((b : ℕ) → 49 ≤ b → b ≤ 57 → o b ≡ Some Whole) → (b : ℕ) (ws fs es : List ℕ) → IsWhole (b ∷ ws) → IsFraction fs → IsExponent es
    → Completes (o b) (ws ++ (fs ++ es))
whole_to o z d b ws fs es (inl h) f k =
    subst (λ x. Completes (o x) (ws ++ (fs ++ es))) (sym h.0)
    (subst (λ x. Completes (o 48) (x ++ (fs ++ es))) (sym h.1) (went (o 48) (Some Nought) (fs ++ es) z (fraction_at Nought refl (refl, refl, refl) fs es f k)))
whole_to o z d b ws fs es (inr h) f k = went (o b) (Some Whole) (ws ++ (fs ++ es)) (d b h.0 h.1) (whole_digits ws fs es h.2 f k)

starts_whole : (b : ℕ) → 49 ≤ b → b ≤ 57 → first_place b ≡ Some Whole
starts_whole b l h =
    let p : (b == 45) ≡ false = other_is b 45 (λ k. absurd (omega arith)) in
    let q : (b == 48) ≡ false = other_is b 48 (λ k. absurd (omega arith)) in
    let r = digit_from b l h in
    rw (p, q, r) refl

minus_whole : (b : ℕ) → 49 ≤ b → b ≤ 57 → next_place Minus b ≡ Some Whole
minus_whole b l h =
    let q : (b == 48) ≡ false = other_is b 48 (λ k. absurd (omega arith)) in
    let r = digit_from b l h in
    rw (q, r) refl

-- the bytes are a numeral: a first byte that begins one, and bytes that complete it
abbrev pub Completed : List ℕ → Type 0
Completed [] = ⊥
Completed (b ∷ bs) = Completes (first_place b) bs

numeral_parts : (ms ws fs es : List ℕ) → IsMinus ms → IsWhole ws → IsFraction fs → IsExponent es → Completed (ms ++ (ws ++ (fs ++ es)))
numeral_parts ms [] fs es m w f e = absurd w
numeral_parts ms (b ∷ ws) fs es (inl m) w f e =
    subst (λ x. Completed (x ++ ((b ∷ ws) ++ (fs ++ es)))) (sym m) (whole_to first_place refl starts_whole b ws fs es w f e)
numeral_parts ms (b ∷ ws) fs es (inr m) w f e =
    subst (λ x. Completed (x ++ ((b ∷ ws) ++ (fs ++ es)))) (sym m) (whole_to (next_place Minus) refl minus_whole b ws fs es w f e)

pub numeral_to : (bs : List ℕ) → IsJsonNumeral bs → Completed bs
numeral_to bs h = subst Completed (sym h.8) (numeral_parts h.0 h.1 h.2 h.3 h.4 h.5 h.6 h.7)

-- ---- what completes the machine is a numeral
pub either : (t : Bool) (o p : Option Place) (bs : List ℕ) → Completes (cond t o p) bs → ((t ≡ true) × Completes o bs) ⊎ ((t ≡ false) × Completes p bs)
either true o p bs h = inl (refl, h)
either false o p bs h = inr (refl, h)

power_from : (bs : List ℕ) → Completes (Some Power) bs → AreDigits bs
power_from [] h = tt
power_from (b ∷ bs) h = elim (either (is_ascii_digit b) (Some Power) None bs h) as (λ _. AreDigits (b ∷ bs)) [ inl g ↦ (g.0, power_from bs g.1) | inr g ↦ absurd g.1 ]

sign_from : (bs : List ℕ) → Completes (Some Sign) bs → SomeDigits bs
sign_from [] h = cc h
sign_from (b ∷ bs) h = elim (either (is_ascii_digit b) (Some Power) None bs h) as (λ _. SomeDigits (b ∷ bs)) [ inl g ↦ (g.0, power_from bs g.1) | inr g ↦ absurd g.1 ]

one_of : (b x y : ℕ) → (b == x || b == y) ≡ true → (b ≡ x) ⊎ (b ≡ y)
one_of b x y = by (b == x) (b == y) refl refl
  where
    by : (p q : Bool) → (b == x) ≡ p → (b == y) ≡ q → (p || q) ≡ true → (b ≡ x) ⊎ (b ≡ y)
    by true q e f h = inl (is_byte b x e)
    by false true e f h = inr (is_byte b y f)
    by false false e f h = cc h

signed_from : (bs : List ℕ) → Completes (Some Exponent) bs → IsSigned bs
signed_from [] h = cc h
signed_from (b ∷ bs) h =
    elim (either (is_ascii_digit b) (Some Power) (cond (b == 43 || b == 45) (Some Sign) None) bs h) as (λ _. IsSigned (b ∷ bs)) [
      | inl g ↦ inl (g.0, power_from bs g.1)
      | inr g ↦ elim (either (b == 43 || b == 45) (Some Sign) None bs g.1) as (λ _. IsSigned (b ∷ bs)) [ inl k ↦ inr (one_of b 43 45 k.0, sign_from bs k.1) | inr k ↦ absurd k.1 ]
    ]

-- digits and what may follow them
record IsFractionRun (bs : List ℕ) : Type 0 where
  digits : List ℕ
  exponent : List ℕ
  is : bs ≡ digits ++ exponent
  are : AreDigits digits
  ends_so : IsExponent exponent

fraction_from : (bs : List ℕ) → Completes (Some Fraction) bs → IsFractionRun bs
fraction_from [] h = record { digits = []; exponent = []; is = refl; are = tt; ends_so = tt }
fraction_from (b ∷ bs) h =
    elim (either (is_ascii_digit b) (Some Fraction) (cond (b == 101 || b == 69) (Some Exponent) None) bs h) as (λ _. IsFractionRun (b ∷ bs)) [
      | inl g ↦ let r = fraction_from bs g.1 in record { digits = b ∷ r.digits; exponent = r.exponent; is = ap (λ l. b ∷ l) r.is; are = (g.0, r.are); ends_so = r.ends_so }
      | inr g ↦ elim (either (b == 101 || b == 69) (Some Exponent) None bs g.1) as (λ _. IsFractionRun (b ∷ bs)) [
        | inl k ↦ record { digits = []; exponent = b ∷ bs; is = refl; are = tt; ends_so = (one_of b 101 69 k.0, signed_from bs k.1) }
        | inr k ↦ absurd k.1
      ]
    ]

record IsTailRun (bs : List ℕ) : Type 0 where
  fraction : List ℕ
  exponent : List ℕ
  is : bs ≡ fraction ++ exponent
  has : IsFraction fraction
  ends_so : IsExponent exponent

point_from : (b : ℕ) (bs : List ℕ) → b ≡ 46 → Completes (Some Point) bs → IsTailRun (b ∷ bs)
point_from b [] e h = cc h
point_from b (d ∷ bs) e h =
    elim (either (is_ascii_digit d) (Some Fraction) None bs h) as (λ _. IsTailRun (b ∷ d ∷ bs)) [
      | inl g ↦ let r = fraction_from bs g.1 in record { fraction = b ∷ d ∷ r.digits; exponent = r.exponent; is = ap (λ l. b ∷ (d ∷ l)) r.is; has = (e, (g.0, r.are)); ends_so = r.ends_so }
      | inr g ↦ absurd g.1
    ]

behind_from : (b : ℕ) (bs : List ℕ) → Completes (behind_whole b) bs → IsTailRun (b ∷ bs)
behind_from b bs h =
    elim (either (b == 46) (Some Point) (cond (b == 101 || b == 69) (Some Exponent) None) bs h) as (λ _. IsTailRun (b ∷ bs)) [
      | inl g ↦ point_from b bs (is_byte b 46 g.0) g.1
      | inr g ↦ elim (either (b == 101 || b == 69) (Some Exponent) None bs g.1) as (λ _. IsTailRun (b ∷ bs)) [
        | inl k ↦ record { fraction = []; exponent = b ∷ bs; is = refl; has = tt; ends_so = (one_of b 101 69 k.0, signed_from bs k.1) }
        | inr k ↦ absurd k.1
      ]
    ]

nought_from : (bs : List ℕ) → Completes (Some Nought) bs → IsTailRun bs
nought_from [] h = record { fraction = []; exponent = []; is = refl; has = tt; ends_so = tt }
nought_from (b ∷ bs) h = behind_from b bs h

record IsWholeRun (bs : List ℕ) : Type 0 where
  digits : List ℕ
  fraction : List ℕ
  exponent : List ℕ
  is : bs ≡ digits ++ (fraction ++ exponent)
  are : AreDigits digits
  has : IsFraction fraction
  ends_so : IsExponent exponent

whole_from : (bs : List ℕ) → Completes (Some Whole) bs → IsWholeRun bs
whole_from [] h = record { digits = []; fraction = []; exponent = []; is = refl; are = tt; has = tt; ends_so = tt }
whole_from (b ∷ bs) h =
    elim (either (is_ascii_digit b) (Some Whole) (behind_whole b) bs h) as (λ _. IsWholeRun (b ∷ bs)) [
      | inl g ↦ let r = whole_from bs g.1 in record { digits = b ∷ r.digits; fraction = r.fraction; exponent = r.exponent; is = ap (λ l. b ∷ l) r.is; are = (g.0, r.are); has = r.has; ends_so = r.ends_so }
      | inr g ↦ let r = behind_from b bs g.1 in record { digits = []; fraction = r.fraction; exponent = r.exponent; is = r.is; are = tt; has = r.has; ends_so = r.ends_so }
    ]

-- the whole part and what follows
record IsUnsigned (bs : List ℕ) : Type 0 where
  whole : List ℕ
  fraction : List ℕ
  exponent : List ℕ
  is : bs ≡ whole ++ (fraction ++ exponent)
  begins : IsWhole whole
  has : IsFraction fraction
  ends_so : IsExponent exponent

digit_range : (b : ℕ) → is_ascii_digit b ≡ true → (b == 48) ≡ false → (49 ≤ b) × (b ≤ 57)
digit_range b e f = let n = is_other b 48 f in (grind (arith, nat_tests), grind (arith, nat_tests))

unsigned_nought : (b : ℕ) (bs : List ℕ) → b ≡ 48 → Completes (Some Nought) bs → IsUnsigned (b ∷ bs)
unsigned_nought b bs e h = let r = nought_from bs h in record { whole = b ∷ []; fraction = r.fraction; exponent = r.exponent; is = ap (λ l. b ∷ l) r.is; begins = inl (e, refl); has = r.has; ends_so = r.ends_so }

unsigned_whole : (b : ℕ) (bs : List ℕ) → (49 ≤ b) × (b ≤ 57) → Completes (Some Whole) bs → IsUnsigned (b ∷ bs)
unsigned_whole b bs e h =
    let r = whole_from bs h in
    record { whole = b ∷ r.digits; fraction = r.fraction; exponent = r.exponent; is = ap (λ l. b ∷ l) r.is; begins = inr (e.0, e.1, r.are); has = r.has; ends_so = r.ends_so }

unsigned_from : (b : ℕ) (bs : List ℕ) → Completes (cond (b == 48) (Some Nought) (cond (is_ascii_digit b) (Some Whole) None)) bs → IsUnsigned (b ∷ bs)
unsigned_from b bs h =
    elim (either (b == 48) (Some Nought) (cond (is_ascii_digit b) (Some Whole) None) bs h) as (λ _. IsUnsigned (b ∷ bs)) [
      | inl g ↦ unsigned_nought b bs (is_byte b 48 g.0) g.1
      | inr g ↦ elim (either (is_ascii_digit b) (Some Whole) None bs g.1) as (λ _. IsUnsigned (b ∷ bs)) [ inl k ↦ unsigned_whole b bs (digit_range b k.0 g.0) k.1 | inr k ↦ absurd k.1 ]
    ]

minus_from : (b : ℕ) (bs : List ℕ) → b ≡ 45 → Completes (Some Minus) bs → IsJsonNumeral (b ∷ bs)
minus_from b [] e h = cc h
minus_from b (d ∷ bs) e h = let r = unsigned_from d bs h in (b ∷ [], r.whole, r.fraction, r.exponent, inr (ap (λ x. x ∷ []) e), r.begins, r.has, r.ends_so, ap (λ l. b ∷ l) r.is)

plain_from : (b : ℕ) (bs : List ℕ) → Completes (cond (b == 48) (Some Nought) (cond (is_ascii_digit b) (Some Whole) None)) bs → IsJsonNumeral (b ∷ bs)
plain_from b bs h = let r = unsigned_from b bs h in ([], r.whole, r.fraction, r.exponent, inl refl, r.begins, r.has, r.ends_so, r.is)

pub numeral_from : (bs : List ℕ) → Completed bs → IsJsonNumeral bs
numeral_from [] h = absurd h
numeral_from (b ∷ bs) h =
    elim (either (b == 45) (Some Minus) (cond (b == 48) (Some Nought) (cond (is_ascii_digit b) (Some Whole) None)) bs h) as (λ _. IsJsonNumeral (b ∷ bs)) [
      | inl g ↦ minus_from b bs (is_byte b 45 g.0) g.1
      | inr g ↦ plain_from b bs g.1
    ]

-- ---- what may not stand in a numeral
abbrev pub NotNumber : ℕ → Type 0
NotNumber b = (is_ascii_digit b ≡ false) × ((b == 46) ≡ false) × ((b == 101 || b == 69) ≡ false) × ((b == 43 || b == 45) ≡ false) × ((b == 48) ≡ false)

pub no_place : (place : Place) (b : ℕ) → NotNumber b → next_place place b ≡ None
no_place Minus b n = let p = n.4 in let q = n.0 in rw (p, q) refl
no_place Nought b n = let p = n.1 in let q = n.2 in rw (p, q) refl
no_place Whole b n = let p = n.1 in let q = n.2 in let r = n.0 in rw (r, p, q) refl
no_place Point b n = let r = n.0 in rw r refl
no_place Fraction b n = let q = n.2 in let r = n.0 in rw (r, q) refl
no_place Exponent b n = let q = n.3 in let r = n.0 in rw (r, q) refl
no_place Sign b n = let r = n.0 in rw r refl
no_place Power b n = let r = n.0 in rw r refl

pub not_number : (b d : ℕ) → NotNumber d → b ≡ d → NotNumber b
not_number b d n e = subst NotNumber (sym e) n
