-- Numbers of JSON, put together from their parts and taken apart.
use Rattle.std.proofs.Common.{◌≡◌, ℕ, suc, ◌-◌, ◌<◌, ◌≤◌, ◌≢◌, ◌⊎◌, inl, inr, ◌↔◌, Bool, true, false, not, IsTrue, List, [], ◌∷◌, ◌++◌, length, slice_index, refl, sym, ◌∙◌, ap, subst, arith, take, drop}
use Rattle.std.specs.Prelude.{◌==◌}
use Rattle.std.specs.Char.{digit_value, is_ascii_digit}
use Rattle.std.specs.List.{prefix_len}
use Rattle.std.specs.Str.Parse.{AllDigits}
use Rattle.std.proofs.lemmas.List.{append-nil}
use Rattle.std.proofs.lemmas.Bool.{false≢true}
use Rattle.std.proofs.lemmas.Bool.Decides.{nat_tests}
use Rattle.std.proofs.lemmas.Str.{digit_value_digit}
use Rattle.std.proofs.lemmas.Str.Parse.{digit_from_value}
use Rattle.std.proofs.Math.Seq.{take-length}
use Rattle.tick_time.specs.Numerals.{minus, frac, IsInt, IsNumeral, AreDigits, IsSigned, bare, behind, IsExp, absent, plain, raised, lowered, IsExponent, IsTail, StopsDigits}
use Rattle.tick_time.proofs.Parts.{int_no_minus, exp_stops, exp_no_point, frac_stops}

pub digit_small : (c : ℕ) → is_ascii_digit c ≡ true → digit_value c < 10
digit_small c e = let d = digit_value_digit c (grind (arith, nat_tests)) in grind (arith, nat_tests)

more_taken : (c : ℕ) (cs : List ℕ) (n m : ℕ) → m ≡ suc n → digit_value c < 10 → AllDigits 10 (take n cs) → AllDigits 10 (take m (c ∷ cs))
more_taken c cs n m e d h = rw e (d, h)

front_in : (b : Bool) (c : ℕ) (cs : List ℕ) → is_ascii_digit c ≡ b → AllDigits 10 (take (prefix_len is_ascii_digit cs) cs)
    → AllDigits 10 (take (prefix_len is_ascii_digit (c ∷ cs)) (c ∷ cs))
front_in true c cs e h = more_taken c cs (prefix_len is_ascii_digit cs) (prefix_len is_ascii_digit (c ∷ cs)) (rw e (omega arith)) (digit_small c e) h
front_in false c cs e h = rw e tt

-- what stands at a text's front as long as digits come is digits
pub front_all : (text : List ℕ) → AllDigits 10 (take (prefix_len is_ascii_digit text) text)
front_all [] = tt
front_all (c ∷ cs) = front_in (is_ascii_digit c) c cs refl (front_all cs)

-- digits and nothing behind them
digits_joined : (text digits rest : List ℕ) → text ≡ digits ++ rest → length rest ≡ 0 → 0 < length digits → AllDigits 10 digits → AreDigits text
digits_joined text digits [] e none some all = let same : text ≡ digits = e ∙ append-nil digits in record { some = rw same some; all = rw same all }
digits_joined text digits (c ∷ cs) e none some all = absurd (omega arith)

pub rest_test : (text digits rest : List ℕ) (b : Bool) → b ≡ (length rest == 0) → text ≡ digits ++ rest → 0 < length digits → AllDigits 10 digits
    → ((ds more : List ℕ) → text ≡ ds ++ more → AllDigits 10 ds → StopsDigits more → (digits ≡ ds) × (rest ≡ more))
    → IsTrue b ↔ AreDigits text
rest_test text digits rest b is e some all parts = (
  λ yes. let none : length rest ≡ 0 = grind (arith, nat_tests, is, yes) in digits_joined text digits rest e none some all,
  λ h. let none : rest ≡ [] = (parts text [] (sym (append-nil text)) h.all (λ more. absurd (omega arith))).1 in is ∙ (rw none refl),
)

pub no_digits : (text digits rest : List ℕ) (b : Bool) → b ≡ true → length digits ≡ 0
    → ((ds more : List ℕ) → text ≡ ds ++ more → AllDigits 10 ds → StopsDigits more → (digits ≡ ds) × (rest ≡ more))
    → IsTrue (not b) ↔ AreDigits text
no_digits text digits rest b is none parts = (
  λ h. absurd (false≢true (ap not (sym is) ∙ h)),
  λ h. let same : digits ≡ text = (parts text [] (sym (append-nil text)) h.all (λ more. absurd (omega arith))).0 in let n = ap length same in absurd (omega (arith, h.some)),
)

-- a number from its sign, its whole digits and what follows them
pub numeral_joined : (text after whole tail : List ℕ) (neg : Bool) → text ≡ minus neg ++ after → after ≡ whole ++ tail → IsInt whole → IsTail tail → IsNumeral text
numeral_joined text after whole tail neg e f int t = (
  record { neg = neg; whole = whole; decimals = t.digits; mark = t.exponent.mark; down = t.exponent.down; power = t.exponent.power },
  record {
    spelled = e ∙ ap (λ x. minus neg ++ x) (f ∙ ap (λ x. whole ++ x) (t.spelled ∙ ap (λ x. frac t.digits ++ x) t.exponent.spelled));
    int = int;
    decimals = t.decimals;
    exp = t.exponent.exp;
  },
)

pub numeral_parted : (text after whole tail : List ℕ) (sign : Bool)
    → ((neg : Bool) (rest : List ℕ) → text ≡ minus neg ++ rest → slice_index rest 0 ≢ 45 → (sign ≡ neg) × (after ≡ rest))
    → ((digits rest : List ℕ) → after ≡ digits ++ rest → AllDigits 10 digits → StopsDigits rest → (whole ≡ digits) × (tail ≡ rest))
    → IsNumeral text → IsInt whole × IsTail tail
numeral_parted text after whole tail sign signs digits (n, s) =
    let a = signs n.neg (n.whole ++ (frac n.decimals ++ (n.mark ++ n.power))) s.spelled (int_no_minus _ _ s.int) in
    let w = digits n.whole (frac n.decimals ++ (n.mark ++ n.power)) a.1 s.int.all (frac_stops _ _ (exp_stops _ _ _ s.exp)) in (
      subst IsInt (sym w.0) s.int,
      record { digits = n.decimals; rest = n.mark ++ n.power; spelled = w.1; decimals = s.decimals; exponent = record { mark = n.mark; down = n.down; power = n.power; spelled = refl; exp = s.exp } },
    )

exponent_stops : (rest : List ℕ) → IsExponent rest → StopsDigits rest
exponent_stops rest e = subst StopsDigits (sym e.spelled) (exp_stops e.mark e.power e.down e.exp)

exponent_no_point : (rest : List ℕ) → IsExponent rest → slice_index rest 0 ≢ 46
exponent_no_point rest e = rw e.spelled (exp_no_point e.mark e.power e.down e.exp)

-- behind a point stand digits, and an exponent or nothing
pub tail_point : (text decimals exponent : List ℕ) → text ≡ 46 ∷ (decimals ++ exponent) → 0 < length decimals → AllDigits 10 decimals → IsExponent exponent → IsTail text
tail_point text [] exponent e some all x = absurd (omega arith)
tail_point text (d ∷ ds) exponent e some all x = record { digits = d ∷ ds; rest = exponent; spelled = e; decimals = all; exponent = x }

point_in : (text after decimals exponent digits rest : List ℕ) → text ≡ 46 ∷ after → text ≡ frac digits ++ rest → AllDigits 10 digits → IsExponent rest
    → ((ds more : List ℕ) → after ≡ ds ++ more → AllDigits 10 ds → StopsDigits more → (decimals ≡ ds) × (exponent ≡ more))
    → (0 < length decimals) × IsExponent exponent
point_in text after decimals exponent [] rest e f all x parts = absurd (exponent_no_point rest x (ap (λ t. slice_index t 0) (sym f ∙ e)))
point_in text after decimals exponent (d ∷ ds) rest e f all x parts =
    let same : after ≡ (d ∷ ds) ++ rest = cc in
    let p = parts (d ∷ ds) rest same all (exponent_stops rest x) in (
      rw p.0 (omega arith),
      subst IsExponent (sym p.1) x,
    )

pub point_tail : (text after decimals exponent : List ℕ) → text ≡ 46 ∷ after
    → ((ds more : List ℕ) → after ≡ ds ++ more → AllDigits 10 ds → StopsDigits more → (decimals ≡ ds) × (exponent ≡ more))
    → IsTail text → (0 < length decimals) × IsExponent exponent
point_tail text after decimals exponent e parts t = point_in text after decimals exponent t.digits t.rest e t.spelled t.decimals t.exponent parts

pub point_none : (text after decimals exponent : List ℕ) (b : Bool) → b ≡ true → length decimals ≡ 0 → text ≡ 46 ∷ after
    → ((ds more : List ℕ) → after ≡ ds ++ more → AllDigits 10 ds → StopsDigits more → (decimals ≡ ds) × (exponent ≡ more))
    → IsTrue (not b) ↔ IsTail text
point_none text after decimals exponent b is none e parts = (
  λ h. absurd (false≢true (ap not (sym is) ∙ h)),
  λ t. let some : 0 < length decimals = (point_tail text after decimals exponent e parts t).0 in absurd (omega arith),
)

-- a text with its first byte
pub first_off : (text : List ℕ) (b : ℕ) → 1 ≤ length text → slice_index text 0 ≡ b → text ≡ b ∷ take (length text - 1) (drop 1 text)
first_off [] b some e = absurd (omega arith)
first_off (c ∷ cs) b some e = let n : length (c ∷ cs) - 1 ≡ length cs = omega arith in rw (n, e) (ap (λ t. b ∷ t) (sym (take-length cs)))

-- an exponent: nothing, or a letter and what is behind it
pub exponent_none : (text : List ℕ) → length text < 1 → IsExponent text
exponent_none [] few = record { mark = []; down = false; power = []; spelled = refl; exp = absent refl refl refl }
exponent_none (c ∷ cs) few = absurd (omega arith)

pub signed_exponent : (text rest : List ℕ) (letter : ℕ) → (letter ≡ 101) ⊎ (letter ≡ 69) → text ≡ letter ∷ rest → IsSigned rest → IsExponent text
signed_exponent text rest letter is e (bare all) = record { mark = letter ∷ []; down = false; power = rest; spelled = e; exp = plain letter is refl refl all }
signed_exponent text rest letter is e (behind sign digits (inl plus) f all) = record {
  mark = letter ∷ 43 ∷ [];
  down = false;
  power = digits;
  spelled = e ∙ ap (λ t. letter ∷ t) (f ∙ ap (λ s. s ∷ digits) plus);
  exp = raised letter is refl refl all;
}
signed_exponent text rest letter is e (behind sign digits (inr less) f all) = record {
  mark = letter ∷ 45 ∷ [];
  down = true;
  power = digits;
  spelled = e ∙ ap (λ t. letter ∷ t) (f ∙ ap (λ s. s ∷ digits) less);
  exp = lowered letter is refl refl all;
}

tails : (a b : ℕ) (s t : List ℕ) → a ∷ s ≡ b ∷ t → s ≡ t
tails a b s t h = cc

signed_in : (text rest mark power : List ℕ) (down : Bool) (first : ℕ) → text ≡ first ∷ rest → text ≡ mark ++ power → IsExp mark down power → IsSigned rest
signed_in text rest mark power down first e f (absent m d p) = absurd (apart first rest (sym e ∙ f ∙ (rw (m, p) refl))) where
  apart : (c : ℕ) (cs : List ℕ) → c ∷ cs ≡ [] → ⊥
  apart c cs h = cc
signed_in text rest mark power down first e f (plain letter is m d all) = bare (subst AreDigits (sym (tails first letter rest power (sym e ∙ f ∙ ap (λ t. t ++ power) m))) all)
signed_in text rest mark power down first e f (raised letter is m d all) = behind 43 power (inl refl) (tails first letter rest (43 ∷ power) (sym e ∙ f ∙ ap (λ t. t ++ power) m)) all
signed_in text rest mark power down first e f (lowered letter is m d all) = behind 45 power (inr refl) (tails first letter rest (45 ∷ power) (sym e ∙ f ∙ ap (λ t. t ++ power) m)) all

pub exponent_signed : (text rest : List ℕ) (first : ℕ) → text ≡ first ∷ rest → IsExponent text → IsSigned rest
exponent_signed text rest first e x = signed_in text rest x.mark x.power x.down first e x.spelled x.exp

-- digits do not begin with a sign
digits_first : (text : List ℕ) → AreDigits text → (slice_index text 0 ≢ 43) × (slice_index text 0 ≢ 45)
digits_first [] all = absurd (omega (arith, all.some))
digits_first (c ∷ cs) all = let k = digit_from_value c all.all.0 in (λ e. omega arith, λ e. omega arith)

pub sign_off : (text digits : List ℕ) (sign : ℕ) → (sign ≡ 43) ⊎ (sign ≡ 45) → text ≡ sign ∷ digits → IsSigned text → AreDigits digits
sign_off text digits sign (inl is) e (bare all) = absurd ((digits_first text all).0 (ap (λ t. slice_index t 0) e ∙ is))
sign_off text digits sign (inr is) e (bare all) = absurd ((digits_first text all).1 (ap (λ t. slice_index t 0) e ∙ is))
sign_off text digits sign is e (behind other more os f all) = subst AreDigits (tails other sign more digits (sym f ∙ e)) all
