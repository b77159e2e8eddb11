-- Fractions in lowest terms, and the rates that they spell.
use Rattle.std.proofs.Common.{◌≡◌, ℕ, zero, suc, ◌+◌, ◌*◌, ◌/◌, ◌%◌, ◌<◌, ◌≤◌, Bool, true, false, ◌&&◌, not, refl, sym, ◌∙◌, ap, subst, arith, IsTrue}
use Rattle.std.specs.Prelude.{◌||◌}
use Prim.Native.Nat.{◌∣◌}
use Rattle.std.specs.Int.{IsGcd}
use Rattle.std.specs.List.{Contains}
use Rattle.std.proofs.lemmas.Bool.Decides.{nat_tests}
use Rattle.std.proofs.lemmas.Nat.Gcd.{dvd_antisymm, dvd_of_mod-eq-zero, mod-eq-zero_of_dvd, le_of_dvd}
use Rattle.std.proofs.Math.Nat.{mul-mod_right, mul-add-mod_self_left, div-mul_cancel, mul-dvd-mul_right, le_of_mul-le-mul_right, dvd-mul_left, dvd-mul_right, mul-le-mul_left}
use Rattle.tick_time.specs.Rates.{per_millionth, counts, is_rate, is_relative, is_spelled, is_near_any, IsLowest, IsSpelledRate}
use Rattle.tick_time.proofs.Nears.{counts_each, near_any_same}

-- numbers of which a multiple of one is one more than a multiple of the other
pub lowest_by : (a b x y : ℕ) → a * x ≡ b * y + 1 → IsLowest a b
lowest_by a b x y e k p q =
    let f : a ≡ k * (a / k) = factor a k p in
    let g : b ≡ k * (b / k) = factor b k q in
    let h : k * (a / k * x) ≡ k * (b / k * y) + 1 = omega (arith, e, ap (λ n. n * x) f, ap (λ n. n * y) g) in
    let one : 1 % k ≡ 0 = sym (mul-add-mod_self_left k (b / k * y) 1) ∙ ap (λ n. n % k) (sym h) ∙ mul-mod_right k (a / k * x) in
    dvd_antisymm (dvd_of_mod-eq-zero k one) (dvd_of_mod-eq-zero 1 (omega arith)) where
      factor : (n d : ℕ) → d ∣ n → n ≡ d * (n / d)
      factor n d h = let z : n % d ≡ 0 = mod-eq-zero_of_dvd d h in parts n d z where
        parts : (n d : ℕ) → n % d ≡ 0 → n ≡ d * (n / d)
        parts n zero z = omega arith
        parts n (suc d) z = omega arith

-- what a rate keeps, of the 1001 relatives
pub record IsProfile (num den : ℕ) : Type 0 where
  pub at_least_one : den ≤ num
  pub small_num : num ≤ 705600000000
  pub whole : per_millionth * den % num ≡ 0
  pub lowest : IsLowest num den
  pub given : IsTrue (is_rate num den)

pub relative_profile : (n : ℕ) → Contains counts n → IsProfile (1000 * n) 1001
unfolding is_rate
relative_profile = counts_each (λ n. IsProfile (1000 * n) 1001)
    (record { at_least_one = omega arith; small_num = omega arith; whole = refl; lowest = lowest_by 15000 1001 734 10999 refl; given = refl })
    (record { at_least_one = omega arith; small_num = omega arith; whole = refl; lowest = lowest_by 24000 1001 709 16999 refl; given = refl })
    (record { at_least_one = omega arith; small_num = omega arith; whole = refl; lowest = lowest_by 30000 1001 367 10999 refl; given = refl })
    (record { at_least_one = omega arith; small_num = omega arith; whole = refl; lowest = lowest_by 48000 1001 855 40999 refl; given = refl })
    (record { at_least_one = omega arith; small_num = omega arith; whole = refl; lowest = lowest_by 60000 1001 684 40999 refl; given = refl })
    (record { at_least_one = omega arith; small_num = omega arith; whole = refl; lowest = lowest_by 120000 1001 342 40999 refl; given = refl })

-- the parts of the test
pub record IsInProfile (num den : ℕ) : Type 0 where
  pub places : 1000000 % den ≡ 0
  pub at_least_one : den ≤ num
  pub divides : 705600000000 % num ≡ 0

pub spelled_parts : (num den : ℕ) → is_spelled num den ≡ true → IsInProfile num den
spelled_parts num den h = grind (arith, nat_tests)

pub spelled_test : (num den : ℕ) → IsInProfile num den → is_spelled num den ≡ true
spelled_test num den h = grind (arith, nat_tests, h.places, h.at_least_one, h.divides)

factor : (n d : ℕ) → d ∣ n → n ≡ n / d * d
factor n d h = sym (div-mul_cancel d h)

pub nonzero : (n d : ℕ) → n % d ≡ 0 → 1 ≤ n → 1 ≤ d
nonzero n zero z some = omega arith
nonzero n (suc d) z some = omega arith

pub same_right : (a b k : ℕ) → 1 ≤ k → a * k ≡ b * k → a ≡ b
same_right a b k some e =
    let p : a ≤ b = le_of_mul-le-mul_right {k = k} (omega arith) some in
    let q : b ≤ a = le_of_mul-le-mul_right {k = k} (omega arith) some in omega arith

-- what the greatest common divisor leaves
pub record Reduced (m g : ℕ) : Type 0 where
  pub some : 1 ≤ g
  pub top : m ≡ m / g * g
  pub bottom : 1000000 ≡ 1000000 / g * g
  pub den : 1 ≤ 1000000 / g
  pub most : 1000000 / g ≤ 1000000
  pub lowest : IsLowest (m / g) (1000000 / g)

one_of : (k g n : ℕ) → 1 ≤ g → 1 ≤ n → k ∣ n → k * g ∣ g → k ≡ 1
one_of k g n some more p q =
    let le : k * g ≤ g = le_of_dvd some q in
    let one : k * g ≤ 1 * g = omega arith in
    let small : k ≤ 1 = le_of_mul-le-mul_right {k = g} one some in
    omega (arith, nonzero n k (mod-eq-zero_of_dvd k p) more)

pub reduced : (m g : ℕ) → IsGcd m 1000000 g → Reduced m g
reduced m g h =
    let some = nonzero 1000000 g (mod-eq-zero_of_dvd g h.1) (omega arith) in
    let top = factor m g h.0 in
    let bottom = factor 1000000 g h.1 in
    let den : 1 ≤ 1000000 / g = positive (1000000 / g) g bottom in
    let most : 1000000 / g * 1 ≤ 1000000 / g * g = mul-le-mul_left (1000000 / g) some in
    record {
      some = some;
      top = top;
      bottom = bottom;
      den = den;
      most = omega arith;
      lowest = λ k p q. one_of k g (1000000 / g) some den q (h.2 (k * g) (subst (λ n. k * g ∣ n) (sym top) (mul-dvd-mul_right k p g)) (subst (λ n. k * g ∣ n) (sym bottom) (mul-dvd-mul_right k q g)));
    } where
      positive : (n g : ℕ) → 1000000 ≡ n * g → 1 ≤ n
      positive zero g e = omega arith
      positive (suc n) g e = omega arith

-- the only fraction that can be spelled by so many millionths is that in lowest terms
pub only_lowest : (m g n d : ℕ) → IsGcd m 1000000 g → IsSpelledRate m 1000000 n d → (n ≡ m / g) × (d ≡ 1000000 / g)
only_lowest m g n d h s =
    let p = spelled_parts n d s.profile in
    let some = nonzero 1000000 d p.places (omega arith) in
    let e = 1000000 / d in
    let places : 1000000 ≡ 1000000 / d * d = factor 1000000 d (dvd_of_mod-eq-zero d p.places) in
    let top : n * (1000000 / d) ≡ m = same_right (n * (1000000 / d)) m d some (omega (arith, s.equal, ap (λ x. n * x) places)) in
    let common : 1000000 / d ∣ g = h.2 (1000000 / d) (subst (λ x. 1000000 / d ∣ x) top (dvd-mul_left (1000000 / d) n)) (subst (λ x. 1000000 / d ∣ x) (sym places) (dvd-mul_right (1000000 / d) d)) in
    let r = reduced m g h in
    let whole : g ≡ g / (1000000 / d) * (1000000 / d) = factor g (1000000 / d) common in
    let positive : 1 ≤ 1000000 / d = over (1000000 / d) d places in
    let num : n ≡ m / g * (g / (1000000 / d)) = same_right n (m / g * (g / (1000000 / d))) (1000000 / d) positive (omega (arith, top, r.top, ap (λ x. m / g * x) whole)) in
    let den : d ≡ 1000000 / g * (g / (1000000 / d)) = same_right d (1000000 / g * (g / (1000000 / d))) (1000000 / d) positive (omega (arith, places, r.bottom, ap (λ x. 1000000 / g * x) whole)) in
    let one : g / (1000000 / d) ≡ 1 = s.lowest (g / (1000000 / d)) (subst (λ x. g / (1000000 / d) ∣ x) (sym num) (dvd-mul_left (g / (1000000 / d)) (m / g))) (subst (λ x. g / (1000000 / d) ∣ x) (sym den) (dvd-mul_left (g / (1000000 / d)) (1000000 / g))) in
    (num ∙ rw one (omega arith), den ∙ rw one (omega arith)) where
      over : (n d : ℕ) → 1000000 ≡ n * d → 1 ≤ n
      over zero d e = omega arith
      over (suc n) d e = omega arith

-- one fraction, written otherwise, spells the same rates
pub spelled_same : (t b u e n d : ℕ) → 1 ≤ b → t * e ≡ u * b → IsSpelledRate t b n d → IsSpelledRate u e n d
spelled_same t b u e n d some same s =
    let f : n * b * e ≡ t * d * e = ap (λ x. x * e) s.equal in
    let g : t * e * d ≡ u * b * d = ap (λ x. x * d) same in
    record { equal = same_right (n * e) (u * d) b some (omega arith); lowest = s.lowest; profile = s.profile }

pub refused_order : (m g n d : ℕ) → IsGcd m 1000000 g → m / g < 1000000 / g → IsSpelledRate m 1000000 n d → ⊥
refused_order m g n d h less s =
    let only = only_lowest m g n d h s in
    let le = (spelled_parts n d s.profile).at_least_one in omega arith

pub refused_divisor : (m g n d : ℕ) → IsGcd m 1000000 g → (705600000000 % (m / g) ≡ 0 → ⊥) → IsSpelledRate m 1000000 n d → ⊥
refused_divisor m g n d h none s = none (subst (λ x. 705600000000 % x ≡ 0) (only_lowest m g n d h s).0 (spelled_parts n d s.profile).divides)

pub accepted : (m g : ℕ) → IsGcd m 1000000 g → 1000000 / g ≤ m / g → 705600000000 % (m / g) ≡ 0 → IsSpelledRate m 1000000 (m / g) (1000000 / g)
accepted m g h le divides =
    let r = reduced m g h in
    let left : m / g * 1000000 ≡ m / g * (1000000 / g * g) = ap (λ x. m / g * x) r.bottom in
    let right : m * (1000000 / g) ≡ m / g * g * (1000000 / g) = ap (λ x. x * (1000000 / g)) r.top in
    record {
      equal = omega (arith, left, right);
      lowest = r.lowest;
      profile = spelled_test (m / g) (1000000 / g) (record {
        places = subst (λ x. x % (1000000 / g) ≡ 0) (sym r.bottom) (mul-mod_right (1000000 / g) g);
        at_least_one = le;
        divides = divides;
      });
    }

or_true : (b : Bool) → IsTrue (b || true)
or_true true = refl
or_true false = refl

pub accepted_given : (m g : ℕ) → IsGcd m 1000000 g → 1000000 / g ≤ m / g → 705600000000 % (m / g) ≡ 0 → is_near_any m 1000000 ≡ false → IsTrue (is_rate (m / g) (1000000 / g))
unfolding is_rate
accepted_given m g h le divides apart =
    let s = accepted m g h le divides in
    let far : is_near_any (m / g) (1000000 / g) ≡ false = near_any_same (m / g) (1000000 / g) m 1000000 (reduced m g h).den (omega arith) s.equal ∙ apart in
    let test : is_spelled (m / g) (1000000 / g) ≡ true = s.profile in
    subst (λ b. IsTrue (is_relative (m / g) (1000000 / g) || (b && not (is_near_any (m / g) (1000000 / g))))) (sym test)
    (subst (λ b. IsTrue (is_relative (m / g) (1000000 / g) || not b)) (sym far) (or_true (is_relative (m / g) (1000000 / g))))

pub whole_unit : (num den : ℕ) → 705600000000 % num ≡ 0 → per_millionth * den % num ≡ 0
whole_unit num den h =
    let f : 705600000000 ≡ 705600000000 / num * num = factor 705600000000 num (dvd_of_mod-eq-zero num h) in
    let e : per_millionth * den ≡ num * (705600000000 / num * den) = omega (arith, ap (λ x. x * den) f) in
    rw e (mul-mod_right num (705600000000 / num * den))
