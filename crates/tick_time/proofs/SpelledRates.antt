-- From digits with an exponent to the rate that they spell.
use Rattle.std.proofs.Common.{◌≡◌, ℕ, zero, suc, ◌+◌, ◌-◌, ◌*◌, ◌/◌, ◌%◌, ◌^◌, ◌<◌, ◌≤◌, Bool, true, false, ℤ, pos, negsuc, ◌+ℤ◌, ◌-ℤ◌, ◌<ℤ◌, refl, sym, ◌∙◌, ap, subst, arith, unsigned_abs, Option, Some, None, MatchOption}
use Rattle.std.specs.List.{Contains}
use Rattle.std.proofs.lemmas.Int.{ints}
use Rattle.std.proofs.lemmas.Nat.{pow-add}
use Rattle.std.proofs.lemmas.Nat.Gcd.{dvd_of_mod-eq-zero, le_of_dvd}
use Rattle.std.proofs.Math.Nat.{div-mul_cancel, pow-le-pow_right, one-le-pow, mul-le-mul_left, mul-le-mul_right}
use Rattle.tick_time.specs.declared.rates.Rate.{Rate}
use Rattle.tick_time.specs.Numerals.{signed}
use Rattle.tick_time.specs.Decimals.{raised, lowered, decimal_value, IsFarFromRates}
use Rattle.tick_time.specs.Rates.{counts, is_near, is_near_any, IsSpelledRate, IsRateOf, relative, spelled, GivesRate}
use Rattle.tick_time.proofs.Halves.{raised_shift, raised_top}
use Rattle.tick_time.proofs.Nears.{near_any_same, near_any_at, counts_each, close}
use Rattle.tick_time.proofs.LowestTerms.{nonzero, spelled_parts, spelled_same}

-- the bounds of a rate as spelled
pub record Bounds (n d : ℕ) : Type 0 where
  pub den : 1 ≤ d
  pub order : d ≤ n
  pub num : n ≤ 705600000000
  pub places : 1000000 ≡ 1000000 / d * d

pub bounds : (t b n d : ℕ) → IsSpelledRate t b n d → Bounds n d
bounds t b n d s =
    let p = spelled_parts n d s.profile in record {
      den = nonzero 1000000 d p.places (omega arith);
      order = p.at_least_one;
      num = le_of_dvd (omega arith) (dvd_of_mod-eq-zero n p.divides);
      places = sym (div-mul_cancel d (dvd_of_mod-eq-zero d p.places));
    }

fine_in : (digits j n d : ℕ) → (digits % 10 ≡ 0 → digits ≡ 0) → IsSpelledRate digits (10 ^ j * 10000000) n d → ⊥
fine_in digits j n d last s =
    let b = bounds digits (10 ^ j * 10000000) n d s in
    let times : n * (10 ^ j * 10000000) * (1000000 / d) ≡ digits * d * (1000000 / d) = ap (λ x. x * (1000000 / d)) s.equal in
    let whole : digits * 1000000 ≡ digits * (1000000 / d * d) = ap (λ x. digits * x) b.places in
    let tens : digits ≡ 10 * (n * 10 ^ j * (1000000 / d)) = omega arith in
    let none : digits ≡ 0 = last (omega arith) in
    let zeros : digits * d ≡ 0 = rw none (omega arith) in
    let some : 1 * 1 ≤ n * 10 ^ j = one_in n (10 ^ j) (omega (arith, b.order, b.den)) (one-le-pow j 10 (omega arith)) in
    omega (arith, s.equal) where
      one_in : (x y : ℕ) → 1 ≤ x → 1 ≤ y → 1 * 1 ≤ x * y
      one_in x y p q = let le : x * 1 ≤ x * y = mul-le-mul_left x q in omega arith

-- more than six decimals are no rate as spelled
pub fine_none : (digits : ℕ) (exp : ℤ) (n d : ℕ) → (digits % 10 ≡ 0 → digits ≡ 0) → exp <ℤ (pos 0 -ℤ pos 6) → IsSpelledRate (digits * 10 ^ raised exp) (10 ^ lowered exp) n d → ⊥
fine_none digits (pos k) n d last low s = omega (arith, ints)
fine_none digits (negsuc k) n d last low s =
    let e : k + 1 ≡ (k - 6) + 7 = omega (arith, ints) in
    let bottom : 10 ^ (k + 1) ≡ 10 ^ (k - 6) * 10000000 = ap (λ x. 10 ^ x) e ∙ pow-add 10 (k - 6) 7 in
    let top : digits * 10 ^ 0 ≡ digits = omega arith in
    fine_in digits (k - 6) n d last (subst (λ t. IsSpelledRate t (10 ^ (k - 6) * 10000000) n d) top (subst (λ b. IsSpelledRate (digits * 10 ^ 0) b n d) bottom s))

-- the millionths of a fraction with an exponent
pub cross : (digits s m : ℕ) (exp : ℤ) → pos s ≡ exp +ℤ pos 6 → m ≡ digits * 10 ^ s → digits * 10 ^ raised exp * 1000000 ≡ m * 10 ^ lowered exp
cross digits s m exp e is = raised_top digits s (raised exp) (lowered exp) (raised_shift exp s e) ∙ ap (λ x. x * 10 ^ lowered exp) (sym is)

pub power_some : (k : ℕ) → 1 ≤ 10 ^ k
power_some k = one-le-pow k 10 (omega arith)

pub millionths_apart : (digits s m : ℕ) (exp : ℤ) → pos s ≡ exp +ℤ pos 6 → m ≡ digits * 10 ^ s → is_near_any (digits * 10 ^ raised exp) (10 ^ lowered exp) ≡ false → is_near_any m 1000000 ≡ false
millionths_apart digits s m exp e is apart =
    sym (near_any_same (digits * 10 ^ raised exp) (10 ^ lowered exp) m 1000000 (power_some (lowered exp)) (omega arith) (cross digits s m exp e is)) ∙ apart

pub spelled_match : (r : Option Rate) (digits s m : ℕ) (exp : ℤ) → pos s ≡ exp +ℤ pos 6 → m ≡ digits * 10 ^ s
    → MatchOption r ((n d : ℕ) → IsSpelledRate m 1000000 n d → ⊥) (λ rate. IsSpelledRate m 1000000 (unsigned_abs rate.num) (unsigned_abs rate.den))
    → MatchOption r ((n d : ℕ) → IsSpelledRate (digits * 10 ^ raised exp) (10 ^ lowered exp) n d → ⊥)
    (λ rate. IsSpelledRate (digits * 10 ^ raised exp) (10 ^ lowered exp) (unsigned_abs rate.num) (unsigned_abs rate.den))
spelled_match None digits s m exp e is h = λ n d t. h n d (spelled_same (digits * 10 ^ raised exp) (10 ^ lowered exp) m 1000000 n d (power_some (lowered exp)) (cross digits s m exp e is) t)
spelled_match (Some rate) digits s m exp e is h =
    spelled_same m 1000000 (digits * 10 ^ raised exp) (10 ^ lowered exp) (unsigned_abs rate.num) (unsigned_abs rate.den) (omega arith) (sym (cross digits s m exp e is)) h

pub huge_none : (digits s : ℕ) (exp : ℤ) (n d : ℕ) → pos s ≡ exp +ℤ pos 6 → 1000000000000000000000000 < digits * 10 ^ s → IsSpelledRate (digits * 10 ^ raised exp) (10 ^ lowered exp) n d → ⊥
huge_none digits s exp n d e large t =
    let u = spelled_same (digits * 10 ^ raised exp) (10 ^ lowered exp) (digits * 10 ^ s) 1000000 n d (power_some (lowered exp)) (cross digits s (digits * 10 ^ s) exp e refl) t in
    let b = bounds (digits * 10 ^ s) 1000000 n d u in
    let more : digits * 10 ^ s * 1 ≤ digits * 10 ^ s * d = mul-le-mul_left (digits * 10 ^ s) b.den in
    omega (arith, u.equal, b.num)

count_most : (n : ℕ) → Contains counts n → n ≤ 120
count_most = counts_each (λ n. n ≤ 120) (omega arith) (omega arith) (omega arith) (omega arith) (omega arith) (omega arith)

count_least : (n : ℕ) → Contains counts n → 15 ≤ n
count_least = counts_each (λ n. 15 ≤ n) (omega arith) (omega arith) (omega arith) (omega arith) (omega arith) (omega arith)

large_none : (t b n d : ℕ) → b ≡ 1 → 1000000000000000000000000 < t → IsRateOf t b n d → ⊥
large_none t b n d one large (relative k in_counts near num den) =
    let c = close t b k near in
    let at : k * b ≡ k = rw one (omega arith) in
    omega (arith, c.above, count_most k in_counts)
large_none t b n d one large (spelled apart s) =
    let f = bounds t b n d s in
    let at : n * b ≡ n = rw one (omega arith) in
    let more : t * 1 ≤ t * d = mul-le-mul_left t f.den in
    omega (arith, s.equal, f.num)

tiny_none : (t b n d : ℕ) → t < 100000000000000000000000000000000000000 → 1000000000000000000000000000000000000000 ≤ b → IsRateOf t b n d → ⊥
tiny_none t b n d small large (relative k in_counts near num den) =
    let c = close t b k near in
    let more : 15 * b ≤ k * b = mul-le-mul_right b (count_least k in_counts) in
    omega (arith, c.below)
tiny_none t b n d small large (spelled apart s) =
    let f = bounds t b n d s in
    let more : t * d ≤ t * n = mul-le-mul_left t f.order in
    let less : (t + 1) * n ≤ b * n = mul-le-mul_right n (omega arith) in
    omega (arith, s.equal, f.order, f.den)

pub far_none : (digits : ℕ) (exp : ℤ) (n d : ℕ) → digits < 100000000000000000000000000000000000000 → IsFarFromRates digits exp → IsRateOf (digits * 10 ^ raised exp) (10 ^ lowered exp) n d → ⊥
far_none digits (pos k) n d small far h = large_none (digits * 10 ^ k) (10 ^ 0) n d refl far h
far_none digits (negsuc k) n d small far h =
    tiny_none (digits * 10 ^ 0) (10 ^ (k + 1)) n d (omega arith) (pow-le-pow_right {n = 10} (omega arith) {i = 39} {j = k + 1} (omega arith)) h

pub none_given : (t b n d : ℕ) → is_near_any t b ≡ false → ((n d : ℕ) → IsSpelledRate t b n d → ⊥) → IsRateOf t b n d → ⊥
none_given t b n d apart none (relative k in_counts near num den) = let yes = near_any_at t b k in_counts near in cc
none_given t b n d apart none (spelled _ s) = none n d s

pub gives : (neg : Bool) (digits : ℕ) (exp : ℤ) (num den : ℤ) → neg ≡ false → IsRateOf (digits * 10 ^ raised exp) (10 ^ lowered exp) (unsigned_abs num) (unsigned_abs den) → GivesRate (decimal_value neg digits exp) num den
gives neg digits exp num den e h = record { top = digits * 10 ^ raised exp; size = ap (λ s. signed s (digits * 10 ^ raised exp)) e; rate = h }

pub given : (neg : Bool) (digits : ℕ) (exp : ℤ) (num den : ℤ) → neg ≡ false → GivesRate (decimal_value neg digits exp) num den → IsRateOf (digits * 10 ^ raised exp) (10 ^ lowered exp) (unsigned_abs num) (unsigned_abs den)
given neg digits exp num den e g =
    let same : digits * 10 ^ raised exp ≡ g.top = ap unsigned_abs (sym (ap (λ s. signed s (digits * 10 ^ raised exp)) e) ∙ g.size) in
    subst (λ t. IsRateOf t (10 ^ lowered exp) (unsigned_abs num) (unsigned_abs den)) (sym same) g.rate

minus-none : (x t : ℕ) → 1 ≤ x → signed true x ≡ pos t → ⊥
minus-none zero t some e = omega arith
minus-none (suc x) t some e = cc

-- a number below 0 gives no rate
pub minus_none : (neg : Bool) (digits : ℕ) (exp : ℤ) (num den : ℤ) → neg ≡ true → (digits ≡ 0 → neg ≡ false) → GivesRate (decimal_value neg digits exp) num den → ⊥
minus_none neg digits exp num den e zero_plain g =
    let some : 1 ≤ digits = positive digits (λ z. cc (zero_plain z)) in
    let more : digits * 1 ≤ digits * 10 ^ raised exp = mul-le-mul_left digits (power_some (raised exp)) in
    minus-none (digits * 10 ^ raised exp) g.top (omega arith) (sym (ap (λ s. signed s (digits * 10 ^ raised exp)) e) ∙ g.size) where
      positive : (n : ℕ) → (n ≡ 0 → ⊥) → 1 ≤ n
      positive n h = omega arith

pub near_at : (t b u e n : ℕ) → t ≡ u → b ≡ e → is_near t b n ≡ true → is_near u e n ≡ true
near_at t b u e n p q h = rw (← p, ← q) h

pub apart_at : (t b u e : ℕ) → t ≡ u → b ≡ e → is_near_any t b ≡ false → is_near_any u e ≡ false
apart_at t b u e p q h = rw (← p, ← q) h
