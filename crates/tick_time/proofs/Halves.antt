-- Rounding half to even.
use Rattle.std.proofs.Common.{◌≡◌, ℕ, zero, suc, ◌+◌, ◌-◌, ◌*◌, ◌%◌, ◌^◌, ◌<◌, ◌≤◌, ◌≢◌, Bool, true, false, ℤ, pos, negsuc, ◌*ℤ◌, ◌+ℤ◌, ◌-ℤ◌, refl, sym, ◌∙◌, ap, arith, unsigned_abs, Option, Some, None, MatchOption, ◌⊎◌, inl, inr}
use Rattle.std.proofs.lemmas.Int.{ints}
use Rattle.std.proofs.lemmas.Nat.{pow-add}
use Rattle.std.proofs.Math.Nat.{pow-le-pow_right, mul-le-mul_right, one-le-pow}
use Rattle.tick_time.specs.Numerals.{signed}
use Rattle.tick_time.specs.Decimals.{raised, lowered, decimal_value, millionths, millionths_top, IsNearestEven, IsHalfEven, IsRounded, IsHuge}
use Rattle.tick_time.proofs.Fractions.{signed-mul}

pub zero_nearest : (digits shift : ℕ) → digits < 100000000000000000000000000000000000000 → 38 < shift → IsNearestEven digits (10 ^ shift) 0
zero_nearest digits shift small far =
    let large : 1000000000000000000000000000000000000000 ≤ 10 ^ shift = pow-le-pow_right {n = 10} (omega arith) {i = 39} {j = shift} far in
    record { above = omega arith; below = omega arith; tie_above = λ _. refl; tie_below = λ _. refl }

pub raised_huge : (digits shift : ℕ) → digits ≢ 0 → 24 < shift → 1000000000000000000000000 < digits * 10 ^ shift
raised_huge digits shift some far =
    let large : 10000000000000000000000000 ≤ 10 ^ shift = pow-le-pow_right {n = 10} (omega arith) {i = 25} {j = shift} far in
    let more : 1 * 10 ^ shift ≤ digits * 10 ^ shift = mul-le-mul_right (10 ^ shift) (omega arith) in
    omega arith

le_or : (a b : ℕ) → (a ≤ b) ⊎ (b ≤ a)
le_or a b = grind arith

exact : (a b n : ℕ) → 1 ≤ b → a ≡ n * b → IsNearestEven a b n
exact a b n some e = record { above = omega arith; below = omega arith; tie_above = λ h. absurd (omega arith); tie_below = λ h. absurd (omega arith) }

by_million : (a b n : ℕ) → IsNearestEven a b n → IsNearestEven (a * 1000000) (b * 1000000) n
by_million a b n h = record {
  above = omega (arith, h.above);
  below = omega (arith, h.below);
  tie_above = λ e. h.tie_above (omega arith);
  tie_below = λ e. h.tie_below (omega arith);
}

pub raised_shift : (exp : ℤ) (s : ℕ) → pos s ≡ exp +ℤ pos 6 → s + lowered exp ≡ raised exp + 6
raised_shift (pos n) s e = omega (arith, ints)
raised_shift (negsuc n) s e = omega (arith, ints)

pub raised_top : (digits s r l : ℕ) → s + l ≡ r + 6 → digits * 10 ^ r * 1000000 ≡ digits * 10 ^ s * 10 ^ l
raised_top digits s r l e =
    let f : 10 ^ s * 10 ^ l ≡ 10 ^ r * 1000000 = sym (pow-add 10 s l) ∙ ap (λ k. 10 ^ k) e ∙ pow-add 10 r 6 in
    let g : digits * (10 ^ s * 10 ^ l) ≡ digits * (10 ^ r * 1000000) = ap (λ x. digits * x) f in
    omega (arith, g)

pub raised_nearest : (digits s : ℕ) (exp : ℤ) → pos s ≡ exp +ℤ pos 6 → IsNearestEven (millionths_top digits exp) (10 ^ lowered exp) (digits * 10 ^ s)
raised_nearest digits s exp e = exact _ _ _ (one-le-pow (lowered exp) 10 (omega arith)) (raised_top digits s (raised exp) (lowered exp) (raised_shift exp s e))

pub lowered_nearest : (digits s n : ℕ) (exp : ℤ) → (pos s +ℤ pos 6) ≡ (pos 0 -ℤ exp) → IsNearestEven digits (10 ^ s) n → IsNearestEven (millionths_top digits exp) (10 ^ lowered exp) n
lowered_nearest digits s n (pos k) e h = absurd (omega (arith, ints))
lowered_nearest digits s n (negsuc k) e h =
    let l : k + 1 ≡ s + 6 = omega (arith, ints) in
    let bottom : 10 ^ (k + 1) ≡ 10 ^ s * 1000000 = ap (λ x. 10 ^ x) l ∙ pow-add 10 s 6 in
    let top : digits * 10 ^ 0 * 1000000 ≡ digits * 1000000 = omega arith in
    rw (bottom, top) (by_million digits (10 ^ s) n h)

pub raised_match : (r : Option ℕ) (digits s : ℕ) (exp : ℤ) → pos s ≡ exp +ℤ pos 6
    → MatchOption r (1000000000000000000000000 < digits * 10 ^ s) (λ n. (n ≡ digits * 10 ^ s) × (n ≤ 1000000000000000000000000))
    → MatchOption r ((n : ℕ) × IsNearestEven (millionths_top digits exp) (10 ^ lowered exp) n × (1000000000000000000000000 < n))
    (λ n. IsNearestEven (millionths_top digits exp) (10 ^ lowered exp) n × (n ≤ 1000000000000000000000000))
raised_match None digits s exp e h = (digits * 10 ^ s, raised_nearest digits s exp e, h)
raised_match (Some n) digits s exp e h = (rw h.0 (raised_nearest digits s exp e), h.1)

nearest_even : (a b n : ℕ) → IsNearestEven a b n → 2 * ((a - n * b) + (n * b - a)) ≡ b → n % 2 ≡ 0
nearest_even a b n h e = by (le_or a (n * b)) where
  by : (a ≤ n * b) ⊎ (n * b ≤ a) → n % 2 ≡ 0
  by (inl le) = h.tie_below (omega arith)
  by (inr le) = h.tie_above (omega arith)

-- the same with a sign
pub abs-signed : (neg : Bool) (n : ℕ) → unsigned_abs (signed neg n) ≡ n
abs-signed false n = refl
abs-signed true zero = refl
abs-signed true (suc n) = refl

apart : (neg : Bool) (x y : ℕ) → unsigned_abs (signed neg x -ℤ signed neg y) ≡ (x - y) + (y - x)
apart false x y = omega (arith, ints)
apart true x y = omega (arith, ints)

distance : (neg : Bool) (digits n b : ℕ) (exp : ℤ)
    → unsigned_abs ((signed neg (digits * 10 ^ raised exp) *ℤ pos 1000000) -ℤ (signed neg n *ℤ pos b)) ≡ (millionths_top digits exp - n * b) + (n * b - millionths_top digits exp)
distance neg digits n b exp = rw (signed-mul neg (digits * 10 ^ raised exp) 1000000, signed-mul neg n b) (apart neg (millionths_top digits exp) (n * b))

pub half_even-signed : (neg : Bool) (digits n : ℕ) (exp : ℤ) → IsNearestEven (millionths_top digits exp) (10 ^ lowered exp) n → IsHalfEven (millionths (decimal_value neg digits exp)) (signed neg n)
half_even-signed neg digits n exp h =
    let d = distance neg digits n (10 ^ lowered exp) exp in record {
      near = rw d (omega (arith, h.above, h.below));
      even = λ e. rw abs-signed (nearest_even (millionths_top digits exp) (10 ^ lowered exp) n h (rw d at e));
    }

pub rounded-signed : (neg : Bool) (digits n : ℕ) (exp : ℤ) → IsNearestEven (millionths_top digits exp) (10 ^ lowered exp) n × (n ≤ 1000000000000000000000000)
    → IsRounded (decimal_value neg digits exp) (signed neg n)
rounded-signed neg digits n exp h = (half_even-signed neg digits n exp h.0, omega (arith, abs-signed neg n, h.1))

pub huge-signed : (neg : Bool) (digits : ℕ) (exp : ℤ) → (n : ℕ) × IsNearestEven (millionths_top digits exp) (10 ^ lowered exp) n × (1000000000000000000000000 < n) → IsHuge (decimal_value neg digits exp)
huge-signed neg digits exp (n, h, large) = (signed neg n, half_even-signed neg digits n exp h, omega (arith, abs-signed neg n, large))
