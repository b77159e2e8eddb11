-- Products and quotients of numbers that are near 0.
use Rattle.std.proofs.Common.{of_z, to_z, subst, sym, ◌≡◌, ℕ, ◌*◌, ◌/◌, ◌≤◌, ℤ, pos, negsuc, ◌*ℤ◌, ◌<ℤ◌, ◌≤ℤ◌, unsigned_abs, arith}
use Rattle.std.specs.Int.{w128, int_div_euclid}
use Rattle.edl_conform.proofs.CastLemmas.{kept, near_in}
use Rattle.std.proofs.lemmas.Int.{ints, unsigned_abs-mul}
use Rattle.std.proofs.lemmas.Nat.{mul-le}
use Rattle.std.proofs.Math.Nat.{mul-div-le}
use Rattle.edl_conform.specs.Ranges.{IsNear}

pub near_abs : (n : ℕ) (z : ℤ) → IsNear n z → unsigned_abs z ≤ n
near_abs n z h = let a = h.low in let b = h.high in omega (arith, ints, a, b)

pub abs_near : (n : ℕ) (z : ℤ) → unsigned_abs z ≤ n → IsNear n z
abs_near n z h = record { low = omega (arith, ints, h); high = omega (arith, ints, h) }

pub product_near : (m n : ℕ) (a b : ℤ) → IsNear m a → IsNear n b → IsNear (m * n) (a *ℤ b)
product_near m n a b h k =
    let e = unsigned_abs-mul a b in
    let l = mul-le (unsigned_abs a) (unsigned_abs b) m n (near_abs m a h) (near_abs n b k) in
    abs_near (m * n) (a *ℤ b) (omega (arith, e, l))

-- media go no further in some ticks than a thousand times as far
pub played_near : (n m : ℕ) (ticks from gone : ℤ) → IsNear n ticks → from ≡ ticks
    → unsigned_abs gone ≤ 1000 * unsigned_abs from → 1000 * n ≤ m
    → m ≤ 100000000000000000000000000000000000 → IsNear m (to_z w128 (of_z w128 gone))
played_near n m ticks from gone near same far few least =
    let a = near_abs n ticks near in
    let b : unsigned_abs gone ≤ 1000 * unsigned_abs ticks =
    subst (λ z. unsigned_abs gone ≤ 1000 * unsigned_abs z) same far in
    near_in m gone least (abs_near m gone (omega (arith, a, b, few)))

-- how many frames an overlap has that isn't too long
few_by : (n k : ℕ) → 1 ≤ k → n ≤ 999 * k → n / k ≤ 999
few_by n k some high =
    let times = mul-div-le n k in
    let more : 1000 ≤ n / k → ⊥ = λ less.
    let m = mul-le k 1000 k (n / k) (omega arith) less in omega (arith, m, times, high, some) in
    omega (arith, more)

pub lap_few : (d t : ℤ) → pos 0 <ℤ d → pos 1 ≤ℤ t → d ≤ℤ (pos 999 *ℤ t)
    → (pos 0 ≤ℤ int_div_euclid d t) × (int_div_euclid d t ≤ℤ pos 999)
lap_few (pos n) (pos k) some one high =
    let f = few_by n k (omega (arith, ints, one)) (omega (arith, ints, high)) in
    (omega (arith, ints), omega (arith, ints, f))
lap_few (negsuc n) t some one high = absurd (omega (arith, ints, some))
lap_few (pos n) (negsuc k) some one high = absurd (omega (arith, ints, one))

-- a product as the code has it
pub record IsProduct (p a b : ℤ) : Type 0 where
  pub value : p ≡ a *ℤ b
  pub near : IsNear 2116800000000000000000000000000000 p

pub product_is : (a b : ℤ) → IsNear 2116800000000000000000000 a → IsNear 1000000000 b
    → IsProduct (to_z w128 (of_z w128 (a *ℤ b))) a b
product_is a b h k =
    let p = product_near 2116800000000000000000000 1000000000 a b h k in
    let is = kept 2116800000000000000000000000000000 (a *ℤ b) (omega arith) p in
    record { value = is; near = subst (IsNear 2116800000000000000000000000000000) (sym is) p }
