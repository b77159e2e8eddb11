-- Speeds in tenths of a frame a second, as millionths of the rate's own.
use Rattle.std.proofs.Common.{◌≡◌, ℕ, ◌+◌, ◌*◌, ◌/◌, ◌%◌, ◌<◌, ◌≤◌, Bool, true, false, cond, nat_lt, Option, Some, None, sym, arith}
use Rattle.std.proofs.lemmas.Nat.{mul-le, div-add-mod'}
use Rattle.std.proofs.Math.Nat.{mul-div-le, add-mul, mod-lt}
use Rattle.edl_list.specs.Formed.{IsSpeed}
use Rattle.edl_list.specs.Laws.{IsCount}
use Rattle.edl_list.specs.Speeds.{half_even, speed_of}

-- what rounding adds
pub one_more : (p q : Bool) (n : ℕ) → cond p 0 (cond q 1 (n % 2)) ≤ 1
one_more true q n = omega arith
one_more false true n = omega arith
one_more false false n = omega arith

-- rounding adds one at most
rounded_high : (a b : ℕ) → half_even a b ≤ a / b + 1
rounded_high a b =
    let more = one_more (nat_lt (2 * (a % b)) b) (nat_lt b (2 * (a % b))) (a / b) in
    omega (arith, more)

rounded_low : (a b : ℕ) → a / b ≤ half_even a b
rounded_low a b = omega arith

div-le : (n m : ℕ) → 1 ≤ m → n / m ≤ n
div-le n m some =
    let times = mul-div-le n m in
    let more = mul-le 1 (n / m) m (n / m) some (omega arith) in
    omega (arith, times, more)

-- the speed that a side can have is at most a thousand times the rate's own
pub speed_small : (count : ℕ) (speed : Option ℕ) → 1 ≤ count → IsSpeed speed
    → speed_of count speed ≤ 1000 * 1000000
speed_small count None some fits = omega arith
speed_small count (Some tenths) some fits =
    let whole = div-le (tenths * 100000) count some in
    let high = rounded_high (tenths * 100000) count in
    omega (arith, whole, high, fits)

-- speeds that lie a tenth apart or more are not rounded to one
far_apart : (a b c : ℕ) → IsCount c → a + 100000 ≤ b → half_even a c ≡ half_even b c → ⊥
far_apart a b c count far same =
    let some = count.some in
    let small = count.small in
    let quotients : b / c ≤ a / c + 1 =
    omega (arith, rounded_high a c, rounded_low b c, same) in
    let below = mul-le (b / c) c (a / c + 1) c quotients (omega arith) in
    let next : (a / c + 1) * c ≡ a / c * c + 1 * c = add-mul (a / c) 1 c in
    omega (arith, below, next, div-add-mod' a c, div-add-mod' b c, mod-lt b some, small, far)

pub equal_tenths : (count m n : ℕ) → IsCount count
    → speed_of count (Some m) ≡ speed_of count (Some n) → m ≡ n
equal_tenths count m n fits same =
    let up : m < n → ⊥ = λ less.
    far_apart (m * 100000) (n * 100000) count fits (omega (arith, less)) same in
    let down : n < m → ⊥ = λ less.
    far_apart (n * 100000) (m * 100000) count fits (omega (arith, less)) (sym same) in
    grind (arith, up, down)
