-- How many frames a length takes.
use Rattle.std.proofs.Common.{◌≡◌, ℕ, ◌+◌, ◌*◌, ◌/◌, ◌%◌, ◌<◌, ◌≤◌, ◌^◌, pos, ◌≤ℤ◌, arith, to_z}
use Rattle.std.specs.Int.{div_ceil, w128}
use Rattle.std.proofs.lemmas.Int.{ints}
use Rattle.std.proofs.Math.Nat.{mul-le-mul_left}

few_in : (n d q r : ℕ) → 1000000 ≤ d → n < 2 ^ 128 → d * q + r ≡ n → q < 2 ^ 109
few_in n d q r some small e = grind (arith, mul-le-mul_left)

pub frames_few : (n d f : ℕ) → 1000000 ≤ d → n < 2 ^ 128 → f ≡ div_ceil n d → f ≤ 2 ^ 110
frames_few n d f some small e = let q = few_in n d (n / d) (n % d) some small (omega arith) in omega (arith, q, e)
