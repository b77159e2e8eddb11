-- Rounding half to even, as a calculation.
use Rattle.std.specs.Prelude.{ℕ, ◌+◌, ◌*◌, ◌/◌, ◌%◌, ◌==◌, nat_lt, ℤ, pos, ◌+ℤ◌, int_lt, int_le, unsigned_abs, Bool, ◌&&◌, ◌||◌, cond}
use Rattle.std.specs.Int.{int_div_euclid, int_rem_euclid}

-- a / b, rounded to the nearest whole number, and to the even one of two
abbrev pub half_even : ℕ → ℕ → ℕ
half_even a b =
    a / b + cond (nat_lt (2 * (a % b)) b) 0 (cond (nat_lt b (2 * (a % b))) 1 (a / b % 2))

-- the rest of a division by a million is less than half of it, or is half of it and the quotient is
-- even
abbrev pub is_rounded_down : ℤ → ℤ → Bool
is_rounded_down quotient rest =
    int_lt rest (pos 500000) || (int_le rest (pos 500000) && (unsigned_abs quotient % 2 == 0))

-- so many millionths as a whole number, rounded half to even
abbrev pub from_millionths : ℤ → ℤ
from_millionths z =
    cond (is_rounded_down (int_div_euclid z (pos 1000000)) (int_rem_euclid z (pos 1000000)))
    (int_div_euclid z (pos 1000000))
    (int_div_euclid z (pos 1000000) +ℤ pos 1)
