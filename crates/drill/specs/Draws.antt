-- The numbers that a generator gives.
use Rattle.std.specs.Prelude.{ℕ, zero, suc, ◌+◌, ◌*◌, ◌/◌, ◌%◌, ◌^◌}

-- the generator's number after a draw
abbrev pub next : ℕ → ℕ
next x = (x * 6364136223846793005 + 1442695040888963407) % 2 ^ 64

-- what is drawn of the numbers below n, where the generator's number is x
abbrev pub draw : ℕ → ℕ → ℕ
draw n x = next x / 2 ^ 33 % n

-- the generator's number after so many draws
abbrev pub after : ℕ → ℕ → ℕ
after zero x = x
after (suc n) x = after n (next x)
