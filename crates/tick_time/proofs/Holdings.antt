-- Whether an instant lies in a span, by the code's two tests.
use Rattle.std.proofs.Common.{◌≡◌, ℤ, ◌≤ℤ◌, ◌<ℤ◌, ◌+ℤ◌, int_le, int_lt, true, false, arith}
use Rattle.std.proofs.lemmas.Int.{ints}
use Rattle.tick_time.specs.Times.{Holds}

le_from : (a b : ℤ) → int_le a b ≡ true → a ≤ℤ b
le_from a b h = grind (arith, ints)

le_test : (a b : ℤ) → a ≤ℤ b → int_le a b ≡ true
le_test a b h = grind (arith, ints)

lt_from : (a b : ℤ) → int_lt a b ≡ true → a <ℤ b
lt_from a b h = grind (arith, ints)

lt_test : (a b : ℤ) → a <ℤ b → int_lt a b ≡ true
lt_test a b h = grind (arith, ints)

pub holds_then : (start len ticks stop : ℤ) → stop ≡ start +ℤ len → int_le start ticks ≡ true
    → (int_lt ticks stop ≡ true → Holds start len ticks)
    × (Holds start len ticks → int_lt ticks stop ≡ true)
holds_then start len ticks stop e h = (
  λ t. record { from = le_from start ticks h; to = rw (← e) (lt_from ticks stop t) },
  λ k. lt_test ticks stop (rw e k.to),
)

pub holds_else : (start len ticks : ℤ) → int_le start ticks ≡ false
    → (int_le start ticks ≡ true → Holds start len ticks)
    × (Holds start len ticks → int_le start ticks ≡ true)
holds_else start len ticks h = (λ t. absurd (cc), λ k. le_test start ticks k.from)
