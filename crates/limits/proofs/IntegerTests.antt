-- Tests that compare whole numbers: what each answer says, and which facts give it.
use Rattle.std.proofs.Common.{◌≡◌, ℤ, pos, ◌-ℤ◌, ◌≤ℤ◌, ◌<ℤ◌, true, false, arith}
use Rattle.std.specs.Prelude.{int_lt, int_le}
use Rattle.std.proofs.lemmas.Int.{ints}

pub int_lt-true : (a b : ℤ) → int_lt a b ≡ true → a <ℤ b
int_lt-true a b e = grind (arith, ints)

pub int_lt-false : (a b : ℤ) → int_lt a b ≡ false → b ≤ℤ a
int_lt-false a b e = grind (arith, ints)

pub int_le-true : (a b : ℤ) → int_le a b ≡ true → a ≤ℤ b
int_le-true a b e = grind (arith, ints)

pub int_le-false : (a b : ℤ) → int_le a b ≡ false → b <ℤ a
int_le-false a b e = grind (arith, ints)

pub below-int_lt : (a b : ℤ) → a <ℤ b → int_lt a b ≡ true
below-int_lt a b h = grind (arith, ints)

pub above-int_lt : (a b : ℤ) → b ≤ℤ a → int_lt a b ≡ false
above-int_lt a b h = grind (arith, ints)

pub below-int_le : (a b : ℤ) → a ≤ℤ b → int_le a b ≡ true
below-int_le a b h = grind (arith, ints)

pub above-int_le : (a b : ℤ) → b <ℤ a → int_le a b ≡ false
above-int_le a b h = grind (arith, ints)

-- a comparison of two numbers is one of their difference with 0
pub int_le-of_difference : (a b : ℤ) → int_le a b ≡ int_le (pos 0) (b -ℤ a)
int_le-of_difference a b = grind (arith, ints)
