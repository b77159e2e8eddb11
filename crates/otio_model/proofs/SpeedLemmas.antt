-- The range of a kept speed, and of a product of two speeds.
use Rattle.std.proofs.Common.{◌≡◌, refl, ◌≤◌, Bool, true, false, cond, List, [], ◌∷◌, Option}
use Rattle.std.proofs.Common.{Some, None, IfSome, ℤ, pos, ◌-ℤ◌, ◌*ℤ◌, ◌≤ℤ◌, arith}
use Rattle.std.specs.Prelude.{int_le, unsigned_abs}
use Rattle.std.proofs.lemmas.Bool.{and_parts}
use Rattle.std.proofs.lemmas.Int.{ints, unsigned_abs-mul}
use Rattle.std.proofs.lemmas.Nat.{mul-le}
use Rattle.limits.proofs.IntegerTests.{int_le-true, below-int_le}
use Rattle.tick_time.specs.Times.{IsSpeed, is_speed}
use Rattle.otio_model.specs.declared.effect_types.Effect.{Effect}
use Rattle.otio_model.specs.Speeds.{next_speed, combined, keeps_speed, kept_speed, speed_in}

-- a speed that passes the test is one
pub speed_of_test : (speed : ℤ) → is_speed speed ≡ true → IsSpeed speed
speed_of_test speed e =
    let p = and_parts (int_le (pos 0 -ℤ pos 1000000000) speed) (int_le speed (pos 1000000000)) e in
    record {
      low = int_le-true (pos 0 -ℤ pos 1000000000) speed p.0;
      high = int_le-true speed (pos 1000000000) p.1;
    }

combined_speed : (speed : ℤ) (es : List Effect) → IsSpeed speed → keeps_speed speed es ≡ true
    → IsSpeed (combined speed es)
combined_speed speed [] h e = h
combined_speed speed (x ∷ xs) h e =
    let p = and_parts (is_speed (next_speed speed x)) (keeps_speed (next_speed speed x) xs) e in
    combined_speed (next_speed speed x) xs (speed_of_test (next_speed speed x) p.0) p.1

where_kept : (b : Bool) (v : ℤ) → (b ≡ true → IsSpeed v) → IfSome (cond b (Some v) None) IsSpeed
where_kept true v h = h refl
where_kept false v h = tt

-- the number of a speed is that speed
pub speed_in_speed : (speed : ℤ) → IsSpeed speed → speed_in speed ≡ Some speed
speed_in_speed speed h =
    rw (below-int_le (pos 0 -ℤ pos 1000000000) speed h.low, below-int_le speed (pos 1000000000) h.high)
    refl

-- a kept speed is at most 1000 times, either way
pub kept_in_range : (o : Option ℤ) (es : List Effect) → o ≡ kept_speed (pos 1000000) es
    → IfSome o IsSpeed
kept_in_range o es e = rw e (where_kept (keeps_speed (pos 1000000) es) (combined (pos 1000000) es)
    (combined_speed (pos 1000000) es
    (record { low = omega (arith, ints); high = omega (arith, ints) })))

size : (a : ℤ) → (pos 0 -ℤ pos 1000000000) ≤ℤ a → a ≤ℤ pos 1000000000
    → unsigned_abs a ≤ 1000000000
size a l h = omega (arith, ints, l, h)

product_size : (a b : ℤ) → (pos 0 -ℤ pos 1000000000) ≤ℤ a → a ≤ℤ pos 1000000000
    → (pos 0 -ℤ pos 1000000000) ≤ℤ b → b ≤ℤ pos 1000000000
    → unsigned_abs (a *ℤ b) ≤ 1000000000000000000
product_size a b al ah bl bh =
    let e = unsigned_abs-mul a b in
    let m = mul-le (unsigned_abs a) (unsigned_abs b) 1000000000 1000000000 (size a al ah)
    (size b bl bh) in
    omega (arith, e, m)

low : (z : ℤ) → unsigned_abs z ≤ 1000000000000000000 → (pos 0 -ℤ pos 1000000000000000000) ≤ℤ z
low z h = omega (arith, ints, h)

high : (z : ℤ) → unsigned_abs z ≤ 1000000000000000000 → z ≤ℤ pos 1000000000000000000
high z h = omega (arith, ints, h)

-- the product of two speeds is small
pub product_low : (z a b : ℤ) → z ≡ a *ℤ b → (pos 0 -ℤ pos 1000000000) ≤ℤ a
    → a ≤ℤ pos 1000000000 → (pos 0 -ℤ pos 1000000000) ≤ℤ b → b ≤ℤ pos 1000000000
    → (pos 0 -ℤ pos 1000000000000000000) ≤ℤ z
product_low z a b e al ah bl bh = rw e (low (a *ℤ b) (product_size a b al ah bl bh))

pub product_high : (z a b : ℤ) → z ≡ a *ℤ b → (pos 0 -ℤ pos 1000000000) ≤ℤ a
    → a ≤ℤ pos 1000000000 → (pos 0 -ℤ pos 1000000000) ≤ℤ b → b ≤ℤ pos 1000000000
    → z ≤ℤ pos 1000000000000000000
product_high z a b e al ah bl bh = rw e (high (a *ℤ b) (product_size a b al ah bl bh))
