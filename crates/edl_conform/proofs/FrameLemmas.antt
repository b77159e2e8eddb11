-- Record frames: how long they are where the rate has timecode, and how many there can be.
use Rattle.std.proofs.Common.{◌≡◌, refl, sym, ap, subst, ℕ, ◌+◌, ◌*◌, ◌/◌, ◌≤◌, ◌==◌, ℤ, pos, negsuc, ◌≤ℤ◌, Bool, true, false, cond, Some, None, unsigned_abs, arith}
use Rattle.std.specs.Prelude.{nat_le}
use Rattle.std.specs.Int.{int_div_euclid}
use Rattle.std.proofs.lemmas.Int.{ints}
use Rattle.std.proofs.lemmas.Bool.Decides.{Decides-eqb}
use Rattle.std.proofs.lemmas.Nat.{mul-le, div-add-mod'}
use Rattle.std.proofs.Math.Nat.{mod-lt, mul-div-le}
use Rattle.limits.specs.Limits.{most_ticks}
use Rattle.tick_time.specs.Rates.{per_millionth, unit, frame, nominal, relative_count}
use Rattle.edl_conform.specs.Ranges.{IsNear}

-- ---- quotients

-- a quotient is near where its numerator is
near_by : (a k d n : ℕ) → d ≤ k → 1 ≤ d → a ≤ d * n → (a / k) ≤ n
near_by a k d n low some high =
    let times = mul-div-le a k in
    let more : n + 1 ≤ a / k → ⊥ = λ less.
    let m = mul-le d (n + 1) k (a / k) low less in
    let e = dist d n in omega (arith, m, times, high, some, e) in
    omega (arith, more)
  where
    dist : (x y : ℕ) → x * (y + 1) ≡ x * y + x
    dist x y = omega arith

pub quotient_near : (d n : ℕ) (z k : ℤ) → 1 ≤ d → pos d ≤ℤ k → IsNear (d * n) z
    → IsNear (n + 1) (int_div_euclid z k)
quotient_near d n (pos a) (pos k) some low near =
    let high = near.high in
    let h = near_by a k d n (omega (arith, ints, low)) some (omega (arith, ints, high)) in
    record { low = omega (arith, ints); high = omega (arith, ints, h) }
quotient_near d n (negsuc a) (pos k) some low near =
    let least = near.low in
    let h = near_by a k d n (omega (arith, ints, low)) some (omega (arith, ints, least)) in
    record { low = omega (arith, ints, h); high = omega (arith, ints) }
quotient_near d n z (negsuc k) some low near = absurd (omega (arith, ints, low))

-- ---- frames of rates that have timecode

relative : (num : ℕ) (n : ℤ) → relative_count num ≡ Some n
    → 11760000000 ≤ per_millionth * 1001 / num
relative num n e = by (num == 15000) (num == 24000) (num == 30000) (num == 48000) (num == 60000)
    refl refl refl refl refl e
  where
    at : (k : ℕ) → (num == k) ≡ true → num ≡ k
    at k f = (Decides-eqb num k).0 f

    by : (a b c d f : Bool) → (num == 15000) ≡ a → (num == 24000) ≡ b → (num == 30000) ≡ c
        → (num == 48000) ≡ d → (num == 60000) ≡ f
        → cond a (Some (pos 15)) (cond b (Some (pos 24)) (cond c (Some (pos 30))
        (cond d (Some (pos 48)) (cond f (Some (pos 60)) None)))) ≡ Some n
        → 11760000000 ≤ per_millionth * 1001 / num
    by true b c d f h1 h2 h3 h4 h5 g = let k = at 15000 h1 in rw k (omega arith)
    by false true c d f h1 h2 h3 h4 h5 g = let k = at 24000 h2 in rw k (omega arith)
    by false false true d f h1 h2 h3 h4 h5 g = let k = at 30000 h3 in rw k (omega arith)
    by false false false true f h1 h2 h3 h4 h5 g = let k = at 48000 h4 in rw k (omega arith)
    by false false false false true h1 h2 h3 h4 h5 g = let k = at 60000 h5 in rw k (omega arith)
    by false false false false false h1 h2 h3 h4 h5 g = absurd (cc g)

shared : (p n : ℕ) → 1 ≤ n → n ≤ 60 → 60 * 11760000000 ≤ p → 11760000000 ≤ p / n
shared p n some few high =
    let e = div-add-mod' p n in
    let r = mod-lt p some in
    let m = mul-le (p / n) n (p / n) 60 (omega arith) few in
    omega (arith, e, r, m, high, few)

-- a millionth of a frame
unit_long : (num den n : ℤ) → nominal num den ≡ Some n → pos 1 ≤ℤ num → 11760000000 ≤ unit num den
unit_long num den n e some = by (unsigned_abs den == 1001) (unsigned_abs den == 1) refl refl e
  where
    whole : (t : Bool) → nat_le (unsigned_abs num) 60 ≡ t → unsigned_abs den ≡ 1
        → cond t (Some num) None ≡ Some n → 11760000000 ≤ unit num den
    whole true f d g =
        let few : unsigned_abs num ≤ 60 = grind (arith, f) in
        let u : unit num den ≡ per_millionth / unsigned_abs num =
        ap (λ k. per_millionth * k / unsigned_abs num) d in
        subst (λ k. 11760000000 ≤ k) (sym u)
        (shared per_millionth (unsigned_abs num) (omega (arith, ints, some)) few (omega arith))
    whole false f d g = absurd (cc g)

    by : (a b : Bool) → (unsigned_abs den == 1001) ≡ a → (unsigned_abs den == 1) ≡ b
        → cond a (relative_count (unsigned_abs num))
        (cond b (cond (nat_le (unsigned_abs num) 60) (Some num) None) None) ≡ Some n
        → 11760000000 ≤ unit num den
    by true b f g k =
        let d : unsigned_abs den ≡ 1001 = (Decides-eqb (unsigned_abs den) 1001).0 f in
        subst (λ z. 11760000000 ≤ per_millionth * z / unsigned_abs num) (sym d)
        (relative (unsigned_abs num) n k)
    by false true f g k = whole (nat_le (unsigned_abs num) 60) refl
        ((Decides-eqb (unsigned_abs den) 1).0 g) k
    by false false f g k = absurd (cc k)

pub frame_long : (num den n : ℤ) → nominal num den ≡ Some n → pos 1 ≤ℤ num
    → 11760000000000000 ≤ frame num den
frame_long num den n e some = let u = unit_long num den n e some in omega (arith, u)

-- as many frames as instants of sources can have
pub frames_near : (z k : ℤ) → pos 11760000000000000 ≤ℤ k → IsNear (4000 * most_ticks) z
    → IsNear 1000000000000 (int_div_euclid z k)
frames_near z k long near =
    let low = near.low in
    let high = near.high in
    quotient_near 11760000000000000 999999999999 z k (omega arith) long
    (record { low = omega (arith, ints, low); high = omega (arith, ints, high) })
