-- Timelines start near 0, counted in frames.
use Rattle.std.proofs.Common.{◌≡◌, ℕ, ◌+◌, ◌*◌, ◌/◌, ◌%◌, ◌≤◌, ℤ, pos, negsuc, ◌≤ℤ◌, ◌-ℤ◌, Option, Some, None, FitsSigned, w64, arith}
use Rattle.std.specs.Int.{int_div_euclid}
use Rattle.std.proofs.lemmas.Int.{ints, fits_signed_from_abs}
use Rattle.std.proofs.Math.Nat.{mul-le-mul_left}
use Rattle.limits.specs.Limits.{most_ticks}
use Rattle.tick_time.specs.declared.times.Time.{Time}
use Rattle.tick_time.specs.Rates.{frame}
use Rattle.tick_time.proofs.Units.{unit_positive}
use Rattle.otio_model.specs.declared.timelines.Timeline.{Timeline}
use Rattle.coord.specs.Keys.{frame_rate}
use Rattle.coord.specs.Programs.{start_frame, frame_ticks}

-- a frame number that fits 64 bits with ease
pub record IsNear (z : ℤ) : Type 0 where
  pub low : (pos 0 -ℤ pos 705600000000000001) ≤ℤ z
  pub high : z ≤ℤ pos 705600000000000001

near_in : (n d q r : ℕ) → 1000000 ≤ d → n ≤ most_ticks → d * q + r ≡ n → q ≤ 705600000000000000
near_in n d q r some small e = grind (arith, mul-le-mul_left)

near_quotient : (z : ℤ) (d : ℕ) → 1000000 ≤ d → (pos 0 -ℤ pos most_ticks) ≤ℤ z → z ≤ℤ pos most_ticks → IsNear (int_div_euclid z (pos d))
near_quotient (pos n) d some low high =
    let small = near_in n d (n / d) (n % d) some (omega (arith, ints)) (omega arith) in
    record { low = omega (arith, ints); high = omega (arith, ints) }
near_quotient (negsuc n) d some low high =
    let small = near_in n d (n / d) (n % d) some (omega (arith, ints)) (omega arith) in
    record { low = omega (arith, ints); high = omega (arith, ints) }

start_in : (o : Option Time) → IsNear (elim o [ None ↦ pos 0 | Some start ↦ int_div_euclid start.ticks (pos (frame_ticks (frame_rate start.rate))) ])
start_in None = record { low = omega (arith, ints); high = omega (arith, ints) }
start_in (Some start) =
    let rate = start.rate in
    let some = unit_positive rate.num rate.den rate.positive (omega (arith, ints)) rate.small_num in
    near_quotient start.ticks (frame rate.num rate.den) (omega arith) start.low start.high

pub start_near : (t : Timeline) → IsNear (start_frame t)
start_near t = start_in t.global_start_time

pub near_fits : (z : ℤ) → IsNear z → FitsSigned w64 z
near_fits z near = fits_signed_from_abs w64 z (omega (arith, ints, near.low, near.high))
