-- Spans of whole frames.
use Rattle.std.proofs.Common.{ℤ, pos, ◌≤ℤ◌, sym, subst}
use Rattle.limits.proofs.IntegerSums.{multiple-from_zero}
use Rattle.tick_time.specs.Frames.{IsFrames}
use Rattle.tick_time.specs.declared.rates.Rate.{Rate}
use Rattle.tick_time.specs.declared.times.Time.{Time}

-- frames from none on are no negative time
pub frames-from_zero : (rate : Rate) (n : ℤ) (t : Time) → pos 0 ≤ℤ n → IsFrames rate n t → pos 0 ≤ℤ t.ticks
frames-from_zero rate n t low i = subst (λ z. pos 0 ≤ℤ z) (sym i.ticks) (multiple-from_zero n _ low)
