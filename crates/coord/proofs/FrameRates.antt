-- Rates are the same where their frame rates are.
use Rattle.std.proofs.Common.{◌≡◌, ap}
use Rattle.tick_time.specs.declared.rates.Rate.{Rate}
use Rattle.tick_time.proofs.SameValues.{same_rate}
use Rattle.coord.specs.Looks.{FrameRate}
use Rattle.coord.specs.Keys.{frame_rate}

pub by_frames : (a b : Rate) → frame_rate a ≡ frame_rate b → a ≡ b
by_frames a b e = same_rate a b (ap (λ (r : FrameRate). r.num) e) (ap (λ (r : FrameRate). r.den) e)
