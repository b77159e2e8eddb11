-- Times and spans of so many frames of a rate.
use Rattle.std.specs.Prelude.{◌≡◌, ℤ, pos, ◌*ℤ◌}
use Rattle.tick_time.specs.Rates.{frame}
use Rattle.tick_time.specs.declared.rates.Rate.{Rate}
use Rattle.tick_time.specs.declared.spans.Span.{Span}
use Rattle.tick_time.specs.declared.times.Time.{Time}

-- so many frames of a rate, in ticks
abbrev pub in_ticks : Rate → ℤ → ℤ
in_ticks rate n = n *ℤ pos (frame rate.num rate.den)

-- the time is so many frames of the rate
pub record IsFrames (rate : Rate) (n : ℤ) (t : Time) : Type 0 where
  pub ticks : t.ticks ≡ in_ticks rate n
  pub kept : t.rate ≡ rate

-- the span starts at so many frames of one rate, and is so many frames of another one long
pub record IsFrameSpan (start_rate : Rate) (start : ℤ) (length_rate : Rate) (length : ℤ) (s : Span)
    : Type 0 where
  pub from : IsFrames start_rate start s.start
  pub long : IsFrames length_rate length s.len
