-- Lengths of spans, and of trees of so many items, are at most so many ticks.
use Rattle.std.proofs.Common.{◌≡◌, ◌≤◌, arith}
use Rattle.std.specs.Prelude.{ℤ, pos, negsuc, ◌≤ℤ◌, unsigned_abs}
use Rattle.limits.specs.Limits.{most_ticks}
use Rattle.tick_time.specs.declared.spans.Span.{Span}
use Rattle.otio_model.specs.Sums.{capped}

abs_small : (n : ℤ) → pos 0 ≤ℤ n → n ≤ℤ pos most_ticks
    → unsigned_abs n ≤ most_ticks
abs_small (pos n) h k = grind (arith, k)
abs_small (negsuc n) h k = grind (arith, h)

-- no span is longer than a million seconds
pub span_small : (s : Span) → unsigned_abs s.len.ticks ≤ most_ticks
span_small s = abs_small s.len.ticks s.forward s.len.high

-- so its length is kept as it is
pub span_capped : (s : Span) → capped (unsigned_abs s.len.ticks) ≡ unsigned_abs s.len.ticks
span_capped s = omega (arith, span_small s)
