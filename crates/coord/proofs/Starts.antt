-- Where trimmed ranges start.
use Rattle.std.proofs.Common.{◌≡◌, refl, ℕ, Option, Some, None}
use Rattle.std.specs.Prelude.{option_map}
use Rattle.std.specs.Option.{option_or}
use Rattle.tick_time.specs.declared.spans.Span.{Span}
use Rattle.otio_model.specs.Lengths.{range_of, range_start, from_zero}

-- what begins with 0 begins as what there isn't
pub from_zero_starts : (s : Option Span) (n : ℕ)
    → range_start (option_or (option_map range_of s) None)
    ≡ range_start (option_or (option_map range_of s) (Some (from_zero n)))
from_zero_starts None n = refl
from_zero_starts (Some s) n = refl
