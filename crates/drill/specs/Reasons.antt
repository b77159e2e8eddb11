-- The reason that a fault has.
use Rattle.std.specs.Prelude.{Option, Some, None}
use Rattle.edl_frames.specs.declared.reasons.Why.{Why}
use Rattle.edl_frames.specs.declared.reasons.NotCarried.{NotCarried}
use Rattle.edl_frames.specs.declared.reasons.NotCarried.TheVariants.{At, Memory}

-- the reason without its place; out of memory has none
abbrev pub why_of : NotCarried → Option Why
why_of (At place why) = Some why
why_of Memory = None
