-- When an output may stop before its end.
use Rattle.std.specs.Prelude.{ℕ, ◌≤◌, Result, MatchResult}
use Rattle.dev_io.specs.Causes.{Rose}
use Rattle.dev_io.specs.declared.output_faults.OutputFault.{OutputFault}
use Rattle.dev_io.specs.declared.output_faults.OutputFault.TheVariants.{Sink, Memory}

-- the stream failed only where its count of faults rose; memory runs out only under this condition
abbrev pub IsOutputCause : Type 0 → ℕ → ℕ → OutputFault → Type 0
IsOutputCause may before now Sink = Rose before now
IsOutputCause may before now Memory = may

-- the same of what a call answers; the count never falls
pub record HasOutputCause {T : Type 0} (may : Type 0) (before now : ℕ)
    (result : Result T OutputFault) : Type 0 where
  pub later : before ≤ now
  pub failed : MatchResult result (λ _. Unit {0}) (IsOutputCause may before now)
