-- The fault of the front of a log is that of the log.
use Rattle.std.proofs.Common.{◌≡◌, ◌≢◌, ◌⊎◌, ◌<◌, ℕ, List, ◌++◌, length, inl, inr, refl, arith, length-append}
use Rattle.limits.specs.Limits.{most_bytes}
use Rattle.ale_text.specs.Logs.{IsFault}
use Rattle.ale_text.specs.declared.faults.AleFault.{AleFault}
use Rattle.ale_text.specs.declared.faults.AleFault.TheVariants.{Large, Memory}
use Rattle.source_files.specs.Faults.{ale_fault_text}
use Rattle.source_files.specs.Formats.{RefusesLog}
use Rattle.source_files.specs.Reading.{IsRefused}
use Rattle.source_files.specs.declared.read_faults.Refusal.{Refusal}
use Rattle.source_files.specs.declared.read_faults.Refusal.TheVariants.{Broken, Memory as NoMemory}

-- how a fault is told
abbrev pub IsTold : AleFault → Refusal → Type 0
IsTold fault refusal =
    IsRefused (λ why. (fault ≢ Memory) × (why ≡ ale_fault_text fault)) refusal

-- how a fault of all bytes is refused
pub fault_refused : (fault : AleFault) (bytes : List ℕ) (refusal : Refusal)
    → (fault ≡ Memory) ⊎ IsFault bytes fault → IsTold fault refusal
    → IsRefused (RefusesLog bytes) refusal
fault_refused fault bytes (Broken reason) (inl e) told = absurd (told.0 e)
fault_refused fault bytes (Broken reason) (inr h) told = (fault, h, told.1)
fault_refused fault bytes NoMemory h told = tt

-- how it is refused that what was taken is too long
pub long_log-is_refused : (front rest : List ℕ) (refusal : Refusal) → most_bytes < length front
    → IsTold Large refusal → IsRefused (RefusesLog (front ++ rest)) refusal
long_log-is_refused front rest refusal long told =
    let h : most_bytes < length (front ++ rest) = omega (arith, long, length-append front rest) in
    fault_refused Large (front ++ rest) refusal (inr (inl (refl, h))) told
