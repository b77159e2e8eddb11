-- The fault of the front of a script is that of the script.
use Rattle.std.proofs.Common.{◌≡◌, ◌≢◌, ◌⊎◌, ◌<◌, ℕ, List, ◌++◌, length, inl, inr, arith, length-append}
use Rattle.limits.specs.Limits.{most_bytes}
use Rattle.edit_script.specs.Scripts.{IsFault}
use Rattle.edit_script.specs.declared.commands.ScriptFault.{ScriptFault}
use Rattle.edit_script.specs.declared.commands.ScriptFault.TheVariants.{Large, Memory}
use Rattle.source_files.specs.Faults.{script_fault_text}
use Rattle.source_files.specs.Formats.{RefusesScript}
use Rattle.source_files.specs.Reading.{IsRefused}
use Rattle.source_files.specs.declared.read_faults.Refusal.{Refusal}
use Rattle.source_files.specs.declared.read_faults.Refusal.TheVariants.{Broken, Memory as NoMemory}

-- how a fault is told
abbrev pub IsTold : ScriptFault → Refusal → Type 0
IsTold fault refusal =
    IsRefused (λ why. (fault ≢ Memory) × (why ≡ script_fault_text fault)) refusal

-- how a fault of all bytes is refused
pub fault_refused : (fault : ScriptFault) (bytes : List ℕ) (refusal : Refusal)
    → (fault ≡ Memory) ⊎ IsFault bytes fault → IsTold fault refusal
    → IsRefused (RefusesScript bytes) refusal
fault_refused fault bytes (Broken reason) (inl e) told = absurd (told.0 e)
fault_refused fault bytes (Broken reason) (inr h) told = (fault, h, told.1)
fault_refused fault bytes NoMemory h told = tt

-- how it is refused that what was taken is too long
pub long_script-is_refused : (front rest : List ℕ) (refusal : Refusal) → most_bytes < length front
    → IsTold Large refusal → IsRefused (RefusesScript (front ++ rest)) refusal
long_script-is_refused front rest refusal long told =
    let h : most_bytes < length (front ++ rest) = omega (arith, long, length-append front rest) in
    fault_refused Large (front ++ rest) refusal (inr h) told
