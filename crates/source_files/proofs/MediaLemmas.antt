-- The fault of the front of a media list is that of the media list.
use Rattle.std.proofs.Common.{◌≡◌, ◌≢◌, ◌⊎◌, ◌<◌, ℕ, List, ◌++◌, length, inl, inr, arith, length-append}
use Rattle.limits.specs.Limits.{most_bytes}
use Rattle.media_list.specs.Lists.{IsFault}
use Rattle.media_list.specs.declared.faults.MediaFault.{MediaFault}
use Rattle.media_list.specs.declared.faults.MediaFault.TheVariants.{Large, Memory}
use Rattle.source_files.specs.Faults.{media_fault_text}
use Rattle.source_files.specs.Formats.{RefusesMedia}
use Rattle.source_files.specs.Reading.{IsRefused}
use Rattle.source_files.specs.declared.read_faults.Refusal.{Refusal}
use Rattle.source_files.specs.declared.read_faults.Refusal.TheVariants.{Broken, Memory as NoMemory}

-- how a fault is told
abbrev pub IsTold : MediaFault → Refusal → Type 0
IsTold fault refusal =
    IsRefused (λ why. (fault ≢ Memory) × (why ≡ media_fault_text fault)) refusal

-- how a fault of all bytes is refused
pub fault_refused : (fault : MediaFault) (bytes : List ℕ) (refusal : Refusal)
    → (fault ≡ Memory) ⊎ IsFault bytes fault → IsTold fault refusal
    → IsRefused (RefusesMedia bytes) refusal
fault_refused fault bytes (Broken reason) (inl e) told = absurd (told.0 e)
fault_refused fault bytes (Broken reason) (inr h) told = (fault, h, told.1)
fault_refused fault bytes NoMemory h told = tt

-- what is fed is too long
abbrev pub IsTooLong : MediaFault → List ℕ → Type 0
IsTooLong fault bytes = (fault ≡ Memory) ⊎ ((fault ≡ Large) × (most_bytes < length bytes))

long_more : (fault : MediaFault) (front rest : List ℕ) → IsTooLong fault front
    → (fault ≡ Memory) ⊎ IsFault (front ++ rest) fault
long_more fault front rest (inl e) = inl e
long_more fault front rest (inr h) =
    inr (inl (h.0, omega (arith, h.1, length-append front rest)))

-- how a fault of what was taken is refused
pub front_refused : (fault : MediaFault) (front rest : List ℕ) (refusal : Refusal)
    → IsTooLong fault front → IsTold fault refusal
    → IsRefused (RefusesMedia (front ++ rest)) refusal
front_refused fault front rest refusal h told =
    fault_refused fault (front ++ rest) refusal (long_more fault front rest h) told
