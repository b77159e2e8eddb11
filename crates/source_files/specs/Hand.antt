-- What the bytes of a file are judged to be.
use Rattle.std.specs.Prelude.{ℕ, List, Result, Ok, Err}
use Rattle.source_files.specs.Reading.{IsRefused}
use Rattle.source_files.specs.declared.read_faults.ReadFault.{ReadFault}
use Rattle.source_files.specs.declared.read_faults.ReadFault.TheVariants.{Absent, Failed, Refused}

-- what bytes are judged to be, or why they are none; out of memory is free
abbrev pub Judges : {T : Type 0} → (List ℕ → T → Type 0) → (List ℕ → List ℕ → Type 0) → List ℕ
    → Result T ReadFault → Type 0
Judges Is Not bytes (Ok value) = Is bytes value
Judges Is Not bytes (Err Absent) = ⊥
Judges Is Not bytes (Err Failed) = ⊥
Judges Is Not bytes (Err (Refused refusal)) = IsRefused (Not bytes) refusal
