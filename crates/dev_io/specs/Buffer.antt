-- Bytes on their way to a stream through a buffer of fixed size.
use Rattle.std.specs.Prelude.{◌≡◌, ◌≤◌, ℕ, Bool, List, ◌++◌, Result, MatchBool, MatchResult, take}
use Rattle.std.specs.declared.option.Option.{Option}
use Rattle.dev_io.specs.Known.{KnownOut}
use Rattle.dev_io.specs.Calls.{Tells, Adds, AddsPrefix}
use Rattle.dev_io.specs.Causes.{Rose}
use Rattle.dev_io.specs.declared.buffer.OutBuffer.{OutBuffer}

-- the state of a stream and of the buffer in front of it
pub record Standing : Type 0 where
  -- what is known of the stream
  pub known : Option KnownOut
  -- its count of faults
  pub faults : ℕ
  -- what the buffer holds, which was handed over and not sent yet
  pub held : List ℕ
  -- whether a write through the buffer has failed
  pub failed : Bool

abbrev pub standing : {W : Type 0} → (W → Option KnownOut) → (W → ℕ) → W → OutBuffer → Standing
standing known faults out buffer = record {
  known = known out;
  faults = faults out;
  held = take buffer.count buffer.bytes;
  failed = buffer.failed;
}

-- the stream was sent the front of what was held and handed over, and the rest of it is held
abbrev pub SendsFront : List ℕ → List ℕ → KnownOut → KnownOut → Type 0
SendsFront all held old new = (front : List ℕ) × (all ≡ front ++ held) × Adds front old new

-- The bytes were handed over. Where a write failed now, the stream was sent a prefix of all that
-- was handed over, and its count of faults rose. Where one had failed before, nothing happens.
pub record Puts (old new : Standing) (bytes : List ℕ) : Type 0 where
  pub later : old.faults ≤ new.faults
  pub goes : MatchBool old.failed (new ≡ old) (
      MatchBool new.failed
      (Rose old.faults new.faults × Tells (AddsPrefix (old.held ++ bytes)) old.known new.known)
      (Tells (SendsFront (old.held ++ bytes) new.held) old.known new.known))

-- the bytes were handed over to a stream through its buffer
abbrev pub HandsOver : {W : Type 0} → (W → Option KnownOut) → (W → ℕ) → (old new : W) →
    (before after : OutBuffer) → List ℕ → Type 0
HandsOver known faults old new before after bytes =
    Puts (standing known faults old before) (standing known faults new after) bytes

-- All that was handed over was sent, or a prefix of it.
pub record Flushes {T E : Type 0} (old new : Standing) (result : Result T E) : Type 0 where
  pub later : old.faults ≤ new.faults
  pub goes : MatchBool old.failed
      (MatchResult result (λ _. ⊥) (λ _. (new.known ≡ old.known) × (new.faults ≡ old.faults)))
      (MatchResult result
      (λ _. Tells (Adds old.held) old.known new.known)
      (λ _. Rose old.faults new.faults × Tells (AddsPrefix old.held) old.known new.known))

-- what a buffer holds
abbrev pub held_of : OutBuffer → List ℕ
held_of buffer = take buffer.count buffer.bytes

-- whether a write through it has failed
abbrev pub has_failed : OutBuffer → Bool
has_failed buffer = buffer.failed
