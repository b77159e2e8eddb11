-- The faults of a reader of JSON text.
use Rattle.std.specs.Prelude.{◌≡◌, ℕ, ◌+◌, ◌<◌, ◌≤◌, ◌⊎◌, List, length, take}
use Rattle.limits.specs.Limits.{most_bytes}
use Rattle.json_value.specs.declared.Json.{Json}
use Rattle.json_text.specs.Grammar.{IsLive, IsLiveWithin, text_of}
use Rattle.json_text.specs.Strings.{BeginsUtf8, IsInString}
use Rattle.json_text.specs.declared.faults.JsonFault.{JsonFault}
use Rattle.json_text.specs.declared.faults.JsonFault.TheVariants.{Syntax, Utf8, Depth, Large, Memory}

-- The byte at n is the first after which no continuation is a text.
pub record IsDeadAt (n : ℕ) (bytes : List ℕ) : Type 0 where
  pub within : n < length bytes
  pub live : IsLive (take n bytes)
  pub dead : IsLive (take (n + 1) bytes) → ⊥

-- The byte at n stands in a string and breaks UTF-8.
pub record BreaksUtf8 (n : ℕ) (bytes : List ℕ) : Type 0 where
  pub inside : IsInString (take n bytes)
  pub breaks : BeginsUtf8 (take (n + 1) bytes) → ⊥

-- The byte at n opens the 128th level: with 128 levels there is a continuation.
abbrev pub IsTooDeep : ℕ → List ℕ → Type 0
IsTooDeep n bytes = IsLiveWithin 128 (take (n + 1) bytes)

-- The byte at n is dead for a reason that is neither UTF-8 nor depth.
pub record BreaksGrammar (n : ℕ) (bytes : List ℕ) : Type 0 where
  pub dead : IsDeadAt n bytes
  pub utf8 : BreaksUtf8 n bytes → ⊥
  pub depth : IsTooDeep n bytes → ⊥

-- The fault is the one that the bytes have: the first dead byte and why it is dead, where that is
-- among the first `most_bytes`, and else that there are more.
abbrev pub Names : JsonFault → List ℕ → Type 0
Names (Syntax n) bytes = BreaksGrammar n bytes × (n < most_bytes)
Names (Utf8 n) bytes = IsDeadAt n bytes × BreaksUtf8 n bytes × (n < most_bytes)
Names (Depth n) bytes = IsDeadAt n bytes × IsTooDeep n bytes × (n < most_bytes)
Names Large bytes = (most_bytes < length bytes) × IsLive (take most_bytes bytes)
Names Memory bytes = Unit {0}

-- The fault of a whole file: its first dead byte and why it is dead; or that it ends too early; or
-- that it is too long.
abbrev pub IsFault : JsonFault → List ℕ → Type 0
IsFault (Syntax n) bytes = Names (Syntax n) bytes
    ⊎ ((n ≡ length bytes) × (length bytes ≤ most_bytes) × IsLive bytes
    × ((value : Json) → text_of bytes value → ⊥))
IsFault (Utf8 n) bytes = Names (Utf8 n) bytes
IsFault (Depth n) bytes = Names (Depth n) bytes
IsFault Large bytes = Names Large bytes
IsFault Memory bytes = ⊥
