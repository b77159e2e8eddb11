-- The laws of labels and frame numbers.
use Rattle.std.specs.Prelude.{◌≡◌, ℕ, ℤ, ◌<◌, ◌≤◌, Bool, List, Result, Ok, length, All, if◌then◌else◌}
use Rattle.tick_time.specs.declared.rates.Rate.{Rate}
use Rattle.smpte_tc.specs.declared.modes.Mode.{Mode}
use Rattle.smpte_tc.specs.Day.{counted_of, IsLabel}
use Rattle.smpte_tc.specs.declared.faults.TcFault.{TcFault}
use Rattle.smpte_tc.specs.Modes.{mode, mode_of, IsMode}
use Rattle.smpte_tc.specs.Answers.{ninth, means_drop, ReadsAt, WritesAt}

-- each number below the count of a day has a label
abbrev pub HasEachALabel : Type 0
HasEachALabel =
    (m : Mode) → IsMode m → (n : ℕ) → n < length (counted_of m) → (bytes : List ℕ)
    × IsLabel m n bytes

-- a frame number has one label
abbrev pub HasOneLabel : Type 0
HasOneLabel = (m : Mode) → IsMode m → (n : ℕ) (a b : List ℕ) → IsLabel m n a → IsLabel m n b → a ≡ b

-- a label has one frame number
abbrev pub HasOneNumber : Type 0
HasOneNumber =
    (m : Mode) → IsMode m → (k n : ℕ) (bytes : List ℕ) → IsLabel m k bytes → IsLabel m n bytes
    → k ≡ n

-- a label has eleven bytes
abbrev pub HasElevenBytes : Type 0
HasElevenBytes =
    (m : Mode) → IsMode m → (n : ℕ) (bytes : List ℕ) → IsLabel m n bytes → length bytes ≡ 11

-- the byte is a digit, ':' or ';'
abbrev pub IsPlain : ℕ → Type 0
IsPlain byte = (48 ≤ byte) × (byte ≤ 59)

-- each byte of a label is a digit, ':' or ';'
abbrev pub HasPlainBytes : Type 0
HasPlainBytes =
    (m : Mode) → IsMode m → (n : ℕ) (bytes : List ℕ) → IsLabel m n bytes → All IsPlain bytes

-- at a rate, bytes have one reading
abbrev pub HasOneReading : Type 0
HasOneReading =
    (rate : Rate) (drop : Bool) (bytes : List ℕ) (a b : Result ℤ TcFault)
    → ReadsAt (mode_of rate drop) bytes a → ReadsAt (mode_of rate drop) bytes b → a ≡ b

-- at a rate, one answer is written for a number
abbrev pub HasOneWriting : Type 0
HasOneWriting =
    (rate : Rate) (drop : Bool) (n : ℤ) (a b : Result (List ℕ) TcFault)
    → WritesAt (mode_of rate drop) n a → WritesAt (mode_of rate drop) n b → a ≡ b

-- bytes written for a number are read as that number and as nothing else, drop-frame is meant where
-- it was asked for, and its mark stands before the frames
pub record IsReadAs (rate : Rate) (drop : Bool) (n : ℤ) (bytes : List ℕ) : Type 0 where
  pub number : ReadsAt (mode_of rate drop) bytes (Ok n)
  pub only : (answer : Result ℤ TcFault) → ReadsAt (mode_of rate drop) bytes answer → answer ≡ Ok n
  pub meant : means_drop bytes drop ≡ drop
  pub mark : ninth bytes ≡ (if drop then 59 else 58)

-- what was written at a rate is read again
abbrev pub IsReadAgain : Type 0
IsReadAgain =
    (rate : Rate) (drop : Bool) (n : ℤ) (bytes : List ℕ)
    → WritesAt (mode_of rate drop) n (Ok bytes) → IsReadAs rate drop n bytes

-- a day at 24 frames a second has 2073600 labels, with drop-frame at 30000/1001 2589408, and at
-- 60000/1001 5178816
pub record HasKnownCounts : Type 0 where
  pub film : length (counted_of (mode 24 0)) ≡ 2073600
  pub drop_30 : length (counted_of (mode 30 2)) ≡ 2589408
  pub drop_60 : length (counted_of (mode 60 4)) ≡ 5178816
