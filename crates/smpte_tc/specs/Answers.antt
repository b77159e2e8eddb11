-- What reading a label and writing one answer, refusals in their order.
use Rattle.std.specs.Prelude.{◌≡◌, ◌==◌, ◌≤◌, ◌⊎◌, ◌||◌, ℕ, ℤ, pos, Bool, true, List, Option, Some, None, Result, Ok, Err, length, slice_index, slice_set, if◌then◌else◌}
use Rattle.smpte_tc.specs.declared.address.TimeAddress.{TimeAddress}
use Rattle.smpte_tc.specs.declared.modes.Mode.{Mode}
use Rattle.smpte_tc.specs.declared.faults.TcFault.{TcFault}
use Rattle.smpte_tc.specs.declared.faults.TcFault.TheVariants.{Form, Field, Dropped, Day, NoTimecode}
use Rattle.smpte_tc.specs.Day.{counted_of, is_left_out, IsLabel, IsLabelWith}
use Rattle.smpte_tc.specs.Spelling.{IsSpelling, IsInDay}

-- the ninth byte, which stands before the frames
abbrev pub ninth : List ℕ → ℕ
ninth bytes = slice_index bytes 8

-- the byte may stand before the frames: ':' or ';'
abbrev pub IsMark : ℕ → Type 0
IsMark byte = (byte ≡ 58) ⊎ (byte ≡ 59)

-- drop-frame is meant where it is asked for, and by ';' as the ninth byte
abbrev pub means_drop : List ℕ → Bool → Bool
means_drop bytes drop = drop || (ninth bytes == 59)

-- the bytes have the form of a label, and say this time address
pub record Says (bytes : List ℕ) (a : TimeAddress) : Type 0 where
  pub mark : IsMark (ninth bytes)
  pub spelling : IsSpelling (ninth bytes) a bytes

-- the bytes do not have the form of a label
abbrev pub IsUnsaid : List ℕ → Type 0
IsUnsaid bytes = (a : TimeAddress) → Says bytes a → ⊥

-- the bytes, with either mark, are the label of the frame number n: as many labels of the day come
-- before it
abbrev pub HasLabel : Mode → ℤ → List ℕ → Type 0
HasLabel mode n bytes =
    (k : ℕ) × (n ≡ pos k) × IsMark (ninth bytes) × IsLabelWith (ninth bytes) mode k bytes

-- what reading a label answers where the rate is counted so: the number, or the first refusal that
-- holds
abbrev pub Reads : Mode → List ℕ → Result ℤ TcFault → Type 0
Reads mode bytes (Ok n) = HasLabel mode n bytes
Reads mode bytes (Err Form) = IsUnsaid bytes
Reads mode bytes (Err Field) = (a : TimeAddress) × Says bytes a × (IsInDay mode.nominal a → ⊥)
Reads mode bytes (Err Dropped) =
    (a : TimeAddress) × Says bytes a × IsInDay mode.nominal a × (is_left_out mode a ≡ true)
Reads mode bytes (Err Day) = ⊥
Reads mode bytes (Err NoTimecode) = ⊥

-- what reading a label answers: before all, the rate has no such timecode
abbrev pub ReadsAt : Option Mode → List ℕ → Result ℤ TcFault → Type 0
ReadsAt None bytes result = result ≡ Err NoTimecode
ReadsAt (Some mode) bytes result = Reads mode bytes result

-- what writing a label answers where the rate is counted so: the label, or that the number is not
-- of the day
abbrev pub Writes : Mode → ℤ → Result (List ℕ) TcFault → Type 0
Writes mode n (Ok bytes) = (k : ℕ) × (n ≡ pos k) × IsLabel mode k bytes
Writes mode n (Err Day) = (k : ℕ) → n ≡ pos k → length (counted_of mode) ≤ k
Writes mode n (Err Form) = ⊥
Writes mode n (Err Field) = ⊥
Writes mode n (Err Dropped) = ⊥
Writes mode n (Err NoTimecode) = ⊥

-- what writing a label answers: before all, the rate has no such timecode
abbrev pub WritesAt : Option Mode → ℤ → Result (List ℕ) TcFault → Type 0
WritesAt None n result = result ≡ Err NoTimecode
WritesAt (Some mode) n result = Writes mode n result

-- the bytes with the mark that is written before the frames
abbrev pub with_mark : Bool → List ℕ → List ℕ
with_mark drop bytes = slice_set bytes 8 (if drop then 59 else 58)

-- reading a label that was written: the number, which has a label, or why it has none
abbrev pub ReadsWritten : Option Mode → ℤ → Result ℤ TcFault → Type 0
ReadsWritten o n (Ok k) = (k ≡ n) × ((bytes : List ℕ) × WritesAt o n (Ok bytes))
ReadsWritten o n (Err fault) = WritesAt o n (Err fault)

-- writing a number that was read: the label with the mark that is written, which has a number, or
-- why it has none
abbrev pub WritesRead : Option Mode → Bool → List ℕ → Result (List ℕ) TcFault → Type 0
WritesRead o drop bytes (Ok written) =
    (written ≡ with_mark drop bytes) × ((n : ℤ) × ReadsAt o bytes (Ok n))
WritesRead o drop bytes (Err fault) = ReadsAt o bytes (Err fault)
