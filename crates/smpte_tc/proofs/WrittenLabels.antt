-- What is known of a label that was written, and of a reading: the lemmas for crates above, at a rate with drop-frame or without.
use Rattle.std.proofs.Common.{◌≡◌, ℕ, ℤ, Bool, true, false, ◌↔◌, Option, Some, None, Result, Ok, List, length, All, IsTrue, if◌then◌else◌, refl, subst, arith}
use Rattle.tick_time.specs.declared.rates.Rate.{Rate}
use Rattle.smpte_tc.specs.declared.modes.Mode.{Mode}
use Rattle.smpte_tc.specs.declared.faults.TcFault.{TcFault}
use Rattle.smpte_tc.specs.Day.{mark_of}
use Rattle.smpte_tc.specs.Modes.{mode_of, IsMode}
use Rattle.smpte_tc.specs.Laws.{IsPlain, IsReadAs}
use Rattle.smpte_tc.specs.Answers.{ninth, means_drop, ReadsAt, WritesAt}
use Rattle.smpte_tc.proofs.Labels.{label_eleven, bytes_plain}
use Rattle.smpte_tc.proofs.OneReading.{written_reads, one_reading, one_writing}
use Rattle.smpte_tc.proofs.RoundTrip.{mode_is, ninth_by, means_same}

-- the mode of a rate is one that a rate can have
pub mode_fair : (rate : Rate) (drop : Bool) (m : Mode) → mode_of rate drop ≡ Some m → IsMode m
mode_fair rate drop m e = (mode_is rate drop m e).fair

-- a label that was written has eleven bytes
pub written_eleven : (o : Option Mode) (n : ℤ) (bytes : List ℕ) → WritesAt o n (Ok bytes) → length bytes ≡ 11
written_eleven None n bytes wrote = cc
written_eleven (Some m) n bytes wrote = label_eleven (mark_of m) m wrote.0 bytes wrote.2

plain_by : (o : Option Mode) (n : ℤ) (bytes : List ℕ) → ((m : Mode) → o ≡ Some m → IsMode m) → WritesAt o n (Ok bytes) → All IsPlain bytes
plain_by None n bytes fair wrote = cc
plain_by (Some m) n bytes fair wrote = bytes_plain m (fair m refl) wrote.0 bytes wrote.2

-- each byte of it is a digit, ':' or ';'
pub written_plain : (rate : Rate) (drop : Bool) (n : ℤ) (bytes : List ℕ) → WritesAt (mode_of rate drop) n (Ok bytes) → All IsPlain bytes
written_plain rate drop n bytes wrote = plain_by (mode_of rate drop) n bytes (mode_fair rate drop) wrote

-- its ninth byte is ';' for drop-frame, and ':' else
pub written_ninth : (rate : Rate) (drop : Bool) (n : ℤ) (bytes : List ℕ) → WritesAt (mode_of rate drop) n (Ok bytes) → ninth bytes ≡ (if drop then 59 else 58)
written_ninth rate drop n bytes wrote = ninth_by (mode_of rate drop) n bytes drop (mode_is rate drop) wrote

semicolon_by : (drop : Bool) (byte : ℕ) → byte ≡ (if drop then 59 else 58) → (byte ≡ 59) ↔ IsTrue drop
semicolon_by true byte e = (λ _. refl, λ _. e)
semicolon_by false byte e = (λ h. absurd (omega arith), λ h. cc)

pub written_semicolon : (rate : Rate) (drop : Bool) (n : ℤ) (bytes : List ℕ) → WritesAt (mode_of rate drop) n (Ok bytes) → (ninth bytes ≡ 59) ↔ IsTrue drop
written_semicolon rate drop n bytes wrote = semicolon_by drop (ninth bytes) (written_ninth rate drop n bytes wrote)

-- it means drop-frame where drop-frame was asked for
pub written_meant : (rate : Rate) (drop : Bool) (n : ℤ) (bytes : List ℕ) → WritesAt (mode_of rate drop) n (Ok bytes) → means_drop bytes drop ≡ drop
written_meant rate drop n bytes wrote = means_same drop bytes (written_ninth rate drop n bytes wrote)

-- bytes have one reading
pub one_reading_at : (rate : Rate) (drop : Bool) (bytes : List ℕ) (a b : Result ℤ TcFault) → ReadsAt (mode_of rate drop) bytes a → ReadsAt (mode_of rate drop) bytes b → a ≡ b
one_reading_at rate drop bytes a b p q = one_reading (mode_of rate drop) bytes a b (mode_fair rate drop) p q

-- a number has one answer
pub one_writing_at : (rate : Rate) (drop : Bool) (n : ℤ) (a b : Result (List ℕ) TcFault) → WritesAt (mode_of rate drop) n a → WritesAt (mode_of rate drop) n b → a ≡ b
one_writing_at rate drop n a b p q = one_writing (mode_of rate drop) n a b p q

-- what is read from a label that was written is its number and nothing else
pub only_number : (rate : Rate) (drop : Bool) (n : ℤ) (bytes : List ℕ) (r : Result ℤ TcFault) → WritesAt (mode_of rate drop) n (Ok bytes) → ReadsAt (mode_of rate drop) bytes r → r ≡ Ok n
only_number rate drop n bytes r wrote reads = one_reading_at rate drop bytes r (Ok n) reads (written_reads (mode_of rate drop) n bytes wrote)

-- the same in the words of `read`
pub read_number : (rate : Rate) (drop : Bool) (n : ℤ) (bytes : List ℕ) (r : Result ℤ TcFault) → WritesAt (mode_of rate drop) n (Ok bytes) → ReadsAt (mode_of rate (means_drop bytes drop)) bytes r → r ≡ Ok n
read_number rate drop n bytes r wrote reads = only_number rate drop n bytes r wrote (subst (λ d. ReadsAt (mode_of rate d) bytes r) (written_meant rate drop n bytes wrote) reads)

-- all of it together
pub read_as : (rate : Rate) (drop : Bool) (n : ℤ) (bytes : List ℕ) → WritesAt (mode_of rate drop) n (Ok bytes) → IsReadAs rate drop n bytes
read_as rate drop n bytes wrote = record {
  number = written_reads (mode_of rate drop) n bytes wrote;
  only = λ answer reads. only_number rate drop n bytes answer wrote reads;
  meant = written_meant rate drop n bytes wrote;
  mark = written_ninth rate drop n bytes wrote;
}
