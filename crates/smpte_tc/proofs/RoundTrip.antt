-- Reading what was written, and writing what was read.
use Rattle.std.proofs.Common.{◌≡◌, ◌==◌, ℕ, ℤ, pos, ◌≤◌, ◌<◌, ◌≤ℤ◌, Bool, true, false, cond, Option, Some, None, Result, Ok, Err, List, length, slice_get, slice_set, nat_le, unsigned_abs, if◌then◌else◌, refl, sym, ap, subst, ◌∙◌, arith}
use Rattle.std.proofs.lemmas.Int.{ints}
use Rattle.std.proofs.lemmas.Option.{slice_get_within}
use Rattle.std.proofs.lemmas.Bool.{leb-true}
use Rattle.tick_time.specs.declared.rates.Rate.{Rate}
use Rattle.tick_time.specs.Rates.{nominal, relative_count}
use Rattle.smpte_tc.specs.declared.modes.Mode.{Mode}
use Rattle.smpte_tc.specs.declared.faults.TcFault.{TcFault}
use Rattle.smpte_tc.specs.declared.faults.TcFault.TheVariants.{Form, Field, Dropped, Day, NoTimecode}
use Rattle.smpte_tc.specs.Day.{counted_of, spelled, mark_of}
use Rattle.smpte_tc.specs.Modes.{mode, mode_of, plain_mode, IsMode}
use Rattle.smpte_tc.specs.Answers.{ninth, means_drop, ReadsAt, WritesAt, ReadsWritten, WritesRead}
use Rattle.smpte_tc.proofs.Lists.{option_from_map}
use Rattle.smpte_tc.proofs.Dropping.{day_count}
use Rattle.smpte_tc.proofs.Labels.{counted_by_label, one_address}
use Rattle.smpte_tc.proofs.OneReading.{label_ninth, written_reads, one_reading}

-- a count from 1 to 60
record IsCount (n : ℤ) : Type 0 where
  some : 1 ≤ unsigned_abs n
  small : unsigned_abs n ≤ 60

relative_within : (a b c d e : Bool) (n : ℤ) → cond a (Some (pos 15)) (cond b (Some (pos 24)) (cond c (Some (pos 30)) (cond d (Some (pos 48)) (cond e (Some (pos 60)) None)))) ≡ Some n → IsCount n
relative_within true b c d e n h = let same : pos 15 ≡ n = cc in subst IsCount same (record { some = omega arith; small = omega arith })
relative_within false true c d e n h = let same : pos 24 ≡ n = cc in subst IsCount same (record { some = omega arith; small = omega arith })
relative_within false false true d e n h = let same : pos 30 ≡ n = cc in subst IsCount same (record { some = omega arith; small = omega arith })
relative_within false false false true e n h = let same : pos 48 ≡ n = cc in subst IsCount same (record { some = omega arith; small = omega arith })
relative_within false false false false true n h = let same : pos 60 ≡ n = cc in subst IsCount same (record { some = omega arith; small = omega arith })
relative_within false false false false false n h = cc

whole_within : (one low : Bool) (num n : ℤ) → pos 1 ≤ℤ num → (low ≡ true → unsigned_abs num ≤ 60) → cond one (cond low (Some num) None) None ≡ Some n → IsCount n
whole_within true true num n positive small h =
    let same : num ≡ n = cc in
    let below : unsigned_abs num ≤ 60 = small refl in
    subst IsCount same (record { some = omega (arith, ints); small = below })
whole_within true false num n positive small h = cc
whole_within false low num n positive small h = cc

either_within : (thousand : Bool) (relative whole : Option ℤ) (n : ℤ) → (relative ≡ Some n → IsCount n) → (whole ≡ Some n → IsCount n) → cond thousand relative whole ≡ Some n → IsCount n
either_within true relative whole n r w h = r h
either_within false relative whole n r w h = w h

-- the nominal count of a rate lies from 1 to 60
count_within : (num den n : ℤ) → pos 1 ≤ℤ num → nominal num den ≡ Some n → IsCount n
count_within num den n positive h =
    either_within (unsigned_abs den == 1001) (relative_count (unsigned_abs num)) (cond (unsigned_abs den == 1) (cond (nat_le (unsigned_abs num) 60) (Some num) None) None) n
    (λ r. relative_within (unsigned_abs num == 15000) (unsigned_abs num == 24000) (unsigned_abs num == 30000) (unsigned_abs num == 48000) (unsigned_abs num == 60000) n r)
    (λ w. whole_within (unsigned_abs den == 1) (nat_le (unsigned_abs num) 60) num n positive (leb-true (unsigned_abs num) 60) w)
    h

-- a mode with its mark
pub record IsMarked (byte : ℕ) (m : Mode) : Type 0 where
  pub fair : IsMode m
  pub mark : mark_of m ≡ byte

drop_is : (p q r : Bool) (m : Mode) → cond p (cond q (Some (mode 30 2)) (cond r (Some (mode 60 4)) None)) None ≡ Some m → IsMarked 59 m
drop_is true true r m h = let same : mode 30 2 ≡ m = cc in subst (IsMarked 59) same (record { fair = record { some = omega arith; small = omega arith; fewer = omega arith }; mark = refl })
drop_is true false true m h = let same : mode 60 4 ≡ m = cc in subst (IsMarked 59) same (record { fair = record { some = omega arith; small = omega arith; fewer = omega arith }; mark = refl })
drop_is true false false m h = cc
drop_is false q r m h = cc

plain_is : (num den : ℤ) (m : Mode) → pos 1 ≤ℤ num → plain_mode num den ≡ Some m → IsMarked 58 m
plain_is num den m positive h =
    let found = option_from_map (λ count. mode (unsigned_abs count) 0) (nominal num den) m h in
    let count = count_within num den found.0 positive found.1 in
    subst (IsMarked 58) (sym found.2) (record { fair = record { some = count.some; small = count.small; fewer = omega arith }; mark = refl })

abbrev pub written_mark : Bool → ℕ
written_mark drop = if drop then 59 else 58

pub mode_is : (rate : Rate) (drop : Bool) (m : Mode) → mode_of rate drop ≡ Some m → IsMarked (written_mark drop) m
mode_is rate true m h = drop_is (unsigned_abs rate.den == 1001) (unsigned_abs rate.num == 30000) (unsigned_abs rate.num == 60000) m h
mode_is rate false m h = plain_is rate.num rate.den m (omega (arith, ints, rate.positive, rate.at_least_one)) h

-- the mark that is written means what was asked for
pub means_same : (drop : Bool) (bytes : List ℕ) → ninth bytes ≡ written_mark drop → means_drop bytes drop ≡ drop
means_same true bytes e = refl
means_same false bytes e = ap (λ b. b == 59) e

-- by the mode of the rate
read_by : (o : Option Mode) (n : ℤ) (bytes : List ℕ) (drop : Bool) → ((m : Mode) → o ≡ Some m → IsMarked (written_mark drop) m) → WritesAt o n (Ok bytes) → (r : Result ℤ TcFault) → ReadsAt o bytes r
    → ReadsWritten o n r
read_by o n bytes drop fair wrote r reads =
    let same = one_reading o bytes (Ok n) r (λ m e. (fair m e).fair) (written_reads o n bytes wrote) reads in
    subst (ReadsWritten o n) same (refl, (bytes, wrote))

pub ninth_by : (o : Option Mode) (n : ℤ) (bytes : List ℕ) (drop : Bool) → ((m : Mode) → o ≡ Some m → IsMarked (written_mark drop) m) → WritesAt o n (Ok bytes) → ninth bytes ≡ written_mark drop
ninth_by None n bytes drop fair wrote = cc
ninth_by (Some m) n bytes drop fair wrote = label_ninth (mark_of m) m wrote.0 bytes wrote.2 ∙ (fair m refl).mark

meant_by : (o : Option Mode) (n : ℤ) (bytes : List ℕ) (drop : Bool) → ((m : Mode) → o ≡ Some m → IsMarked (written_mark drop) m) → WritesAt o n (Ok bytes) → means_drop bytes drop ≡ drop
meant_by o n bytes drop fair wrote = means_same drop bytes (ninth_by o n bytes drop fair wrote)

-- what is read from the label of a number is that number
pub read_back : (rate : Rate) (drop : Bool) (n : ℤ) (bytes : List ℕ) (r : Result ℤ TcFault) → WritesAt (mode_of rate drop) n (Ok bytes) → ReadsAt (mode_of rate (means_drop bytes drop)) bytes r
    → ReadsWritten (mode_of rate drop) n r
read_back rate drop n bytes r wrote reads =
    let meant : means_drop bytes drop ≡ drop = meant_by (mode_of rate drop) n bytes drop (mode_is rate drop) wrote in
    read_by (mode_of rate drop) n bytes drop (mode_is rate drop) wrote r (subst (λ d. ReadsAt (mode_of rate d) bytes r) meant reads)

write_by : (o : Option Mode) (n : ℤ) (bytes : List ℕ) (drop : Bool) → ((m : Mode) → o ≡ Some m → IsMarked (written_mark drop) m) → ReadsAt o bytes (Ok n) → (w : Result (List ℕ) TcFault) → WritesAt o n w
    → WritesRead o drop bytes w
write_by None n bytes drop fair reads w wrote = cc
write_by (Some m) n bytes drop fair reads (Ok written) wrote =
    let from = counted_by_label (ninth bytes) m reads.0 bytes reads.3 in
    let to = counted_by_label (mark_of m) m wrote.0 written wrote.2 in
    let number : wrote.0 ≡ reads.0 = omega (arith, ints, wrote.1, reads.1) in
    let same : to.0 ≡ from.0 = one_address m reads.0 to.0 from.0 (ap (slice_get (counted_of m)) (sym number) ∙ to.1.there) from.1.there in
    (to.1.text ∙ ap (spelled (mark_of m)) same ∙ ap (λ k. spelled k from.0) (fair m refl).mark ∙ sym (ap (λ b. slice_set b 8 (written_mark drop)) from.1.text), (n, reads))
write_by (Some m) n bytes drop fair reads (Err Day) wrote =
    let from = counted_by_label (ninth bytes) m reads.0 bytes reads.3 in
    let short : reads.0 < length (counted_of m) = slice_get_within (counted_of m) reads.0 from.0 from.1.there in
    let past : length (counted_of m) ≤ reads.0 = wrote reads.0 reads.1 in
    absurd (omega arith)
write_by (Some m) n bytes drop fair reads (Err Form) wrote = absurd wrote
write_by (Some m) n bytes drop fair reads (Err Field) wrote = absurd wrote
write_by (Some m) n bytes drop fair reads (Err Dropped) wrote = absurd wrote
write_by (Some m) n bytes drop fair reads (Err NoTimecode) wrote = absurd wrote

-- what is written for the number of a label is that label, with the mark that is written
pub write_back : (rate : Rate) (drop : Bool) (n : ℤ) (bytes : List ℕ) (w : Result (List ℕ) TcFault) → ReadsAt (mode_of rate drop) bytes (Ok n) → WritesAt (mode_of rate drop) n w
    → WritesRead (mode_of rate drop) drop bytes w
write_back rate drop n bytes w reads wrote = write_by (mode_of rate drop) n bytes drop (mode_is rate drop) reads w wrote

-- a number that was read, and that it is small
pub record IsSmall (n : ℤ) (k : ℕ) : Type 0 where
  pub is : n ≡ pos k
  pub small : k < 5184000

small_by : (o : Option Mode) (n : ℤ) (bytes : List ℕ) (drop : Bool) → ((m : Mode) → o ≡ Some m → IsMarked (written_mark drop) m) → ReadsAt o bytes (Ok n) → (k : ℕ) × IsSmall n k
small_by None n bytes drop fair reads = cc
small_by (Some m) n bytes drop fair reads =
    let from = counted_by_label (ninth bytes) m reads.0 bytes reads.3 in
    let short : reads.0 < length (counted_of m) = slice_get_within (counted_of m) reads.0 from.0 from.1.there in
    let mode = (fair m refl).fair in
    let count = day_count m mode.some mode.fewer in
    (reads.0, record { is = reads.1; small = omega (arith, short, count, mode.small) })

pub read_small : (rate : Rate) (drop : Bool) (n : ℤ) (bytes : List ℕ) → ReadsAt (mode_of rate drop) bytes (Ok n) → (k : ℕ) × IsSmall n k
read_small rate drop n bytes reads = small_by (mode_of rate drop) n bytes drop (mode_is rate drop) reads
