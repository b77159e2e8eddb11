-- The frame number that a label names is what reading the label answers.
use Rattle.std.proofs.Common.{◌≡◌, ℕ, ℤ, pos, ◌≤◌, w64, to_z, of_z, FitsSigned, Bool, true, false, cond, List, [], Option, Some, None, option_map, Result, Ok, Err, length, get_or, slice_get, bytes_eq, inl, inr, refl, sym, ap, ◌∙◌, arith}
use Rattle.std.specs.List.{position, position_or_len}
use Rattle.std.specs.Result.{result_ok}
use Rattle.std.proofs.lemmas.Bool.{false≢true}
use Rattle.std.proofs.lemmas.Int.{ints, to_z-of_z}
use Rattle.std.proofs.lemmas.Bool.Decides.{nat_tests}
use Rattle.std.proofs.lemmas.List.Quantifiers.{position-Some}
use Rattle.std.proofs.lemmas.List.Sums.{fails_before_first}
use Rattle.std.proofs.lemmas.Option.{slice_get-get_or, slice_get_within, get_or_from_slice_get}
use Rattle.std.proofs.lemmas.Slice.Eq.{bytes_eq-Decides}
use Rattle.tick_time.specs.declared.rates.Rate.{Rate}
use Rattle.smpte_tc.specs.declared.modes.Mode.{Mode}
use Rattle.smpte_tc.specs.declared.faults.TcFault.{TcFault}
use Rattle.smpte_tc.specs.Day.{labels_with}
use Rattle.smpte_tc.specs.Modes.{mode_of, IsMode}
use Rattle.smpte_tc.specs.Answers.{ninth, IsMark, means_drop, Reads, ReadsAt}
use Rattle.smpte_tc.specs.Frames.{is_mark, label_index, index_by, label_frame, label_frame_at}
use Rattle.smpte_tc.proofs.OneReading.{one_reading}
use Rattle.smpte_tc.proofs.RoundTrip.{IsSmall}
use Rattle.smpte_tc.proofs.WrittenLabels.{mode_fair}

-- where a text stands in a list, there is a first place of it
first_there : (text : List ℕ) (texts : List (List ℕ)) (k : ℕ) → slice_get texts k ≡ Some text
    → position (bytes_eq text) texts ≡ None → ⊥
first_there text texts k there none =
    let within = slice_get_within texts k text there in
    let at = get_or_from_slice_get texts k text [] there in
    let past : length texts ≤ position_or_len (bytes_eq text) texts =
    grind (arith, nat_tests, none) in
    let fails : bytes_eq text (get_or texts k []) ≡ false =
    fails_before_first (bytes_eq text) texts k [] (omega arith) in
    let same = (bytes_eq-Decides text text).1 refl in
    false≢true (sym fails ∙ ap (bytes_eq text) at ∙ same)

mark_test : (byte : ℕ) → IsMark byte → is_mark byte ≡ true
mark_test byte (inl e) = grind (arith, nat_tests)
mark_test byte (inr e) = grind (arith, nat_tests)

test_mark : (byte : ℕ) → is_mark byte ≡ true → IsMark byte
test_mark byte e = grind (arith, nat_tests)

-- by whether a mark stands before the frames
index_reads : (b : Bool) (m : Mode) (label : List ℕ) (k : ℕ) → is_mark (ninth label) ≡ b
    → cond b (position (bytes_eq label) (labels_with (ninth label) m)) None ≡ Some k
    → Reads m label (Ok (pos k))
index_reads false m label k mark e = cc
index_reads true m label k mark e =
    let labels = labels_with (ninth label) m in
    let at = position-Some (bytes_eq label) labels k [] e in
    let same = (bytes_eq-Decides label (get_or labels k [])).0 at.1 in
    let stands = slice_get-get_or labels k [] at.0 ∙ ap Some (sym same) in
    (k, refl, test_mark (ninth label) mark, record { stands = stands })

-- a label of the day is read as its place there
place_reads : (o : Option Mode) (label : List ℕ) (k : ℕ) → index_by o label ≡ Some k
    → ReadsAt o label (Ok (pos k))
unfolding label_index
place_reads None label k e = cc
place_reads (Some m) label k e = index_reads (is_mark (ninth label)) m label k refl e

-- what is read as a number is a label of the day
reads_place : (o : Option Mode) (label : List ℕ) (n : ℤ) → ReadsAt o label (Ok n)
    → index_by o label ≡ None → ⊥
unfolding label_index
reads_place None label n reads e = cc
reads_place (Some m) label n reads e =
    let labels = labels_with (ninth label) m in
    let mark = mark_test (ninth label) reads.2 in
    let none = sym (ap (λ b. cond b (position (bytes_eq label) labels) None) mark) ∙ e in
    first_there label labels reads.0 reads.3.stands none

-- the frame number by its definition is the number of the answer
by_answer : (o : Option Mode) (label : List ℕ) (r : Result ℤ TcFault) (i : Option ℕ)
    → ((m : Mode) → o ≡ Some m → IsMode m) → ReadsAt o label r → index_by o label ≡ i
    → option_map pos i ≡ result_ok r
by_answer o label (Ok n) None fair reads e = absurd (reads_place o label n reads e)
by_answer o label (Ok n) (Some k) fair reads e =
    let once = one_reading o label (Ok (pos k)) (Ok n) fair (place_reads o label k e) reads in
    let same : pos k ≡ n = cc in ap Some same
by_answer o label (Err fault) None fair reads e = refl
by_answer o label (Err fault) (Some k) fair reads e =
    let once = one_reading o label (Ok (pos k)) (Err fault) fair (place_reads o label k e) reads in
    cc

-- what reading a label answers, as the definition of its frame number has it
pub frame_of_reading : (rate : Rate) (drop : Bool) (label : List ℕ) (r : Result ℤ TcFault)
    → ReadsAt (mode_of rate (means_drop label drop)) label r
    → option_map pos (label_frame rate drop label) ≡ result_ok r
unfolding label_frame_at
frame_of_reading rate drop label r reads =
    let o = mode_of rate (means_drop label drop) in
    by_answer o label r (index_by o label) (mode_fair rate (means_drop label drop)) reads refl

number_back : (o : Option ℕ) (k : ℕ) → option_map pos o ≡ Some (pos k) → Some k ≡ o
number_back None k e = cc
number_back (Some n) k e = cc

none_back : (o : Option ℕ) → option_map pos o ≡ None → None ≡ o
none_back None e = refl
none_back (Some n) e = cc

-- the number that was read is the frame of the label
pub frame_read : (rate : Rate) (drop : Bool) (label : List ℕ) (n : ℤ) (k : ℕ)
    → ReadsAt (mode_of rate (means_drop label drop)) label (Ok n) → n ≡ pos k
    → Some k ≡ label_frame rate drop label
frame_read rate drop label n k reads e =
    number_back (label_frame rate drop label) k
    (frame_of_reading rate drop label (Ok n) reads ∙ ap Some e)

-- a label that was refused has no frame
pub frame_refused : (rate : Rate) (drop : Bool) (label : List ℕ) (fault : TcFault)
    → ReadsAt (mode_of rate (means_drop label drop)) label (Err fault)
    → None ≡ label_frame rate drop label
frame_refused rate drop label fault reads =
    none_back (label_frame rate drop label) (frame_of_reading rate drop label (Err fault) reads)

-- a number that was read fits 64 bits
pub same_back : (n : ℤ) (k : ℕ) → IsSmall n k → to_z w64 (of_z w64 n) ≡ pos k
same_back n k s =
    let fits : FitsSigned w64 n = rw s.is (omega (arith, ints, s.small)) in
    to_z-of_z w64 n fits ∙ s.is
