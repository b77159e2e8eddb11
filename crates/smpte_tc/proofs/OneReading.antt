-- Bytes have one reading, and a number one label.
use Rattle.std.proofs.Common.{◌≡◌, ℕ, ℤ, pos, ◌≤◌, ◌<◌, Bool, true, false, not, Option, Some, None, Result, Ok, Err, List, length, slice_index, if◌then◌else◌, ◌==◌, true≢false, inl, inr, refl, sym, ap, subst, ◌∙◌, arith}
use Rattle.std.proofs.lemmas.Int.{ints}
use Rattle.std.proofs.lemmas.Option.{slice_get_within}
use Rattle.smpte_tc.specs.declared.address.TimeAddress.{TimeAddress}
use Rattle.smpte_tc.specs.declared.modes.Mode.{Mode}
use Rattle.smpte_tc.specs.declared.faults.TcFault.{TcFault}
use Rattle.smpte_tc.specs.declared.faults.TcFault.TheVariants.{Form, Field, Dropped, Day, NoTimecode}
use Rattle.smpte_tc.specs.Day.{counted_of, is_left_out, mark_of, IsLabelWith}
use Rattle.smpte_tc.specs.Modes.{IsMode}
use Rattle.smpte_tc.specs.Spelling.{IsInDay}
use Rattle.smpte_tc.specs.Answers.{ninth, IsMark, Says, HasLabel, Reads, ReadsAt, Writes, WritesAt}
use Rattle.smpte_tc.proofs.Dropping.{counted_from}
use Rattle.smpte_tc.proofs.Labels.{counted_by_label, same_address, number_is_one}

is_mark : (none : Bool) (byte : ℕ) → byte ≡ (if none then 58 else 59) → IsMark byte
is_mark true byte e = inl e
is_mark false byte e = inr e

-- the ninth byte of a label is its mark
pub label_ninth : (mark : ℕ) (mode : Mode) (n : ℕ) (bytes : List ℕ) → IsLabelWith mark mode n bytes → ninth bytes ≡ mark
label_ninth mark mode n bytes label = ap (λ b. slice_index b 8) (counted_by_label mark mode n bytes label).1.text

-- a label that was written is read as its number
pub written_reads : (o : Option Mode) (n : ℤ) (bytes : List ℕ) → WritesAt o n (Ok bytes) → ReadsAt o bytes (Ok n)
written_reads None n bytes wrote = cc
written_reads (Some m) n bytes wrote =
    let nine = label_ninth (mark_of m) m wrote.0 bytes wrote.2 in (
      wrote.0,
      wrote.1,
      is_mark (m.dropped == 0) (ninth bytes) nine,
      subst (λ k. IsLabelWith k m wrote.0 bytes) (sym nine) wrote.2,
    )

-- bytes say one time address
says_once : (bytes : List ℕ) (a b : TimeAddress) → Says bytes a → Says bytes b → a ≡ b
says_once bytes a b p q = same_address a b (ninth bytes) (ninth bytes) (sym p.spelling.text ∙ q.spelling.text)

-- bytes that say an address of the day that is counted
record IsStated (m : Mode) (bytes : List ℕ) (a : TimeAddress) : Type 0 where
  says : Says bytes a
  inside : IsInDay m.nominal a
  counted : is_left_out m a ≡ false

not_true : (b : Bool) → not b ≡ true → b ≡ false
not_true true e = cc
not_true false e = refl

label_stated : (m : Mode) (n : ℤ) (bytes : List ℕ) → IsMode m → HasLabel m n bytes → (a : TimeAddress) × IsStated m bytes a
label_stated m n bytes fair label =
    let found = counted_by_label (ninth bytes) m label.0 bytes label.3 in
    let at = counted_from m label.0 found.0 fair.some fair.fewer found.1.there in (
      found.0,
      record {
        says = record {
          mark = label.2;
          spelling = record {
            text = found.1.text;
            hours = omega (arith, at.inside.hours);
            minutes = omega (arith, at.inside.minutes);
            seconds = omega (arith, at.inside.seconds);
            frames = omega (arith, at.inside.frames, fair.small);
          };
        };
        inside = at.inside;
        counted = not_true (is_left_out m found.0) at.counted;
      },
    )

-- bytes that are a label are not refused
not_refused : (m : Mode) (n : ℤ) (bytes : List ℕ) (fault : TcFault) (a : TimeAddress) → IsStated m bytes a → Reads m bytes (Err fault) → ⊥
not_refused m n bytes Form a stated q = q a stated.says
not_refused m n bytes Field a stated q = q.2 (subst (IsInDay m.nominal) (says_once bytes a q.0 stated.says q.1) stated.inside)
not_refused m n bytes Dropped a stated q = true≢false (sym q.3 ∙ ap (is_left_out m) (says_once bytes q.0 a q.1 stated.says) ∙ stated.counted)
not_refused m n bytes Day a stated q = q
not_refused m n bytes NoTimecode a stated q = q

one_refusal : (m : Mode) (bytes : List ℕ) (f g : TcFault) → Reads m bytes (Err f) → Reads m bytes (Err g) → f ≡ g
one_refusal m bytes Day g p q = absurd p
one_refusal m bytes NoTimecode g p q = absurd p
one_refusal m bytes Form Form p q = refl
one_refusal m bytes Form Field p q = absurd (p q.0 q.1)
one_refusal m bytes Form Dropped p q = absurd (p q.0 q.1)
one_refusal m bytes Form Day p q = absurd q
one_refusal m bytes Form NoTimecode p q = absurd q
one_refusal m bytes Field Form p q = absurd (q p.0 p.1)
one_refusal m bytes Field Field p q = refl
one_refusal m bytes Field Dropped p q = absurd (p.2 (subst (IsInDay m.nominal) (says_once bytes q.0 p.0 q.1 p.1) q.2))
one_refusal m bytes Field Day p q = absurd q
one_refusal m bytes Field NoTimecode p q = absurd q
one_refusal m bytes Dropped Form p q = absurd (q p.0 p.1)
one_refusal m bytes Dropped Field p q = absurd (q.2 (subst (IsInDay m.nominal) (says_once bytes p.0 q.0 p.1 q.1) p.2))
one_refusal m bytes Dropped Dropped p q = refl
one_refusal m bytes Dropped Day p q = absurd q
one_refusal m bytes Dropped NoTimecode p q = absurd q

one_label_number : (m : Mode) (k n : ℤ) (bytes : List ℕ) → IsMode m → HasLabel m k bytes → HasLabel m n bytes → k ≡ n
one_label_number m k n bytes fair p q = p.1 ∙ ap pos (number_is_one (ninth bytes) (ninth bytes) m p.0 q.0 bytes fair.some fair.fewer p.3 q.3) ∙ sym q.1

one_in_mode : (m : Mode) (bytes : List ℕ) (a b : Result ℤ TcFault) → IsMode m → Reads m bytes a → Reads m bytes b → a ≡ b
one_in_mode m bytes (Ok k) (Ok n) fair p q = ap Ok (one_label_number m k n bytes fair p q)
one_in_mode m bytes (Ok k) (Err g) fair p q = let s = label_stated m k bytes fair p in absurd (not_refused m k bytes g s.0 s.1 q)
one_in_mode m bytes (Err f) (Ok n) fair p q = let s = label_stated m n bytes fair q in absurd (not_refused m n bytes f s.0 s.1 p)
one_in_mode m bytes (Err f) (Err g) fair p q = ap Err (one_refusal m bytes f g p q)

-- bytes have one reading where the mode is one that a rate can have
pub one_reading : (o : Option Mode) (bytes : List ℕ) (a b : Result ℤ TcFault) → ((m : Mode) → o ≡ Some m → IsMode m) → ReadsAt o bytes a → ReadsAt o bytes b → a ≡ b
one_reading None bytes a b fair p q = p ∙ sym q
one_reading (Some m) bytes a b fair p q = one_in_mode m bytes a b (fair m refl) p q

not_past : (m : Mode) (n : ℤ) (bytes : List ℕ) → Writes m n (Ok bytes) → Writes m n (Err Day) → ⊥
not_past m n bytes p q =
    let found = counted_by_label (mark_of m) m p.0 bytes p.2 in
    let short : p.0 < length (counted_of m) = slice_get_within (counted_of m) p.0 found.0 found.1.there in
    let past : length (counted_of m) ≤ p.0 = q p.0 p.1 in
    omega arith

one_in_writing : (m : Mode) (n : ℤ) (a b : Result (List ℕ) TcFault) → Writes m n a → Writes m n b → a ≡ b
one_in_writing m n (Ok a) (Ok b) p q =
    let number : p.0 ≡ q.0 = omega (arith, ints, p.1, q.1) in
    let here = subst (λ k. IsLabelWith (mark_of m) m k a) number p.2 in
    ap Ok (same_bytes a b (sym here.stands ∙ q.2.stands))
  where
    same_bytes : (x y : List ℕ) → Some x ≡ Some y → x ≡ y
    same_bytes x y e = cc
one_in_writing m n (Ok a) (Err Day) p q = absurd (not_past m n a p q)
one_in_writing m n (Err Day) (Ok b) p q = absurd (not_past m n b q p)
one_in_writing m n (Err Day) (Err Day) p q = refl
one_in_writing m n a (Err Form) p q = absurd q
one_in_writing m n a (Err Field) p q = absurd q
one_in_writing m n a (Err Dropped) p q = absurd q
one_in_writing m n a (Err NoTimecode) p q = absurd q
one_in_writing m n (Err Form) b p q = absurd p
one_in_writing m n (Err Field) b p q = absurd p
one_in_writing m n (Err Dropped) b p q = absurd p
one_in_writing m n (Err NoTimecode) b p q = absurd p

-- a number has one label or one refusal
pub one_writing : (o : Option Mode) (n : ℤ) (a b : Result (List ℕ) TcFault) → WritesAt o n a → WritesAt o n b → a ≡ b
one_writing None n a b p q = p ∙ sym q
one_writing (Some m) n a b p q = one_in_writing m n a b p q
