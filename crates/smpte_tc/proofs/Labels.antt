-- Frame numbers and labels.
use Rattle.std.proofs.Common.{◌≡◌, ℕ, zero, suc, ◌<◌, ◌≤◌, Bool, true, false, ◌==◌, List, [], ◌∷◌, length, slice_get, Some, option_map, All, if◌then◌else◌, refl, sym, ap, ◌∙◌, arith, subst}
use Rattle.std.proofs.lemmas.Option.{slice_get-map}
use Rattle.std.proofs.lemmas.List.Elements.{All-from_recursion}
use Rattle.smpte_tc.specs.declared.address.TimeAddress.{TimeAddress}
use Rattle.smpte_tc.specs.declared.modes.Mode.{Mode}
use Rattle.smpte_tc.specs.Day.{address, counted_of, labels_with, spelled, tens, units, mark_of, IsLabel, IsLabelWith}
use Rattle.smpte_tc.specs.Modes.{IsMode}
use Rattle.smpte_tc.specs.Laws.{IsPlain}
use Rattle.smpte_tc.proofs.Lists.{option_from_map}
use Rattle.smpte_tc.proofs.Dropping.{counted_from}

-- a label, with the time address that it spells
pub record Spells (mark : ℕ) (mode : Mode) (n : ℕ) (bytes : List ℕ) (a : TimeAddress) : Type 0 where
  pub there : slice_get (counted_of mode) n ≡ Some a
  pub text : bytes ≡ spelled mark a

pub label_of_counted : (mark : ℕ) (mode : Mode) (n : ℕ) (bytes : List ℕ) (a : TimeAddress) → Spells mark mode n bytes a → IsLabelWith mark mode n bytes
unfolding labels_with
label_of_counted mark mode n bytes a spells = record {
  stands = slice_get-map (spelled mark) (counted_of mode) n ∙ ap (option_map (spelled mark)) spells.there ∙ ap Some (sym spells.text);
}

pub counted_by_label : (mark : ℕ) (mode : Mode) (n : ℕ) (bytes : List ℕ) → IsLabelWith mark mode n bytes → (a : TimeAddress) × Spells mark mode n bytes a
unfolding labels_with
counted_by_label mark mode n bytes label =
    let found = option_from_map (spelled mark) (slice_get (counted_of mode) n) bytes (sym (slice_get-map (spelled mark) (counted_of mode) n) ∙ label.stands) in
    (found.0, record { there = found.1; text = found.2 })

same_digits : (m n : ℕ) → tens m ≡ tens n → units m ≡ units n → m ≡ n
same_digits m n high low = omega arith

-- bytes spell one time address
pub same_address : (a b : TimeAddress) (mark other : ℕ) → spelled mark a ≡ spelled other b → a ≡ b
same_address a b mark other e =
    let h1 : tens a.hours ≡ tens b.hours = cc in
    let h2 : units a.hours ≡ units b.hours = cc in
    let m1 : tens a.minutes ≡ tens b.minutes = cc in
    let m2 : units a.minutes ≡ units b.minutes = cc in
    let s1 : tens a.seconds ≡ tens b.seconds = cc in
    let s2 : units a.seconds ≡ units b.seconds = cc in
    let f1 : tens a.frames ≡ tens b.frames = cc in
    let f2 : units a.frames ≡ units b.frames = cc in
    by_parts (same_digits a.hours b.hours h1 h2) (same_digits a.minutes b.minutes m1 m2) (same_digits a.seconds b.seconds s1 s2) (same_digits a.frames b.frames f1 f2)
  where
    by_parts : a.hours ≡ b.hours → a.minutes ≡ b.minutes → a.seconds ≡ b.seconds → a.frames ≡ b.frames → address a.hours a.minutes a.seconds a.frames ≡ address b.hours b.minutes b.seconds b.frames
    by_parts h m s f = cc

-- a counted address has one number
pub one_number : (mode : Mode) (m n : ℕ) (a : TimeAddress) → 0 < mode.nominal → mode.dropped ≤ mode.nominal → slice_get (counted_of mode) m ≡ Some a → slice_get (counted_of mode) n ≡ Some a → m ≡ n
one_number mode m n a some fewer p q =
    let one = counted_from mode m a some fewer p in
    let other = counted_from mode n a some fewer q in
    omega (arith, one.place, other.place)

-- a number has one counted address
pub one_address : (mode : Mode) (n : ℕ) (a b : TimeAddress) → slice_get (counted_of mode) n ≡ Some a → slice_get (counted_of mode) n ≡ Some b → a ≡ b
one_address mode n a b p q = let same : Some a ≡ Some b = sym p ∙ q in cc

-- each label has one frame number
pub number_is_one : (mark other : ℕ) (mode : Mode) (m n : ℕ) (bytes : List ℕ) → 0 < mode.nominal → mode.dropped ≤ mode.nominal → IsLabelWith mark mode m bytes → IsLabelWith other mode n bytes → m ≡ n
number_is_one mark other mode m n bytes some fewer p q =
    let one = counted_by_label mark mode m bytes p in
    let two = counted_by_label other mode n bytes q in
    let same : one.0 ≡ two.0 = same_address one.0 two.0 mark other (sym one.1.text ∙ two.1.text) in
    one_number mode m n two.0 some fewer (one.1.there ∙ ap Some same) two.1.there

-- a digit, ':' or ';'

tens_plain : (n : ℕ) → n < 100 → IsPlain (tens n)
tens_plain n h = (omega arith, omega arith)

units_plain : (n : ℕ) → IsPlain (units n)
units_plain n = (omega arith, omega arith)

spelled_plain : (mark : ℕ) (a : TimeAddress) → IsPlain mark → a.hours < 100 → a.minutes < 100 → a.seconds < 100 → a.frames < 100 → All IsPlain (spelled mark a)
spelled_plain mark a marked h m s f =
    let colon : IsPlain 58 = (omega arith, omega arith) in
    All-from_recursion IsPlain (spelled mark a) (
      tens_plain a.hours h,
      (
        units_plain a.hours,
        (
          colon,
          (
            tens_plain a.minutes m,
            (units_plain a.minutes, (colon, (tens_plain a.seconds s, (units_plain a.seconds, (marked, (tens_plain a.frames f, (units_plain a.frames, tt))))))),
          ),
        ),
      ),
    )

-- a label has eleven bytes
pub label_eleven : (mark : ℕ) (mode : Mode) (n : ℕ) (bytes : List ℕ) → IsLabelWith mark mode n bytes → length bytes ≡ 11
label_eleven mark mode n bytes label = ap length (counted_by_label mark mode n bytes label).1.text

-- each byte of a label is a digit, ':' or ';', where its mark is
pub label_plain : (mark : ℕ) (mode : Mode) (n : ℕ) (bytes : List ℕ) → IsMode mode → IsPlain mark → IsLabelWith mark mode n bytes → All IsPlain bytes
label_plain mark mode n bytes fair marked label =
    let found = counted_by_label mark mode n bytes label in
    let inside = (counted_from mode n found.0 fair.some fair.fewer found.1.there).inside in
    let all : All IsPlain (spelled mark found.0) = spelled_plain mark found.0 marked (omega (arith, inside.hours)) (omega (arith, inside.minutes)) (omega (arith, inside.seconds)) (omega (arith, inside.frames, fair.small)) in
    subst (All IsPlain) (sym found.1.text) all

mark_plain : (none : Bool) → IsPlain (if none then 58 else 59)
mark_plain true = (omega arith, omega arith)
mark_plain false = (omega arith, omega arith)

-- the laws of every mode

pub labels_there : (m : Mode) → IsMode m → (n : ℕ) → n < length (counted_of m) → (bytes : List ℕ) × IsLabel m n bytes
labels_there m fair n within =
    let found = found_at (counted_of m) n within in
    (spelled (mark_of m) found.0, label_of_counted (mark_of m) m n (spelled (mark_of m) found.0) found.0 (record { there = found.1; text = refl }))
  where
    found_at : (xs : List TimeAddress) (n : ℕ) → n < length xs → (a : TimeAddress) × (slice_get xs n ≡ Some a)
    found_at [] n h = absurd (omega arith)
    found_at (x ∷ xs) zero h = (x, refl)
    found_at (x ∷ xs) (suc n) h = found_at xs n (omega arith)

pub labels_unique : (m : Mode) → IsMode m → (n : ℕ) (a b : List ℕ) → IsLabel m n a → IsLabel m n b → a ≡ b
labels_unique m fair n a b p q =
    let same : Some a ≡ Some b = sym p.stands ∙ q.stands in
    cc

pub numbers_unique : (m : Mode) → IsMode m → (k n : ℕ) (bytes : List ℕ) → IsLabel m k bytes → IsLabel m n bytes → k ≡ n
numbers_unique m fair k n bytes p q = number_is_one (mark_of m) (mark_of m) m k n bytes fair.some fair.fewer p q

pub bytes_eleven : (m : Mode) → IsMode m → (n : ℕ) (bytes : List ℕ) → IsLabel m n bytes → length bytes ≡ 11
bytes_eleven m fair n bytes label = label_eleven (mark_of m) m n bytes label

pub bytes_plain : (m : Mode) → IsMode m → (n : ℕ) (bytes : List ℕ) → IsLabel m n bytes → All IsPlain bytes
bytes_plain m fair n bytes label = label_plain (mark_of m) m n bytes fair (mark_plain (m.dropped == 0)) label
