-- What reading and writing the bytes of a label comes to.
use Rattle.std.proofs.Common.{◌≡◌, ℕ, ℤ, pos, Some, Ok, slice_get, List, length, get_or, ap, ◌∙◌}
use Rattle.smpte_tc.specs.declared.address.TimeAddress.{TimeAddress}
use Rattle.smpte_tc.specs.Day.{address, spelled, counted_of, mark_of}
use Rattle.smpte_tc.specs.declared.modes.Mode.{Mode}
use Rattle.smpte_tc.specs.Answers.{Says, HasLabel, Writes, ninth}
use Rattle.smpte_tc.specs.Spelling.{IsPairOf, IsSpelling}
use Rattle.smpte_tc.proofs.Lists.{eleven}
use Rattle.smpte_tc.proofs.Labels.{label_of_counted}

-- eleven bytes with their marks, read two by two
pub spelling_from : (xs : List ℕ) (mark h m s f : ℕ) → length xs ≡ 11 → get_or xs 2 0 ≡ 58 → get_or xs 5 0 ≡ 58 → get_or xs 8 0 ≡ mark
    → IsPairOf h (get_or xs 0 0) (get_or xs 1 0) → IsPairOf m (get_or xs 3 0) (get_or xs 4 0) → IsPairOf s (get_or xs 6 0) (get_or xs 7 0) → IsPairOf f (get_or xs 9 0) (get_or xs 10 0)
    → IsSpelling mark (address h m s f) xs
spelling_from xs mark h m s f long colon other before hours minutes seconds frames =
    let parts = eleven xs long in
    record {
      text = parts ∙ simp (hours.high, hours.low, colon, minutes.high, minutes.low, other, seconds.high, seconds.low, before, frames.high, frames.low);
      hours = hours.small;
      minutes = minutes.small;
      seconds = seconds.small;
      frames = frames.small;
    }

-- the spelling of a counted address is the label of its number
pub label_read : (mode : Mode) (bytes : List ℕ) (a : TimeAddress) (k : ℕ) (n : ℤ) → Says bytes a → slice_get (counted_of mode) k ≡ Some a → n ≡ pos k → HasLabel mode n bytes
label_read mode bytes a k n says there e = (k, e, says.mark, label_of_counted (ninth bytes) mode k bytes a (record { there = there; text = says.spelling.text }))

pub label_written : (mode : Mode) (bytes : List ℕ) (a : TimeAddress) (k mark : ℕ) (n : ℤ) → bytes ≡ spelled mark a → mark ≡ mark_of mode → slice_get (counted_of mode) k ≡ Some a → n ≡ pos k
    → Writes mode n (Ok bytes)
label_written mode bytes a k mark n text same there e =
    (k, e, label_of_counted (mark_of mode) mode k bytes a (record { there = there; text = text ∙ ap (λ m. spelled m a) same }))
