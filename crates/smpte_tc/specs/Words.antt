-- Words that name a whole number, or a point of a record.
use Rattle.std.specs.Prelude.{◌≡◌, ℕ, ◌<◌, ◌^◌, Bool, true, false, ◌==◌, ◌&&◌, ◌||◌, nat_le, List, [], ◌∷◌, codes, decimal, if◌then◌else◌}
use Rattle.smpte_tc.specs.declared.points.RecordPoint.{RecordPoint}
use Rattle.smpte_tc.specs.declared.points.RecordPoint.TheVariants.{Frame, Label}

-- the word is the number in decimal digits, without a sign or a leading zero, and has at most 18 of
-- them
abbrev pub IsWholeNumber : List ℕ → ℕ → Type 0
IsWholeNumber word n = (word ≡ decimal n) × (n < 10 ^ 18)

-- the byte is what a letter of a form stands for: `d` for a decimal digit, and another letter for
-- itself
abbrev pub is_letter : ℕ → ℕ → Bool
is_letter letter byte = if letter == 100 then nat_le 48 byte && nat_le byte 57 else (byte == letter)

-- the bytes have the form, letter by letter
abbrev pub fits : List ℕ → List ℕ → Bool
fits [] [] = true
fits [] (byte ∷ bytes) = false
fits (letter ∷ form) [] = false
fits (letter ∷ form) (byte ∷ bytes) = is_letter letter byte && fits form bytes

-- the word has the form of a label of SMPTE ST 12-1, without or with drop-frame
abbrev pub is_label_form : List ℕ → Bool
is_label_form word = fits (codes "dd:dd:dd:dd") word || fits (codes "dd:dd:dd;dd") word

-- the word names the point: a frame by its number, or one by a word in the form of a label
abbrev pub IsPoint : List ℕ → RecordPoint → Type 0
IsPoint word (Frame n) = IsWholeNumber word n
IsPoint word (Label label) = (label ≡ word) × (is_label_form word ≡ true)

-- a word names at most one point
abbrev pub IsOnePoint : Type 0
IsOnePoint =
    (word : List ℕ) (one other : RecordPoint) → IsPoint word one → IsPoint word other → one ≡ other
