-- A word names at most one point.
use Rattle.std.proofs.Common.{◌≡◌, ℕ, ◌<◌, ◌==◌, ◌&&◌, ◌||◌, Bool, true, false, List, [], ◌∷◌, codes, length, get_or, refl, sym, ap, ◌∙◌, arith}
use Rattle.std.proofs.lemmas.Bool.Decides.{Decides-eqb}
use Rattle.std.proofs.lemmas.Bool.{false≢true}
use Rattle.std.proofs.lemmas.Fmt.{decimal_injective}
use Rattle.std.proofs.lemmas.Str.Parse.{digit_at}
use Rattle.std.specs.Str.Parse.{AllDigits}
use Rattle.smpte_tc.specs.declared.points.RecordPoint.{RecordPoint}
use Rattle.smpte_tc.specs.declared.points.RecordPoint.TheVariants.{Frame, Label}
use Rattle.smpte_tc.specs.Words.{fits, is_letter, is_label_form, IsWholeNumber, IsPoint}
use Rattle.tick_time.proofs.BoolLemmas.{both}
use Rattle.smpte_tc.proofs.WholeNumbers.{whole_of}

-- a word names at most one whole number
pub number_once : (word : List ℕ) (m n : ℕ) → IsWholeNumber word m → IsWholeNumber word n → m ≡ n
number_once word m n p q = decimal_injective m n (omega (arith, p.1)) (omega (arith, q.1)) (sym p.0 ∙ q.0)

-- a word that fits a form with a colon behind two letters has a colon there
colon : (a b : ℕ) (form word : List ℕ) → fits (a ∷ b ∷ 58 ∷ form) word ≡ true → (2 < length word) × (get_or word 2 0 ≡ 58)
colon a b form [] e = absurd (false≢true e)
colon a b form (x ∷ []) e = absurd (false≢true (both (is_letter a x) false e).1)
colon a b form (x ∷ y ∷ []) e = absurd (false≢true (both (is_letter b y) false (both (is_letter a x) (is_letter b y && false) e).1).1)
colon a b form (x ∷ y ∷ z ∷ word) e =
    let behind = (both (is_letter a x) (is_letter b y && (is_letter 58 z && fits form word)) e).1 in
    let third = (both (is_letter b y) (is_letter 58 z && fits form word) behind).1 in
    let same : z == 58 ≡ true = (both (is_letter 58 z) (fits form word) third).0 in (omega arith, (Decides-eqb z 58).0 same)

colon_form : (p q : Bool) (word : List ℕ) → fits (codes "dd:dd:dd:dd") word ≡ p → fits (codes "dd:dd:dd;dd") word ≡ q → (p || q) ≡ true → (2 < length word) × (get_or word 2 0 ≡ 58)
colon_form true q word d e h = colon 100 100 (codes "dd:dd:dd") word d
colon_form false true word d e h = colon 100 100 (codes "dd:dd;dd") word e
colon_form false false word d e h = absurd (false≢true h)

no_digits : (word : List ℕ) → is_label_form word ≡ true → AllDigits 10 word → ⊥
no_digits word e digits =
    let at = colon_form (fits (codes "dd:dd:dd:dd") word) (fits (codes "dd:dd:dd;dd") word) word refl refl e in omega (arith, digit_at word 2 digits at.0, at.1)

-- a word names at most one point
pub point_once : (word : List ℕ) (one other : RecordPoint) → IsPoint word one → IsPoint word other → one ≡ other
point_once word (Frame m) (Frame n) p q = ap Frame (number_once word m n p q)
point_once word (Frame m) (Label b) p q = absurd (no_digits word q.1 (whole_of word m p).digits)
point_once word (Label a) (Frame n) p q = absurd (no_digits word p.1 (whole_of word n q).digits)
point_once word (Label a) (Label b) p q = ap Label (p.0 ∙ sym q.0)
