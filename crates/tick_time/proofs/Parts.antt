-- What stands first behind each part of a number.
use Rattle.std.proofs.Common.{◌≡◌, ℕ, ◌≤◌, ◌≢◌, List, [], ◌∷◌, ◌++◌, length, sym, ◌∙◌, ap, arith, ◌⊎◌, inl, inr, slice_index, Bool, take, drop, ◌-◌}
use Rattle.std.proofs.Math.Seq.{take-length}
use Rattle.std.specs.Char.{digit_value}
use Rattle.std.proofs.lemmas.Str.Parse.{digit_from_value}
use Rattle.tick_time.specs.Numerals.{IsInt, IsExp, absent, plain, raised, lowered, frac, StopsDigits}

pub int_no_minus : (whole rest : List ℕ) → IsInt whole → slice_index (whole ++ rest) 0 ≢ 45
int_no_minus [] rest int = λ _. absurd (omega (arith, int.some))
int_no_minus (d ∷ ds) rest int = λ e. omega (arith, digit_from_value d int.all.0)

-- an exponent's letter is no digit and no point
letter_stops : (letter : ℕ) → (letter ≡ 101) ⊎ (letter ≡ 69) → (10 ≤ digit_value letter) × (letter ≢ 46)
letter_stops letter (inl e) = rw e (omega arith, λ h. omega arith)
letter_stops letter (inr e) = rw e (omega arith, λ h. omega arith)

exp_in : (mark power : List ℕ) (down : Bool) → IsExp mark down power → (StopsDigits (mark ++ power)) × (slice_index (mark ++ power) 0 ≢ 46)
exp_in mark power down (absent m d p) = rw (m, p) (λ some. absurd (omega arith), λ h. omega arith)
exp_in mark power down (plain letter is m d p) = rw m (λ some. (letter_stops letter is).0, (letter_stops letter is).1)
exp_in mark power down (raised letter is m d p) = rw m (λ some. (letter_stops letter is).0, (letter_stops letter is).1)
exp_in mark power down (lowered letter is m d p) = rw m (λ some. (letter_stops letter is).0, (letter_stops letter is).1)

pub exp_stops : (mark power : List ℕ) (down : Bool) → IsExp mark down power → StopsDigits (mark ++ power)
exp_stops mark power down e = (exp_in mark power down e).0

pub exp_no_point : (mark power : List ℕ) (down : Bool) → IsExp mark down power → slice_index (mark ++ power) 0 ≢ 46
exp_no_point mark power down e = (exp_in mark power down e).1

pub frac_stops : (decimals rest : List ℕ) → StopsDigits rest → StopsDigits (frac decimals ++ rest)
frac_stops [] rest stops = stops
frac_stops (d ∷ ds) rest stops = λ some. omega arith

-- what follows a point
pub after_point : (text digits rest : List ℕ) → text ≡ frac digits ++ rest → slice_index text 0 ≡ 46 → slice_index rest 0 ≢ 46 → take (length text - 1) (drop 1 text) ≡ digits ++ rest
after_point text [] rest e point other = absurd (other (ap (λ t. slice_index t 0) (sym e) ∙ point))
after_point text (d ∷ ds) rest e point other =
    let n : length (46 ∷ d ∷ (ds ++ rest)) - 1 ≡ length (d ∷ (ds ++ rest)) = omega arith in rw (e, n) (take-length (d ∷ (ds ++ rest)))
