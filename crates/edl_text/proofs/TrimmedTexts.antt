-- Names and titles as they are written, without the spaces at their ends.
use Rattle.std.proofs.Common.{◌≡◌, ◌+◌, ◌-◌, ◌<◌, ◌≤◌, ℕ, zero, suc, List, [], ◌∷◌, ◌++◌, true, false, Some, None, map, reverse, take, drop, length, position, get_or, refl, sym, ap, ap₂, ◌∙◌, add-one, arith}
use Rattle.std.proofs.lemmas.Grind.{common_steps}
use Rattle.std.specs.List.{position_or_len}
use Rattle.std.proofs.lemmas.List.{length-map}
use Rattle.std.proofs.lemmas.List.Quantifiers.{position-Some}
use Rattle.std.proofs.lemmas.List.Sums.{fails_before_first}
use Rattle.text_lines.specs.First.{is_blank, begins_with_blank}
use Rattle.text_lines.specs.Lines.{trimmed_front}
use Rattle.text_lines.proofs.Trimming.{front_skips, back_skips, last_byte}
use Rattle.edl_text.specs.Columns.{is_control, written_byte}

abbrev written : List ℕ → List ℕ
written text = map written_byte text

-- the first byte of a text says whether a blank stands at its front
pub front_byte : (text : List ℕ) → 0 < length text → begins_with_blank (map written_byte text) ≡ is_blank (written_byte (get_or text 0 0))
front_byte [] h = absurd (omega arith)
front_byte (b ∷ text) h = refl

pub front_none : (text : List ℕ) → length text ≡ 0 → begins_with_blank (map written_byte text) ≡ false
front_none [] h = refl
front_none (b ∷ text) h = absurd (omega (arith, h))

get_written : (text : List ℕ) (i : ℕ) → i < length text → get_or (written text) i 0 ≡ written_byte (get_or text i 0)
get_written [] i h = absurd (omega arith)
get_written (b ∷ text) zero h = refl
get_written (b ∷ text) (suc i) h = get_written text i (omega arith)

-- the last byte of a text says whether a blank stands at its back
pub back_byte : (text : List ℕ) → 0 < length text → begins_with_blank (reverse (map written_byte text)) ≡ is_blank (written_byte (get_or text (length text - 1) 0))
back_byte text h =
    let n : length (written text) ≡ length text = length-map text written_byte in
    last_byte (written text) (omega (arith, n)) ∙ ap (λ k. is_blank (get_or (written text) (k - 1) 0)) n ∙ ap is_blank (get_written text (length text - 1) (omega arith))

pub back_none : (text : List ℕ) → length text ≡ 0 → begins_with_blank (reverse (map written_byte text)) ≡ false
back_none [] h = refl
back_none (b ∷ text) h = absurd (omega (arith, h))

-- a blank at the front is left out
pub front_less : (text : List ℕ) → begins_with_blank (map written_byte text) ≡ true → trimmed_front (map written_byte (drop 1 text)) ≡ trimmed_front (map written_byte text)
front_less [] h = cc
front_less (b ∷ text) h = front_skips (written (b ∷ text)) h

take_written : (i : ℕ) (text : List ℕ) → take i (written text) ≡ written (take i text)
take_written zero text = refl
take_written (suc i) [] = refl
take_written (suc i) (b ∷ text) = ap (λ l. written_byte b ∷ l) (take_written i text)

-- a blank at the back is left out
pub back_less : (text : List ℕ) → begins_with_blank (reverse (map written_byte text)) ≡ true
    → trimmed_front (reverse (map written_byte (take (length text - 1) text))) ≡ trimmed_front (reverse (map written_byte text))
back_less text h =
    let e : take (length (written text) - 1) (written text) ≡ written (take (length text - 1) text) = ap (λ n. take (n - 1) (written text)) (length-map text written_byte) ∙ take_written (length text - 1) text in
    ap (λ l. trimmed_front (reverse l)) (sym e) ∙ back_skips (written text) h

-- a byte that is no control byte is written as it is, and a control byte as a space
plain_byte : (b : ℕ) → is_control b ≡ false → written_byte b ≡ b
plain_byte b h = rw h refl

control_byte : (b : ℕ) → is_control b ≡ true → written_byte b ≡ 32
control_byte b h = rw h refl

before_first : (text : List ℕ) (i : ℕ) → i < length text → is_control (get_or text i 0) ≡ true → ((k : ℕ) → k < i → is_control (get_or text k 0) ≡ false)
    → written text ≡ take i text ++ 32 ∷ written (drop (suc i) text)
before_first [] i h here plain = absurd (omega arith)
before_first (b ∷ text) zero h here plain = ap (λ x. x ∷ written text) (control_byte b here)
before_first (b ∷ text) (suc i) h here plain =
    ap₂ (λ x l. x ∷ l) (plain_byte b (plain 0 (omega arith))) (before_first text i (omega arith) here (λ k below. plain (suc k) (omega arith)))

-- bytes up to the first control byte stand as they are, and a space for that
pub written-Some : (text : List ℕ) (i : ℕ) → Some i ≡ position is_control text → map written_byte text ≡ take i text ++ 32 ∷ map written_byte (drop (i + 1) text)
written-Some text i h =
    let p = position-Some is_control text i 0 (sym h) in
    rw add-one (before_first text i p.0 p.1 p.2)

all_plain : (text : List ℕ) → ((k : ℕ) → k < length text → is_control (get_or text k 0) ≡ false) → written text ≡ text
all_plain [] plain = refl
all_plain (b ∷ text) plain = ap₂ (λ x l. x ∷ l) (plain_byte b (plain 0 (omega arith))) (all_plain text (λ k below. plain (suc k) (omega arith)))

-- without a control byte all stand as they are
pub written-None : (text : List ℕ) → None ≡ position is_control text → map written_byte text ≡ text
written-None text h =
    let past : length text ≤ position_or_len is_control text = grind (arith, common_steps, h) in
    all_plain text (λ k below. fails_before_first is_control text k 0 (omega (arith, past, below)))
