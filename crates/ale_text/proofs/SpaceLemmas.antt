-- The text without the spaces at its ends.
use Rattle.std.proofs.Common.{◌≡◌, ◌+◌, ◌-◌, ◌<◌, ◌==◌, ℕ, List, [], ◌∷◌, ◌++◌, true, false, reverse, take, drop, length, get_or, refl, sym, ap, ◌∙◌, arith}
use Rattle.std.proofs.lemmas.Grind.{common_steps}
use Rattle.std.proofs.lemmas.List.{reverse-append, reverse-reverse, take_more}
use Rattle.ale_text.specs.Words.{begins_with_space, spaceless_front}

-- a space at the front is left out
pub front_skips : (text : List ℕ) → begins_with_space text ≡ true
    → spaceless_front (drop 1 text) ≡ spaceless_front text
unfolding spaceless_front
front_skips [] h = cc
front_skips (b ∷ bs) h = rw h refl

-- a text that begins with no space is left as it is
pub front_stays : (text : List ℕ) → begins_with_space text ≡ false → spaceless_front text ≡ text
unfolding spaceless_front
front_stays [] h = refl
front_stays (b ∷ bs) h = rw h refl

last_apart : (text : List ℕ) → 0 < length text
    → text ≡ take (length text - 1) text ++ get_or text (length text - 1) 0 ∷ []
last_apart text h =
    let whole : take (length text - 1 + 1) text ≡ text = grind (arith, common_steps) in
    sym whole ∙ take_more text (length text - 1) 0 (omega arith)

last_first : (text : List ℕ) → 0 < length text
    → reverse text ≡ get_or text (length text - 1) 0 ∷ reverse (take (length text - 1) text)
last_first text h = ap reverse (last_apart text h)
    ∙ reverse-append (take (length text - 1) text) (get_or text (length text - 1) 0 ∷ [])

-- the last byte of a text is the first of it reversed
pub last_byte : (text : List ℕ) → 0 < length text
    → begins_with_space (reverse text) ≡ (get_or text (length text - 1) 0 == 32)
last_byte text h = ap begins_with_space (last_first text h)

-- an empty text has no last byte
pub last_none : (text : List ℕ) → length text ≡ 0 → begins_with_space (reverse text) ≡ false
last_none [] h = refl
last_none (b ∷ bs) h = absurd (omega (arith, h))

-- a space at the back is left out
pub back_skips : (text : List ℕ) → begins_with_space (reverse text) ≡ true
    → spaceless_front (reverse (take (length text - 1) text)) ≡ spaceless_front (reverse text)
back_skips [] h = cc
back_skips (b ∷ bs) h =
    let some : 0 < length (b ∷ bs) = omega arith in
    sym (ap (λ l. spaceless_front (drop 1 l)) (last_first (b ∷ bs) some))
    ∙ front_skips (reverse (b ∷ bs)) h

-- a text that ends with no space is left as it is
pub back_stays : (text : List ℕ) → begins_with_space (reverse text) ≡ false
    → reverse (spaceless_front (reverse text)) ≡ text
back_stays text h = rw (front_stays (reverse text) h) (reverse-reverse text)
