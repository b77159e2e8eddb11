-- What the pieces of a note's line make.
use Rattle.std.proofs.Common.{◌≡◌, ◌<◌, ◌-◌, ◌==◌, ℕ, true, false, List, [], ◌∷◌, ◌++◌, length, map, refl, sym, ap, ◌∙◌, append_assoc, arith}
use Rattle.std.proofs.lemmas.Bool.Decides.{nat_tests}
use Rattle.edl_text.specs.Columns.{cleaned, spaces, written_byte}
use Rattle.note_text.specs.NotedSpelling.{color_and_name, color_width}

-- three texts and an end
pub joined : (s o p end : List ℕ) → s ++ (o ++ (p ++ end)) ≡ (s ++ (o ++ p)) ++ end
joined s o p end = sym (append_assoc s (o ++ p) end ∙ ap (λ l. s ++ l) (append_assoc o p end))

-- a locator, with a name in a column
named_in : (label color gap : List ℕ) (b : ℕ) (shown end : List ℕ)
    → label ++ (32 ∷ (color ++ (gap ++ (32 ∷ b ∷ (shown ++ end))))) ≡ (label ++ 32 ∷ ((color ++ gap) ++ 32 ∷ b ∷ shown)) ++ end
named_in label color gap b shown end =
    let inner : color ++ (gap ++ (32 ∷ b ∷ (shown ++ end))) ≡ ((color ++ gap) ++ 32 ∷ b ∷ shown) ++ end =
    sym (append_assoc (color ++ gap) (32 ∷ b ∷ shown) end ∙ append_assoc color gap (32 ∷ b ∷ (shown ++ end))) in
    ap (λ l. label ++ 32 ∷ l) inner ∙ sym (append_assoc label (32 ∷ ((color ++ gap) ++ 32 ∷ b ∷ shown)) end)

-- a locator with a name
named_by : (label color gap shown name end : List ℕ)
    → shown ≡ name → 0 < length shown → gap ≡ spaces (color_width - length color)
    → label ++ (32 ∷ (color ++ (gap ++ (32 ∷ (shown ++ end))))) ≡ (label ++ 32 ∷ color_and_name color name) ++ end
named_by label color gap [] name end e some f = absurd (omega arith)
named_by label color gap (b ∷ shown) name end e some f = rw (← e, f) (named_in label color (spaces (color_width - length color)) b shown end)

length_written : (shown : List ℕ) → length (map written_byte shown) ≡ length shown
length_written [] = refl
length_written (b ∷ shown) = rw (length_written shown) refl

pub named : (label color gap shown text : List ℕ)
    → map written_byte shown ≡ cleaned text → false ≡ (length shown == 0) → gap ≡ spaces (color_width - length color)
    → label ++ (32 ∷ (color ++ (gap ++ (32 ∷ (map written_byte shown ++ 10 ∷ [])))))
    ≡ (label ++ 32 ∷ color_and_name color (cleaned text)) ++ 10 ∷ []
named label color gap shown text e some f =
    let long : 0 < length shown = grind (arith, nat_tests, some) in
    named_by label color gap (map written_byte shown) (cleaned text) (10 ∷ []) e (rw (length_written shown) long) f

-- a locator without one
pub unnamed : (label color shown text : List ℕ)
    → map written_byte shown ≡ cleaned text → true ≡ (length shown == 0)
    → label ++ (32 ∷ (color ++ 10 ∷ [])) ≡ (label ++ 32 ∷ color_and_name color (cleaned text)) ++ 10 ∷ []
unnamed label color [] text e none = rw (← e) (sym (append_assoc label (32 ∷ color) (10 ∷ [])))
unnamed label color (b ∷ shown) text e none = absurd (grind (arith, nat_tests, none))
