-- The open lists and objects, of the levels that a reader keeps.
use Rattle.std.proofs.Common.{◌≡◌, ℕ, ◌+◌, ◌-◌, ◌<◌, ◌≤◌, List, [], ◌∷◌, length, take, drop, get_or, true, false, Result, Ok, refl, sym, ap, ◌∙◌, arith, subst}
use Rattle.std.proofs.lemmas.Bool.Decides.{nat_tests}
use Rattle.std.proofs.lemmas.List.{take_more, take-set, drop-drop, map-append, reverse-append}
use Rattle.std.specs.Prelude.{◌==◌, map, reverse, slice_index_or, slice_set}
use Rattle.json_text.specs.State.Machine.{MachineState, closed, placed, whole, state, word, in_word}
use Rattle.json_text.specs.State.Opened.{Unclosed, unclosed_of}
use Rattle.json_text.specs.State.Stands.{IsTaken}
use Rattle.json_text.specs.declared.state.Level.{Level}
use Rattle.json_text.specs.declared.state.Stop.{Stop}
use Rattle.json_text.specs.declared.state.Taken.{Taken}
use Rattle.json_value.specs.declared.Json.{Json}

-- the innermost of them, and those around it
innermost_first : (levels : List Level) (n : ℕ) (d : Level) → n < length levels
    → reverse (map unclosed_of (take (n + 1) levels)) ≡ unclosed_of (get_or levels n d) ∷ reverse (map unclosed_of (take n levels))
innermost_first levels n d h =
    ap (λ x. reverse (map unclosed_of x)) (take_more levels n d h)
    ∙ ap reverse (map-append unclosed_of (take n levels) (get_or levels n d ∷ []))
    ∙ reverse-append (map unclosed_of (take n levels)) (unclosed_of (get_or levels n d) ∷ [])

-- the innermost of so many ends, and another stands in its place among the levels
pub closed_at : (levels : List Level) (n : ℕ) (d now after : Level) (v : Json) → 0 < n → n ≤ length levels → now ≡ slice_index_or levels (n - 1) d → v ≡ whole (unclosed_of now)
    → closed (reverse (map unclosed_of (take n levels))) ≡ Ok (placed (reverse (map unclosed_of (take (n - 1) (slice_set levels (n - 1) after)))) v)
closed_at levels n d now after v some within is made =
    let m = n - 1 in
    let next : m + 1 ≡ n = omega (arith, some) in
    let first : reverse (map unclosed_of (take n levels)) ≡ unclosed_of now ∷ reverse (map unclosed_of (take m levels)) =
    ap (λ k. reverse (map unclosed_of (take k levels))) (sym next) ∙ innermost_first levels m d (omega (arith, some, within))
    ∙ ap (λ x. unclosed_of x ∷ reverse (map unclosed_of (take m levels))) (sym is) in
    ap closed first
    ∙ ap (λ x. Ok (placed (reverse (map unclosed_of x)) (whole (unclosed_of now)))) (sym (take-set levels m after))
    ∙ ap (λ x. Ok (placed (reverse (map unclosed_of (take m (slice_set levels m after)))) x)) (sym made)

-- a letter of a word that is none of the last
pub letter_goes : (levels : List Unclosed) (v : Json) (letters left rest : List ℕ) (first byte count : ℕ) → left ≡ drop count letters → left ≡ first ∷ rest → (length rest == 0) ≡ false
    → byte ≡ first → in_word levels v (drop count letters) byte ≡ Ok (state levels (word v (drop (count + 1) letters)))
letter_goes levels v letters left [] first byte count is split some same = cc some
letter_goes levels v letters left (x ∷ xs) first byte count is split some same =
    let front : drop count letters ≡ first ∷ x ∷ xs = sym is ∙ split in
    let back : x ∷ xs ≡ drop (count + 1) letters = sym (ap (drop 1) front) ∙ drop-drop 1 count letters in
    ap (λ l. in_word levels v l byte) front ∙ ap (λ b. in_word levels v (b ∷ x ∷ xs) byte) (sym same) ∙ goes byte ∙ ap (λ l. Ok (state levels (word v l))) back
  where
    goes : (b : ℕ) → in_word levels v (b ∷ x ∷ xs) b ≡ Ok (state levels (word v (x ∷ xs)))
    goes b = let e : (b == b) ≡ true = grind (arith, nat_tests) in rw e refl

-- what came of a byte, of an equal step
pub taken_as : (taken : Taken) (s t : Result MachineState Stop) (new : MachineState) → IsTaken taken s new → t ≡ s → IsTaken taken t new
taken_as taken s t new h e = subst (λ x. IsTaken taken x new) (sym e) h
