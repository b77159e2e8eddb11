-- The carriage return at the end of a line.
use Rattle.std.proofs.Common.{◌≡◌, ◌==◌, ℕ, Bool, List, [], ◌∷◌, ◌++◌, true, false, refl, ap, arith}
use Rattle.text_lines.specs.Lines.{without_return}

-- a carriage return at the end goes
pub return_off : (front line : List ℕ) → line ≡ front ++ 13 ∷ [] → without_return line ≡ front
unfolding without_return
return_off [] line h = rw h refl
return_off (b ∷ []) line h = rw h refl
return_off (b ∷ c ∷ front) line h = rw h (ap (λ l. b ∷ l) (return_off (c ∷ front) (c ∷ (front ++ 13 ∷ [])) refl))

single : (b : ℕ) (t : Bool) → (b == 13) ≡ t → ((front : List ℕ) → b ∷ [] ≡ front ++ 13 ∷ [] → ⊥) → without_return (b ∷ []) ≡ b ∷ []
unfolding without_return
single b true e h = let same : b ≡ 13 = grind (arith, e) in absurd (h [] (ap (λ x. x ∷ []) same))
single b false e h = rw e refl

-- other bytes stay
pub return_none : (line : List ℕ) → ((front : List ℕ) → line ≡ front ++ 13 ∷ [] → ⊥) → without_return line ≡ line
unfolding without_return
return_none [] h = refl
return_none (b ∷ []) h = single b (b == 13) refl h
return_none (b ∷ c ∷ line) h = ap (λ l. b ∷ l) (return_none (c ∷ line) (λ front e. h (b ∷ front) (ap (λ l. b ∷ l) e)))
