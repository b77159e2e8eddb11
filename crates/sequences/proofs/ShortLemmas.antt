-- What stands at the front of an array into which a text was copied.
use Rattle.std.proofs.Common.{◌≡◌, ℕ, zero, suc, ◌≤◌, List, [], ◌∷◌, ◌++◌, true, take, length, ap, refl, arith, ◌∙◌}
use Rattle.std.proofs.Math.Seq.{take-append_seam}
use Rattle.std.proofs.lemmas.Str.{is_utf8-from_IsUtf8}
use Rattle.std.specs.Str.{IsUtf8, is_utf8}

pub front : (text copied rest : List ℕ) → copied ≡ text → take (length text) (copied ++ rest) ≡ text
front text copied rest e = ap (λ l. take (length text) (l ++ rest)) e ∙ take-append_seam text rest

pub front_is_utf8 : (text copied rest : List ℕ) → copied ≡ text → IsUtf8 text → is_utf8 (take (length text) (copied ++ rest)) ≡ true
front_is_utf8 text copied rest e h = ap is_utf8 (front text copied rest e) ∙ is_utf8-from_IsUtf8 text h

-- The first of the first are the first.
first_of_first : (n m : ℕ) (bytes : List ℕ) → n ≤ m → take n (take m bytes) ≡ take n bytes
first_of_first zero m bytes h = refl
first_of_first (suc n) zero bytes h = absurd (omega arith)
first_of_first (suc n) (suc m) [] h = refl
first_of_first (suc n) (suc m) (b ∷ bytes) h = ap (λ x. b ∷ x) (first_of_first n m bytes (omega arith))

pub window : (count room : ℕ) (bytes copied : List ℕ) → count ≤ room → copied ≡ take room bytes → take count copied ≡ take count bytes
window count room bytes copied h e = ap (take count) e ∙ first_of_first count room bytes h
