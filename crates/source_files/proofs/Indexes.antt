-- A place by its indexes.
use Rattle.std.proofs.Common.{◌≡◌, ◌≤◌, ◌+◌, ℕ, zero, suc, List, [], ◌∷◌, ◌++◌, Some, drop, length, slice_get, decimal, codes, ap, ◌∙◌, arith}
use Rattle.dev_io.proofs.PartLemmas.{drop_past}
use Rattle.source_files.specs.Places.{more_indexes, place_text}

split_at : (place : List ℕ) (at x : ℕ) → slice_get place at ≡ Some x
    → drop at place ≡ x ∷ drop (suc at) place
split_at [] zero x e = cc
split_at [] (suc at) x e = cc
split_at (y ∷ ys) zero x e = let same : y ≡ x = cc in ap (λ z. z ∷ ys) same
split_at (y ∷ ys) (suc at) x e = split_at ys at x e

-- the next index, and those after it
pub next_index : (place : List ℕ) (at x : ℕ) → slice_get place at ≡ Some x
    → more_indexes (drop at place) ≡ codes "/" ++ (decimal x ++ more_indexes (drop (at + 1) place))
next_index place at x e =
    let next : suc at ≡ at + 1 = omega arith in
    ap more_indexes (split_at place at x e)
    ∙ ap (λ n. codes "/" ++ (decimal x ++ more_indexes (drop n place))) next

-- the first index, and those after it
pub first_index : (place : List ℕ) (x : ℕ) → Some x ≡ slice_get place 0
    → place_text place ≡ decimal x ++ more_indexes (drop 1 place)
first_index [] x e = cc
first_index (y ∷ ys) x e = let same : y ≡ x = cc in ap (λ z. decimal z ++ more_indexes ys) same

-- no index is left at the end
pub last_index : (place : List ℕ) (at : ℕ) → length place ≤ at → more_indexes (drop at place) ≡ []
last_index place at h = ap more_indexes (drop_past place at h)
