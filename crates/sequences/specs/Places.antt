-- The distinct names among names, in the order in which they first come, and the place of each name
-- there.
use Rattle.std.specs.Prelude.{ℕ, suc, List, [], ◌∷◌, if◌then◌else◌}
use Rattle.std.specs.Str.{bytes_eq}

-- the place at which the name first stands, and the number of the names where it is none of them
abbrev pub place_of : List ℕ → List (List ℕ) → ℕ
place_of n [] = 0
place_of n (m ∷ ms) = if bytes_eq n m then 0 else suc (place_of n ms)

-- the names, with n at the end unless it is one of them
abbrev pub add_name : List ℕ → List (List ℕ) → List (List ℕ)
add_name n [] = n ∷ []
add_name n (m ∷ ms) = if bytes_eq n m then m ∷ ms else m ∷ add_name n ms

-- the names that are known, and then those of the others that are new
abbrev pub add_names : List (List ℕ) → List (List ℕ) → List (List ℕ)
add_names known [] = known
add_names known (n ∷ ns) = add_names (add_name n known) ns

-- the place of each name among those that are known by then
abbrev pub places_in : List (List ℕ) → List (List ℕ) → List ℕ
places_in known [] = []
places_in known (n ∷ ns) = place_of n known ∷ places_in (add_name n known) ns
