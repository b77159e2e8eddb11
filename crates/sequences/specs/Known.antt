-- A map that has the place of each of some names.
use Rattle.std.specs.Prelude.{◌≡◌, ℕ, List, length, Option, Some, None, if◌then◌else◌, nat_lt}
use Rattle.std.specs.BTreeMap.{BTreeMap, get_by, btree_map_len}
use Rattle.std.specs.Cmp.Lexicographic.{slice_cmp}
use Rattle.std.specs.Ordering.{nat_cmp}
use Rattle.sequences.specs.Places.{place_of}
use denote.Ref.{Bor}

-- the place of the name among the names, where it is one of them
abbrev pub found : List ℕ → List (List ℕ) → Option ℕ
found n names = if nat_lt (place_of n names) (length names) then Some (place_of n names) else None

-- the map has the place of each of the names, and nothing else
pub record Knows (known : BTreeMap (Bor (List ℕ)) ℕ) (names : List (List ℕ)) : Type 0 where
  pub place : (n : List ℕ) → get_by (λ k. slice_cmp nat_cmp n k.now) known ≡ found n names
  pub count : btree_map_len known ≡ length names
