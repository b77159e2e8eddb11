-- Whether a list is among the files of some names.
use Rattle.std.proofs.Common.{◌<◌, ℕ, zero, suc, List, [], ◌∷◌, inl, inr, arith, length, map, slice_index_or}
use denote.Ref.{Bor}
use Rattle.command_words.specs.Names.{HasList, IsListName}

-- a list at a place is a list among the names
pub list_at : (names : List (Bor (List ℕ))) (i : ℕ) (d : Bor (List ℕ)) → i < length names
    → IsListName (slice_index_or names i d).now → HasList (map (λ n. n.now) names)
list_at [] i d lt l = absurd (omega arith)
list_at (n ∷ names) zero d lt l = inl l
list_at (n ∷ names) (suc i) d lt l = inr (list_at names i d (omega arith) l)
