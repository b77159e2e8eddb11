-- Members with distinct names are already merged.
use Rattle.std.proofs.Common.{◌≡◌, ◌≢◌, ℕ, false, List, [], ◌∷◌, ◌++◌, refl, sym, ap, ◌∙◌, append_assoc, append-nil, arith}
use Rattle.std.specs.Str.{bytes_eq}
use Rattle.std.proofs.lemmas.Slice.Eq.{bytes_eq-Decides}
use Rattle.sequences.specs.Pairs.{names_of, IsNew, AreDistinct, put, put_all, merged}

-- a name that is new to a list isn't any of it
new_at : {X : Type 0} (n : List ℕ) (ks : List (List ℕ × X)) (p : List ℕ × X) (ps : List (List ℕ × X)) → IsNew n (names_of (ks ++ p ∷ ps)) → n ≢ p.0
new_at n [] p ps h = h.0
new_at n (k ∷ ks) p ps h = new_at n ks p ps h.1

other : (m n : List ℕ) → n ≢ m → bytes_eq m n ≡ false
other m n h = grind (arith, bytes_eq-Decides m n)

-- a pair of a new name is put at the end
put_end : {X : Type 0} (ks : List (List ℕ × X)) (p : List ℕ × X) (ps : List (List ℕ × X)) → AreDistinct (names_of (ks ++ p ∷ ps)) → put p.0 p.1 ks ≡ ks ++ p ∷ []
put_end [] p ps h = refl
put_end (k ∷ ks) p ps h = rw (other p.0 k.0 (new_at k.0 ks p ps h.0)) (ap (λ l. k ∷ l) (put_end ks p ps h.1))

put_all_end : {X : Type 0} (ks ps : List (List ℕ × X)) → AreDistinct (names_of (ks ++ ps)) → put_all ks ps ≡ ks ++ ps
put_all_end ks [] h = sym (append-nil ks)
put_all_end ks (p ∷ ps) h =
    rw (put_end ks p ps h) (put_all_end (ks ++ p ∷ []) ps (rw append_assoc h) ∙ append_assoc ks (p ∷ []) ps)

pub merged_same : {X : Type 0} (ps : List (List ℕ × X)) → AreDistinct (names_of ps) → merged ps ≡ ps
merged_same ps h = put_all_end [] ps h
