-- The names of logs.
use Rattle.std.proofs.Common.{◌≡◌, ◌++◌, ◌||◌, ℕ, Bool, true, false, List, [], ◌∷◌, ◌⊎◌, IsTrue, ◌↔◌, refl, sym, ap, ◌∙◌, inl, inr, bytes_eq, codes}
use Rattle.std.proofs.lemmas.Slice.Eq.{bytes_eq-Decides}
use Rattle.std.proofs.lemmas.Bool.{or_left, or_right}
use Rattle.command_words.specs.Names.{IsLogName}
use Rattle.otio_tools.specs.Asked.{ends_with, is_log}
use Rattle.otio_tools.proofs.SeveralFiles.{by_truth}

abbrev EndsIn : List ℕ → List ℕ → Type 0
EndsIn end name = (stem : List ℕ) × (name ≡ stem ++ end)

-- the end of a name has at least a byte
end_or : (b c : ℕ) (end name : List ℕ) (t : Bool) → bytes_eq (b ∷ name) (c ∷ end) ≡ t
    → (EndsIn (c ∷ end) name → ends_with (c ∷ end) name ≡ true) → EndsIn (c ∷ end) (b ∷ name)
    → (t || ends_with (c ∷ end) name) ≡ true
end_or b c end name true e more l = refl
end_or b c end name false e more ([], same) =
    absurd (let k : true ≡ false = sym ((bytes_eq-Decides (b ∷ name) (c ∷ end)).1 same) ∙ e in cc k)
end_or b c end name false e more (d ∷ stem, same) = more (stem, let k = same in cc)

end_told : (c : ℕ) (end name : List ℕ) → EndsIn (c ∷ end) name
    → ends_with (c ∷ end) name ≡ true
end_told c end [] ([], same) = absurd (cc same)
end_told c end [] (d ∷ stem, same) = absurd (cc same)
end_told c end (b ∷ name) l =
    end_or b c end name (bytes_eq (b ∷ name) (c ∷ end)) refl (end_told c end name) l

or_end : (b : ℕ) (end name : List ℕ) (t : Bool) → bytes_eq (b ∷ name) end ≡ t
    → (ends_with end name ≡ true → EndsIn end name) → (t || ends_with end name) ≡ true
    → EndsIn end (b ∷ name)
or_end b end name true e more l = ([], (bytes_eq-Decides (b ∷ name) end).0 e)
or_end b end name false e more l = let k = more l in (b ∷ k.0, ap (λ n. b ∷ n) k.1)

told_end : (end name : List ℕ) → ends_with end name ≡ true → EndsIn end name
told_end end [] e = absurd (cc e)
told_end end (b ∷ name) e =
    or_end b end name (bytes_eq (b ∷ name) end) refl (told_end end name) e

either_true : (a b : Bool) → (a || b) ≡ true → (a ≡ true) ⊎ (b ≡ true)
either_true true b e = inl refl
either_true false b e = inr e

log_is : (name : List ℕ) → IsLogName name → is_log name ≡ true
log_is name (stem, inl e) =
    or_left (ends_with (codes ".ale") name) (ends_with (codes ".ALE") name)
    (end_told 46 (codes "ale") name (stem, e))
log_is name (stem, inr e) =
    or_right (ends_with (codes ".ale") name) (ends_with (codes ".ALE") name)
    (end_told 46 (codes "ALE") name (stem, e))

is_of : (name : List ℕ)
    → (ends_with (codes ".ale") name ≡ true) ⊎ (ends_with (codes ".ALE") name ≡ true)
    → IsLogName name
is_of name (inl e) = let k = told_end (codes ".ale") name e in (k.0, inl k.1)
is_of name (inr e) = let k = told_end (codes ".ALE") name e in (k.0, inr k.1)

is_log_of : (name : List ℕ) → is_log name ≡ true → IsLogName name
is_log_of name e =
    is_of name (either_true (ends_with (codes ".ale") name) (ends_with (codes ".ALE") name) e)

-- a name is that of a log where it is taken for one
pub log_named : (result : Bool) (name : List ℕ) → (IsTrue result ↔ IsLogName name)
    → result ≡ is_log name
log_named result name h =
    by_truth result (is_log name) (λ t. log_is name (h.0 t)) (λ e. h.1 (is_log_of name e))
