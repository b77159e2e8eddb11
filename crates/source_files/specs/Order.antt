-- Things in an order, each of which is something, or else the first of them that is none, and why.
use Rattle.std.specs.Prelude.{◌≡◌, ◌⊎◌, List, [], ◌∷◌}

-- each thing is what stands at its place
abbrev pub EachIs : {A B : Type 0} → (A → B → Type 0) → List A → List B → Type 0
EachIs Is [] [] = Unit {0}
EachIs Is [] (b ∷ bs) = ⊥
EachIs Is (a ∷ rest) [] = ⊥
EachIs Is (a ∷ rest) (b ∷ bs) = Is a b × EachIs Is rest bs

-- this is why a thing is none, and each thing before it is something
abbrev pub FirstIsNot : {A B W : Type 0} → (A → B → Type 0) → (A → W → Type 0) → List A → W → Type 0
FirstIsNot Is IsNot [] why = ⊥
FirstIsNot {B = B} Is IsNot (a ∷ rest) why =
    IsNot a why ⊎ ((b : B) × Is a b × FirstIsNot Is IsNot rest why)

-- it is one of these
abbrev pub IsAmong : {A : Type 0} → List A → A → Type 0
IsAmong [] a = ⊥
IsAmong (x ∷ xs) a = (a ≡ x) ⊎ IsAmong xs a
