-- Pairs of a name and a value, by their names. A name is the list of its UTF-8 bytes.
use Rattle.std.specs.Prelude.{◌≢◌, ℕ, List, [], ◌∷◌, Option, Some, None, if◌then◌else◌}
use Rattle.std.specs.Str.{bytes_eq}

-- the names, in order
abbrev pub names_of : {X : Type 0} → List (List ℕ × X) → List (List ℕ)
names_of [] = []
names_of (p ∷ ps) = p.0 ∷ names_of ps

-- the name is none of these
abbrev pub IsNew : List ℕ → List (List ℕ) → Type 0
IsNew n [] = Unit {0}
IsNew n (m ∷ ms) = (n ≢ m) × IsNew n ms

-- no name stands twice
abbrev pub AreDistinct : List (List ℕ) → Type 0
AreDistinct [] = Unit {0}
AreDistinct (n ∷ ns) = IsNew n ns × AreDistinct ns

-- that a name is new is known in one way only
pub IsNew-prop : (n : List ℕ) (ms : List (List ℕ)) → IsProp (IsNew n ms)
IsNew-prop n [] = hlevel
IsNew-prop n (m ∷ ms) = hlevel (IsNew-prop n ms)

-- that names are distinct is known in one way only
pub AreDistinct-prop : (ns : List (List ℕ)) → IsProp (AreDistinct ns)
AreDistinct-prop [] = hlevel
AreDistinct-prop (n ∷ ns) = hlevel (IsNew-prop n ns, AreDistinct-prop ns)

-- the value of the first pair of that name
abbrev pub value_of : {X : Type 0} → List ℕ → List (List ℕ × X) → Option X
value_of n [] = None
value_of n (p ∷ ps) = if bytes_eq n p.0 then Some p.1 else value_of n ps

-- the pairs with the value x at the name n: in the place of the first pair of that name, else at
-- the end
abbrev pub put : {X : Type 0} → List ℕ → X → List (List ℕ × X) → List (List ℕ × X)
put n x [] = (n, x) ∷ []
put n x (p ∷ ps) = if bytes_eq n p.0 then (n, x) ∷ ps else p ∷ put n x ps

-- each pair put in its turn among those that are there
abbrev pub put_all : {X : Type 0} → List (List ℕ × X) → List (List ℕ × X) → List (List ℕ × X)
put_all kept [] = kept
put_all kept (p ∷ ps) = put_all (put p.0 p.1 kept) ps

-- the pairs with distinct names: the value of a later pair of a name replaces that of the first
-- pair, in the first one's place
abbrev pub merged : {X : Type 0} → List (List ℕ × X) → List (List ℕ × X)
merged ps = put_all [] ps
