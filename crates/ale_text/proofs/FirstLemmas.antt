-- The names of a list without those that stand earlier too.
use Rattle.std.proofs.Common.{◌≡◌, ◌≢◌, ◌||◌, ℕ, Bool, true, false, cond, not, List, [], ◌∷◌, ◌++◌, refl, sym, ap, ◌∙◌, append-nil}
use Rattle.std.specs.List.{filter, list_any}
use Rattle.std.specs.Str.{bytes_eq}
use Rattle.std.proofs.lemmas.Bool.{false≢true}
use Rattle.std.proofs.lemmas.List.Elements.{filter-append}
use Rattle.std.proofs.lemmas.Slice.Eq.{bytes_eq-Decides}
use Rattle.ale_text.specs.Logs.{firsts}

-- whether a name is among some
abbrev pub among : List ℕ → List (List ℕ) → Bool
among name names = list_any (bytes_eq name) names

-- no name stands twice
abbrev pub AreApart : List (List ℕ) → Type 0
AreApart [] = Unit {0}
AreApart (name ∷ names) = (among name names ≡ false) × AreApart names

pub same_name : (a b : List ℕ) → bytes_eq a b ≡ true → a ≡ b
same_name a b e = (bytes_eq-Decides a b).0 e

pub other_name : (a b : List ℕ) → bytes_eq a b ≡ false → a ≢ b
other_name a b e same = false≢true (sym e ∙ (bytes_eq-Decides a b).1 same)

pub eq_turned : (a b : List ℕ) (t : Bool) → bytes_eq a b ≡ t → bytes_eq b a ≡ t
eq_turned a b true e = (bytes_eq-Decides b a).1 (sym (same_name a b e))
eq_turned a b false e = by (bytes_eq b a) refl
  where
    by : (u : Bool) → bytes_eq b a ≡ u → bytes_eq b a ≡ false
    by true h = absurd (other_name a b e (sym (same_name b a h)))
    by false h = h

-- without one name, each other is among the names as before
other_stays : (x y : List ℕ) (names : List (List ℕ)) → bytes_eq x y ≡ false
    → among x (filter (λ z. not (bytes_eq y z)) names) ≡ among x names
other_stays x y [] e = refl
other_stays x y (z ∷ names) e = by (bytes_eq y z) refl (other_stays x y names e)
  where
    by : (t : Bool) → bytes_eq y z ≡ t
        → among x (filter (λ w. not (bytes_eq y w)) names) ≡ among x names
        → among x (cond (not t) (z ∷ filter (λ w. not (bytes_eq y w)) names)
        (filter (λ w. not (bytes_eq y w)) names)) ≡ (bytes_eq x z || among x names)
    by true h rest =
        let no : bytes_eq x z ≡ false = ap (bytes_eq x) (sym (same_name y z h)) ∙ e in
        rest ∙ sym (ap (λ t. t || among x names) no)
    by false h rest = ap (λ t. bytes_eq x z || t) rest

-- and that one is among them no more
gone : (y : List ℕ) (names : List (List ℕ))
    → among y (filter (λ z. not (bytes_eq y z)) names) ≡ false
gone y [] = refl
gone y (z ∷ names) = by (bytes_eq y z) refl (gone y names)
  where
    by : (t : Bool) → bytes_eq y z ≡ t
        → among y (filter (λ w. not (bytes_eq y w)) names) ≡ false
        → among y (cond (not t) (z ∷ filter (λ w. not (bytes_eq y w)) names)
        (filter (λ w. not (bytes_eq y w)) names)) ≡ false
    by true h rest = rest
    by false h rest = ap (λ t. t || among y (filter (λ w. not (bytes_eq y w)) names)) h ∙ rest

fewer : (x : List ℕ) (p : List ℕ → Bool) (names : List (List ℕ)) → among x names ≡ false
    → among x (filter p names) ≡ false
fewer x p [] e = refl
fewer x p (z ∷ names) e = by (p z) (bytes_eq x z) refl e (fewer x p names)
  where
    by : (t u : Bool) → bytes_eq x z ≡ u → (u || among x names) ≡ false
        → (among x names ≡ false → among x (filter p names) ≡ false)
        → among x (cond t (z ∷ filter p names) (filter p names)) ≡ false
    by t true h n rest = absurd (false≢true (sym n))
    by true false h n rest = ap (λ u. u || among x (filter p names)) h ∙ rest n
    by false false h n rest = rest n

apart_fewer : (p : List ℕ → Bool) (names : List (List ℕ)) → AreApart names
    → AreApart (filter p names)
apart_fewer p [] apart = tt
apart_fewer p (z ∷ names) apart = by (p z) (apart_fewer p names apart.1)
  where
    by : (t : Bool) → AreApart (filter p names) → AreApart (cond t (z ∷ filter p names) (filter p names))
    by true rest = (fewer z p names apart.0, rest)
    by false rest = rest

-- the first names are distinct
pub firsts_apart : (names : List (List ℕ)) → AreApart (firsts names)
unfolding firsts
firsts_apart [] = tt
firsts_apart (y ∷ names) =
    (gone y (firsts names), apart_fewer (λ z. not (bytes_eq y z)) (firsts names) (firsts_apart names))

-- and are the names of the list
pub firsts_among : (x : List ℕ) (names : List (List ℕ)) → among x (firsts names) ≡ among x names
unfolding firsts
firsts_among x [] = refl
firsts_among x (y ∷ names) = by (bytes_eq x y) refl (firsts_among x names)
  where
    by : (t : Bool) → bytes_eq x y ≡ t → among x (firsts names) ≡ among x names
        → (t || among x (filter (λ z. not (bytes_eq y z)) (firsts names))) ≡ (t || among x names)
    by true h rest = refl
    by false h rest = other_stays x y (firsts names) h ∙ rest

-- a name behind others stands there where it isn't among them
pub firsts_more : (names : List (List ℕ)) (x : List ℕ)
    → firsts (names ++ x ∷ []) ≡ cond (among x names) (firsts names) (firsts names ++ x ∷ [])
unfolding firsts
firsts_more [] x = refl
firsts_more (y ∷ names) x =
    ap (λ l. y ∷ filter (λ z. not (bytes_eq y z)) l) (firsts_more names x)
    ∙ by (among x names) (bytes_eq x y) refl
  where
    by : (t u : Bool) → bytes_eq x y ≡ u
        → y ∷ filter (λ z. not (bytes_eq y z)) (cond t (firsts names) (firsts names ++ x ∷ []))
        ≡ cond (u || t) (y ∷ filter (λ z. not (bytes_eq y z)) (firsts names))
        ((y ∷ filter (λ z. not (bytes_eq y z)) (firsts names)) ++ x ∷ [])
    by true true h = refl
    by true false h = refl
    by false true h = ap (λ l. y ∷ l) (filter-append (λ z. not (bytes_eq y z)) (firsts names) (x ∷ [])
        ∙ ap (λ t. filter (λ z. not (bytes_eq y z)) (firsts names) ++ cond (not t) (x ∷ []) [])
        (eq_turned x y true h) ∙ append-nil (filter (λ z. not (bytes_eq y z)) (firsts names)))
    by false false h = ap (λ l. y ∷ l) (filter-append (λ z. not (bytes_eq y z)) (firsts names) (x ∷ [])
        ∙ ap (λ t. filter (λ z. not (bytes_eq y z)) (firsts names) ++ cond (not t) (x ∷ []) [])
        (eq_turned x y false h))
