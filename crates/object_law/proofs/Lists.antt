-- What is seen of lists, and how the values of a schema are judged by what is seen of them.
use Rattle.std.proofs.Common.{◌≡◌, ℕ, Bool, false, List, [], ◌∷◌, map, refl, sym, ap, ◌∙◌}
use Rattle.std.specs.Prelude.{◌||◌}
use Rattle.std.specs.List.{list_any}
use Rattle.sequences.specs.Pairs.{names_of}
use Rattle.schema_rows.specs.declared.schemas.Schema.{Schema}
use Rattle.schema_rows.specs.declared.schemas.Schema.TheVariants as S
use Rattle.schema_rows.specs.declared.values.Value.{Value}
use Rattle.schema_rows.specs.declared.values.Value.TheVariants as V
use Rattle.otio_model.specs.declared.objects.Object.{Object}
use Rattle.schema_rows.specs.Readings.{Reading}
use Rattle.schema_rows.specs.Families.{breaks, stilled}
use Rattle.object_law.proofs.SeenValues.{Folded, View, whole, these, seen, Glance, seen_reading}

pub both_more : {X : Type 0} (x y : X) (xs ys : List X) → x ≡ y → xs ≡ ys → x ∷ xs ≡ y ∷ ys
both_more {X} x y xs ys e h = ap (λ (z : X). z ∷ xs) e ∙ ap (λ (zs : List X). y ∷ zs) h

back_in : {X Y : Type 0} (φ : Folded) (r : X → Reading) (back : Glance φ.A → Y) (h : X → Y) → ((x : X) → back (seen_reading φ (r x)) ≡ h x)
    → (xs : List X) → map back (map (seen_reading φ) (map r xs)) ≡ map h xs
back_in φ r back h is [] = refl
back_in φ r back h is (x ∷ xs) = both_more (back (seen_reading φ (r x))) (h x) _ _ (is x) (back_in φ r back h is xs)

-- what is seen of readings determines what is made of what was read
pub made_once : {X Y : Type 0} (φ : Folded) (r : X → Reading) (back : Glance φ.A → Y) (h : X → Y) → ((x : X) → back (seen_reading φ (r x)) ≡ h x)
    → (xs ys : List X) → map (seen_reading φ) (map r xs) ≡ map (seen_reading φ) (map r ys) → map h xs ≡ map h ys
made_once φ r back h is xs ys e = sym (back_in φ r back h is xs) ∙ ap (map back) e ∙ back_in φ r back h is ys

plain_map : {X : Type 0} (xs : List X) → map (λ (x : X). x) xs ≡ xs
plain_map [] = refl
plain_map {X} (x ∷ xs) = ap (λ (zs : List X). x ∷ zs) (plain_map xs)

-- and what was read itself, where it can be made from what is seen
pub read_once : {X : Type 0} (φ : Folded) (r : X → Reading) (back : Glance φ.A → X) → ((x : X) → back (seen_reading φ (r x)) ≡ x)
    → (xs ys : List X) → map (seen_reading φ) (map r xs) ≡ map (seen_reading φ) (map r ys) → xs ≡ ys
read_once {X} φ r back is xs ys e = sym (plain_map xs) ∙ made_once φ r back (λ (x : X). x) is xs ys e ∙ plain_map ys

abbrev names_behind : {X : Type 0} → List (List ℕ × X) → List (List ℕ)
names_behind [] = []
names_behind (p ∷ ps) = names_of ps

abbrev head_or : {X : Type 0} → X → List X → X
head_or d [] = d
head_or d (x ∷ xs) = x

abbrev tail_of : {X : Type 0} → List X → List X
tail_of [] = []
tail_of (x ∷ xs) = xs

-- pairs are determined by their names and their values
pub pairs_once : {X : Type 0} (xs ys : List (List ℕ × X)) → names_of xs ≡ names_of ys → map (λ (p : List ℕ × X). p.1) xs ≡ map (λ (p : List ℕ × X). p.1) ys → xs ≡ ys
pairs_once [] [] e h = refl
pairs_once [] (y ∷ ys) e h = absurd (cc)
pairs_once (x ∷ xs) [] e h = absurd (cc)
pairs_once {X} (x ∷ xs) (y ∷ ys) e h =
    let name : x.0 ≡ y.0 = ap (head_or x.0) e in
    let value : x.1 ≡ y.1 = ap (head_or x.1) h in
    let pair : x ≡ y = ap (λ (n : List ℕ). let p : List ℕ × X = (n, x.1) in p) name ∙ ap (λ (v : X). let p : List ℕ × X = (y.0, v) in p) value in
    both_more x y xs ys pair (pairs_once xs ys (ap tail_of e) (ap tail_of h))

-- a freeze frame's speed, in what is seen
abbrev pub still : {A : Type 0} → Schema → View A → View A
still s (whole v) = whole (stilled s v)
still s (these xs) = these xs

still_is : (φ : Folded) (s : Schema) (v : Value) → seen φ (stilled s v) ≡ still s (seen φ v)
still_is φ s (V.Text x) = refl
still_is φ s (V.Flag x) = refl
still_is φ s (V.Meta x) = refl
still_is φ s (V.Span x) = refl
still_is φ s (V.Time x) = refl
still_is φ s (V.Number x) = refl
still_is φ s (V.Items x) = refl
still_is φ s (V.Effects x) = refl
still_is φ s (V.Markers x) = refl
still_is φ s (V.Media x) = refl
still_is φ s (V.Medium x) = refl
still_is φ s (V.Stack x) = refl
still_is φ s (V.Objects x) = refl
still_is φ s (V.Rate x) = refl
still_is φ s (V.Numeral x) = refl

stills_are : (φ : Folded) (s : Schema) (vs : List Value) → map (seen φ) (map (stilled s) vs) ≡ map (still s) (map (seen φ) vs)
stills_are φ s [] = refl
stills_are φ s (v ∷ vs) = both_more (seen φ (stilled s v)) (still s (seen φ v)) _ _ (still_is φ s v) (stills_are φ s vs)

pub stills_once : (φ : Folded) (s : Schema) (vs ws : List Value) → map (seen φ) vs ≡ map (seen φ) ws → map (seen φ) (map (stilled s) vs) ≡ map (seen φ) (map (stilled s) ws)
stills_once φ s vs ws e = stills_are φ s vs ∙ ap (map (still s)) e ∙ sym (stills_are φ s ws)

-- whether a rule on transitions is broken, by what is seen
abbrev broken : {A : Type 0} → Schema → View A → Bool
broken s (whole v) = breaks s v
broken s (these xs) = false

objects_break : (s : Schema) (xs : List Object) → breaks s (V.Objects xs) ≡ false
objects_break S.Track xs = refl
objects_break S.Stack xs = refl
objects_break S.Transition xs = refl
objects_break _ xs = refl

broken_is : (φ : Folded) (s : Schema) (v : Value) → breaks s v ≡ broken s (seen φ v)
broken_is φ s (V.Text x) = refl
broken_is φ s (V.Flag x) = refl
broken_is φ s (V.Meta x) = refl
broken_is φ s (V.Span x) = refl
broken_is φ s (V.Time x) = refl
broken_is φ s (V.Number x) = refl
broken_is φ s (V.Items x) = refl
broken_is φ s (V.Effects x) = refl
broken_is φ s (V.Markers x) = refl
broken_is φ s (V.Media x) = refl
broken_is φ s (V.Medium x) = refl
broken_is φ s (V.Stack x) = refl
broken_is φ s (V.Objects x) = objects_break s x
broken_is φ s (V.Rate x) = refl
broken_is φ s (V.Numeral x) = refl

any_broken : (φ : Folded) (s : Schema) (vs : List Value) → list_any (breaks s) vs ≡ list_any (broken s) (map (seen φ) vs)
any_broken φ s [] = refl
any_broken φ s (v ∷ vs) = ap (λ (b : Bool). b || list_any (breaks s) vs) (broken_is φ s v) ∙ ap (λ (b : Bool). broken s (seen φ v) || b) (any_broken φ s vs)

pub breaks_once : (φ : Folded) (s : Schema) (vs ws : List Value) → map (seen φ) vs ≡ map (seen φ) ws → list_any (breaks s) vs ≡ list_any (breaks s) ws
breaks_once φ s vs ws e = any_broken φ s vs ∙ ap (list_any (broken s)) e ∙ sym (any_broken φ s ws)
