-- The indexes of a place, taken off one by one.
use Rattle.std.proofs.Common.{◌≡◌, refl, ap, ◌∙◌, ◌+◌, ◌==◌, ℕ, List, [], ◌∷◌, ◌++◌, Option, Some, None, map, take, drop}
use Rattle.std.specs.Prelude.{option_map}
use Rattle.std.specs.List.{slice_split}
use Rattle.std.proofs.lemmas.List.Splits.{slice_split_at, slice_split_none}
use Rattle.text_lines.specs.First.{HasNone, IsFirst}
use Rattle.edit_script.specs.Numbers.{index, all_of, place}

-- indexes before those of a place
abbrev pub joined : List ℕ → Option (List ℕ) → Option (List ℕ)
joined l None = None
joined l (Some m) = Some (l ++ m)

first_part : (rest : List ℕ) (i : ℕ) → IsFirst 47 rest i
    → place rest ≡ all_of (index (take i rest) ∷ map index
    (slice_split (λ b. b == 47) (drop (i + 1) rest)))
first_part rest i f = ap place f.split ∙ ap (λ l. all_of (map index l))
    (slice_split_at (λ b. b == 47) (take i rest) 47 (drop (i + 1) rest) f.before refl)

last_part : (rest : List ℕ) → HasNone 47 rest → place rest ≡ all_of (index rest ∷ [])
last_part rest h = ap (λ l. all_of (map index l)) (slice_split_none (λ b. b == 47) rest h)

append_more : (l m : List ℕ) (n : ℕ) → l ++ (n ∷ m) ≡ (l ++ n ∷ []) ++ m
append_more [] m n = refl
append_more (x ∷ l) m n = ap (λ k. x ∷ k) (append_more l m n)

joined_more : (l : List ℕ) (n : ℕ) (o : Option (List ℕ))
    → joined l (option_map (λ m. n ∷ m) o) ≡ joined (l ++ n ∷ []) o
joined_more l n None = refl
joined_more l n (Some m) = ap Some (append_more l m n)

pub none_before : (word : List ℕ) → place word ≡ joined [] (place word)
none_before word = of (place word)
  where
    of : (o : Option (List ℕ)) → o ≡ joined [] o
    of None = refl
    of (Some m) = refl

pub part_wrong : (word rest l : List ℕ) (i : ℕ) → place word ≡ joined l (place rest)
    → IsFirst 47 rest i → index (take i rest) ≡ None → place word ≡ None
part_wrong word rest l i e f g = e ∙ ap (joined l)
    (first_part rest i f ∙ ap (λ x. all_of (x ∷ map index
    (slice_split (λ b. b == 47) (drop (i + 1) rest)))) g)

pub part_more : (word rest l : List ℕ) (i n : ℕ) → place word ≡ joined l (place rest)
    → IsFirst 47 rest i → index (take i rest) ≡ Some n
    → place word ≡ joined (l ++ n ∷ []) (place (drop (i + 1) rest))
part_more word rest l i n e f g =
    e ∙ ap (joined l) (first_part rest i f ∙ ap (λ x. all_of
    (x ∷ map index (slice_split (λ b. b == 47) (drop (i + 1) rest)))) g)
    ∙ joined_more l n (place (drop (i + 1) rest))

pub last_wrong : (word rest l : List ℕ) → place word ≡ joined l (place rest) → HasNone 47 rest
    → index rest ≡ None → place word ≡ None
last_wrong word rest l e f g = e ∙ ap (joined l) (last_part rest f ∙ ap (λ x. all_of (x ∷ [])) g)

pub last_more : (word rest l : List ℕ) (n : ℕ) → place word ≡ joined l (place rest)
    → HasNone 47 rest → index rest ≡ Some n → place word ≡ Some (l ++ n ∷ [])
last_more word rest l n e f g = e ∙ ap (joined l) (last_part rest f ∙ ap (λ x. all_of (x ∷ [])) g)

pub ruleset parts = (none_before, part_wrong, part_more, last_wrong, last_more)
